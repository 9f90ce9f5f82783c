use Rattle.mr_explore.proofs.Telling.{outcomes_are_printed_law}
use Rattle.mr_explore.proofs.laws.outcomes_are_printed.Goals as goal

pub returns : goal.returns
returns c = outcomes_are_printed_law
