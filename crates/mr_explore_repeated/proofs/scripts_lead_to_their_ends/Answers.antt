use Rattle.mr_explore_repeated.proofs.Going.{scripts_lead_to_their_ends_law}
use Rattle.mr_explore_repeated.proofs.scripts_lead_to_their_ends.Goals as goal

pub returns : goal.returns
returns c = scripts_lead_to_their_ends_law c.outcomes_are_printed.ensures
