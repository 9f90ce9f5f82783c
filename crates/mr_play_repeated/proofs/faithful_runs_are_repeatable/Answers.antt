use Rattle.mr_play_repeated.proofs.Faithfully.{faithful_runs_are_repeatable_law}
use Rattle.mr_play_repeated.proofs.faithful_runs_are_repeatable.Goals as goal

pub returns : goal.returns
returns c = faithful_runs_are_repeatable_law
