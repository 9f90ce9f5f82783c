use Rattle.mr_play_repeated.proofs.Scripted.{scripts_are_repeatable_law}
use Rattle.mr_play_repeated.proofs.scripts_are_repeatable.Goals as goal

pub returns : goal.returns
returns c = scripts_are_repeatable_law
