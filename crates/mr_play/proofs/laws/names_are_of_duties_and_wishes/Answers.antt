use Rattle.mr_play.proofs.Playing.{names_are_of_duties_and_wishes_law}
use Rattle.mr_play.proofs.laws.names_are_of_duties_and_wishes.Goals as goal

pub returns : goal.returns
returns c = names_are_of_duties_and_wishes_law
