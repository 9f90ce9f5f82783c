use Rattle.mr_play.proofs.Calming.{calms_are_permitted_law}
use Rattle.mr_play.proofs.laws.calms_are_permitted.Goals as goal

pub returns : goal.returns
returns c = calms_are_permitted_law
