use Rattle.mr_play.proofs.Playing.{one_play_text_law}
use Rattle.mr_play.proofs.laws.one_play_text.Goals as goal

pub returns : goal.returns
returns c = one_play_text_law
