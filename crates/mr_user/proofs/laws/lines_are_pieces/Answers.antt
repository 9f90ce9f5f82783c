use Rattle.mr_user.proofs.Meanings.{lines_are}
use Rattle.mr_user.proofs.laws.lines_are_pieces.Goals as goal

pub returns : goal.returns
returns c = lines_are
