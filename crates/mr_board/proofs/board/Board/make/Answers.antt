use Rattle.std.proofs.Common.{refl}
use Rattle.mr_world.proofs.Headlines.{holds-still}
use Rattle.mr_board.proofs.board.Board.make.Goals as goal

pub returns-in-Err-clause-headline : goal.returns-in-Err-clause-headline
returns-in-Err-clause-headline g c = holds-still _ _ refl
