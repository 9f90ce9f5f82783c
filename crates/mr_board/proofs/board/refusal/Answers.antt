use Rattle.mr_board.proofs.Making.{wants-memory}
use Rattle.mr_board.proofs.board.refusal.Goals as goal

pub returns-in-Ok : goal.returns-in-Ok
returns-in-Ok c = wants-memory c.args.world.now c.args.event c.in-Ok.ensures
