use Rattle.mr_board_report.proofs.Running.{opens}
use Rattle.mr_board_report.proofs.run.Run.new.Goals as goal

pub invariant_of-result : goal.invariant_of-result
invariant_of-result g c = opens c.args.faults c.args.board.world c.requires.empty
