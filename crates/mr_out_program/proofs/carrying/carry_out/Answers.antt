use Rattle.mr_out_program.proofs.Advancing.{none_made, one_made}
use Rattle.mr_out_program.proofs.carrying.carry_out.Goals as goal

pub loop-init : goal.loop-init
loop-init c = none_made c.args.order c.args.directory.now c.new-command.result c.new-command.ensures

pub loop-preserved : goal.loop-preserved
loop-preserved c =
    one_made c.args.order c.args.directory.now c.loop.directory c.advance.new.directory c.loop.command c.advance.new.command c.loop.counter c.advance.result c.loop.invariant c.advance.ensures c.in_default.is
