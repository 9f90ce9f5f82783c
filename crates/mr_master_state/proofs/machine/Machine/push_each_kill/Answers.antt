use Rattle.mr_master_model.specs.Sends.{kill_of}
use Rattle.mr_master_state.proofs.Gathering.{next-item}
use Rattle.mr_master_state.proofs.machine.Machine.push_each_kill.Goals as goal

pub loop-i-preserved : goal.loop-i-preserved
loop-i-preserved c = λ w s keeps.
    next-item (kill_of w s) c.args.attempts.now c.loop-i.i c.index-attempts-i.result c.args.packets.now.items c.loop-i.packets.items c.push_kill.new.packets.items
    c.loop-i-test.true c.index-attempts-i.is (c.loop-i.invariant w s keeps) (c.in_ok-push_kill.ensures w s keeps)
