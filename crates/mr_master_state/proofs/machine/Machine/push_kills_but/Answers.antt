use Rattle.std.proofs.Common.{◌≤◌, ◌∙◌, ap, length, List, ◌++◌, arith}
use Rattle.mr_packet.specs.declared.packet.Envelope.{Envelope}
use Rattle.mr_master_state.proofs.Others.{others-all}
use Rattle.mr_master_state.proofs.machine.Machine.push_kills_but.Goals as goal

pub returns : goal.returns
returns c = λ w s keeps.
    let all : length c.in_ok-live.live.items ≤ c.loop-i.i = omega (arith, c.len-i-end.ensures, c.in_ok-live.live.ok.0, c.loop-i-test.false) in
    c.loop-i.invariant w s keeps ∙ ap (λ (l : List Envelope). c.args.packets.now.items ++ l)
    (others-all w s c.args.ended.now c.args.task c.in_ok-live.live.items c.loop-i.i all (c.in_ok-live.ensures w s keeps))
