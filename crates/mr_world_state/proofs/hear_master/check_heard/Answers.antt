use Rattle.std.proofs.Common.{◌≡◌, ◌≤◌, ◌<◌, ◌+◌, Some, slice_get, sym, ap, subst, length, List, IsErrAnd, arith}
use Rattle.mr_packet.specs.declared.packet.Envelope.{Envelope}
use Rattle.mr_packet.specs.declared.bag.TheConstants.{MAX_PACKETS}
use Rattle.mr_world_model.specs.World.{Deliver}
use Rattle.mr_world_state.proofs.Hearing_masters.{allowed, needs, replies, of-master}
use Rattle.mr_world_state.proofs.Refusals.{memory-foreseen, full-foreseen, taken-by}
use Rattle.mr_world_state.proofs.hear_master.check_heard.Goals as goal

pub returns-in_err-prepared-clause-foresees : goal.returns-in_err-prepared-clause-foresees
returns-in_err-prepared-clause-foresees c = λ p k keeps to. memory-foreseen p (Deliver c.args.i) c.from_residual.result (allowed p c.args.i k c.args.machine.now to keeps.at) (λ w s. of-master p w c.args.i k s to) c.from_residual.ensures.1

pub returns-in_err-check_room-clause-foresees : goal.returns-in_err-check_room-clause-foresees
returns-in_err-check_room-clause-foresees c = λ p k keeps to. let e = ap length c.packets.ensures in let b = ap length keeps.bag in let many = c.in_err-check_room.ensures.full.1 in
    full-foreseen p (Deliver c.args.i) (length c.in_ok-prepared.prepared.packets) c.from_residual-in_err-check_room.result
    (needs p c.args.i k c.args.machine.now c.in_ok-prepared.prepared.packets to keeps.at
    (replies p c.args.i c.args.machine.now c.in_ok-prepared.prepared (λ x at. c.in_ok-prepared.ensures x (subst (λ (es : List Envelope). slice_get es c.args.i ≡ Some x) keeps.bag at))))
    (omega (arith, e, b, many)) (subst (λ f. IsErrAnd c.from_residual-in_err-check_room.result (λ g. g ≡ f)) c.in_err-check_room.ensures.full.0 c.from_residual-in_err-check_room.ensures.1)

pub returns-clause-foresees : goal.returns-clause-foresees
returns-clause-foresees c = λ p k keeps to w s. let e = ap length c.packets.ensures in let b = ap length keeps.bag in let few = c.in_ok-check_room.ensures.room in
    taken-by s (needs p c.args.i k c.args.machine.now c.in_ok-prepared.prepared.packets to keeps.at
    (replies p c.args.i c.args.machine.now c.in_ok-prepared.prepared (λ x at. c.in_ok-prepared.ensures x (subst (λ (es : List Envelope). slice_get es c.args.i ≡ Some x) keeps.bag at))) w s)
    (omega (arith, e, b, few))

pub returns-clause-room : goal.returns-clause-room
returns-clause-room c = let e = ap length c.packets.ensures in let few = c.in_ok-check_room.ensures.room in omega (arith, e, few)
