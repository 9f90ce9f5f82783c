use Rattle.std.proofs.Common.{◌≡◌, refl, sym, ap, subst, length, IsErrAnd, arith}
use Rattle.mr_world_model.specs.World.{Expire}
use Rattle.mr_world_state.specs.declared.fault.WorldFault.{WorldFault}
use Rattle.mr_world_state.specs.Standing.{RefusesEvent}
use Rattle.mr_world_state.proofs.Expiring.{refused, allowed, needs, only-memory}
use Rattle.mr_world_state.proofs.Refusals.{refuses-memory, taken-by, full-foreseen}
use Rattle.mr_world_state.proofs.expire.check_expiry.Goals as goal

pub returns-in-Some-clause-foresees : goal.returns-in-Some-clause-foresees
returns-in-Some-clause-foresees c = λ p k keeps. refused p k c.args.node c.args.machine.now c.expire_refusal.result c.in-Some.fault c.why.result (keeps.at, c.expire_refusal.ensures) c.in-Some.is c.why.ensures

pub returns-in-Err-clause-foresees : goal.returns-in-Err-clause-foresees
returns-in-Err-clause-foresees c = λ p k keeps w s. subst (λ (f : WorldFault). RefusesEvent p.config w (Expire k c.args.node) f) (sym c.from.ensures) (refuses-memory _
    (allowed p k c.args.node c.args.machine.now c.expire_refusal.result (keeps.at, c.expire_refusal.ensures) c.in_default.is w s) refl)

pub wants_memory-requires : goal.wants_memory-requires
wants_memory-requires c = only-memory c.args.machine.now c.args.node c.expire_refusal.result c.in-Err.fault _ c.stands.ensures c.expire_refusal.ensures c.in_default.is c.in-Err.ensures.refused

pub returns-in_err-check_room-clause-foresees : goal.returns-in_err-check_room-clause-foresees
returns-in_err-check_room-clause-foresees c = λ p k keeps. let e = ap length c.packets.ensures in let b = ap length keeps.bag in let many = c.in_err-check_room.ensures.full.1 in
    full-foreseen p (Expire k c.args.node) (length c.in-Ok.prepared.packets) c.from_residual.result
    (needs p k c.args.node c.args.machine.now c.expire_refusal.result c.in-Ok.prepared.packets (keeps.at, c.expire_refusal.ensures) c.in_default.is c.in-Ok.ensures.sent)
    (omega (arith, e, b, many)) (subst (λ f. IsErrAnd c.from_residual.result (λ g. g ≡ f)) c.in_err-check_room.ensures.full.0 c.from_residual.ensures.1)

pub returns-clause-foresees : goal.returns-clause-foresees
returns-clause-foresees c = λ p k keeps w s. let e = ap length c.packets.ensures in let b = ap length keeps.bag in let few = c.in_ok-check_room.ensures.room in
    taken-by s (needs p k c.args.node c.args.machine.now c.expire_refusal.result c.in-Ok.prepared.packets (keeps.at, c.expire_refusal.ensures) c.in_default.is c.in-Ok.ensures.sent w s)
    (omega (arith, e, b, few))

pub returns-clause-room : goal.returns-clause-room
returns-clause-room c = let e = ap length c.packets.ensures in let few = c.in_ok-check_room.ensures.room in omega (arith, e, few)
