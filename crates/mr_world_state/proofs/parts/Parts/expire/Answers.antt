use Rattle.std.proofs.Common.{refl, sym, ap, is_some, Some, subst, ◌∙◌}
use Rattle.mr_master_model.specs.Past.{Expires}
use Rattle.mr_master.specs.Prepared.{PlansFor}
use Rattle.mr_world_model.specs.World.{Expire}
use Rattle.mr_world_state.proofs.Attending.{lent, stands-still, same-stands, says-planned}
use Rattle.mr_world_state.proofs.Expiring.{dead, acted}
use Rattle.mr_world_state.proofs.Mastering.{stood, masters-stay}
use Rattle.mr_world_state.proofs.Refusals.{memory-tried, refused-tried}
use Rattle.mr_world_state.proofs.parts.Parts.expire.Goals as goal

pub returns-in_default-clause-tries : goal.returns-in_default-clause-tries
returns-in_default-clause-tries c = λ w s. (dead c.args.self.now c.args.k c.args.node (ap is_some (sym c.in_default.ensures.value)) w s, stood c.args.self.now w _ s (masters-stay c.get_mut.follows.holds-at-none s.masters))

pub returns-in_err-prepared-clause-tries : goal.returns-in_err-prepared-clause-tries
returns-in_err-prepared-clause-tries c = refused-tried c.args.self.now _ (Expire c.args.k c.args.node) c.from_residual.result c.in_err-prepared.field-0.0
    (c.in_err-prepared.ensures.foresees c.args.self.now c.args.k (record { bag = refl; at = sym c.in-Some.ensures.value ∙ ap Some (sym c.deref.ensures) }))
    (λ w s. stands-still c.args.self.now w c.args.k _ c.args.self.now.bag c.in-Some.machine.now c.in-Some.machine.now s (sym c.in-Some.ensures.value)
    (lent c.get_mut.result c.in-Some.machine c.in-Some.is (c.get_mut.follows.holds c.in-Some.machine.now)) (same-stands c.in-Some.machine.now) refl) c.from_residual.ensures.1

pub returns-in_err-take_step-clause-tries : goal.returns-in_err-take_step-clause-tries
returns-in_err-take_step-clause-tries c = memory-tried c.args.self.now _ (Expire c.args.k c.args.node) c.from_residual-in_err-take_step.result
    (c.in_ok-prepared.ensures.foresees c.args.self.now c.args.k (record { bag = refl; at = sym c.in-Some.ensures.value ∙ ap Some (sym c.deref.ensures) }))
    (λ w s. stands-still c.args.self.now w c.args.k _ c.take_step.new.bag c.in-Some.machine.now c.take_step.new.machine s (sym c.in-Some.ensures.value)
    (lent c.get_mut.result c.in-Some.machine c.in-Some.is (c.get_mut.follows.holds c.take_step.new.machine)) c.in_err-take_step.ensures.still c.in_err-take_step.ensures.unsent) c.from_residual-in_err-take_step.ensures.1

pub take_step-requires-clause-planned : goal.take_step-requires-clause-planned
take_step-requires-clause-planned c = (Expires c.args.node, subst (λ m. PlansFor m (Expires c.args.node) c.in_ok-prepared.prepared) c.deref.ensures c.in_ok-prepared.ensures.planned)

pub returns-clause-tries : goal.returns-clause-tries
returns-clause-tries c = λ w s.
    let t = c.in_ok-prepared.ensures.foresees c.args.self.now c.args.k (record { bag = refl; at = sym c.in-Some.ensures.value ∙ ap Some (sym c.deref.ensures) }) w s in (
      t,
      acted c.args.self.now w c.args.k c.args.node _ c.take_step.new.bag c.in-Some.machine.now c.take_step.new.machine c.in_ok-prepared.prepared.packets s t (sym c.in-Some.ensures.value)
          (lent c.get_mut.result c.in-Some.machine c.in-Some.is (c.get_mut.follows.holds c.take_step.new.machine)) (c.in_ok-take_step.ensures.stands (Expires c.args.node) (subst (λ m. PlansFor m (Expires c.args.node) c.in_ok-prepared.prepared) c.deref.ensures c.in_ok-prepared.ensures.planned))
          (says-planned c.in-Some.machine.now (Expires c.args.node) c.in_ok-prepared.prepared (subst (λ m. PlansFor m (Expires c.args.node) c.in_ok-prepared.prepared) c.deref.ensures c.in_ok-prepared.ensures.planned)) c.in_ok-take_step.ensures.sent,
    )
