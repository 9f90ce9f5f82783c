use Rattle.std.proofs.Common.{refl, sym, ap, is_some, Some, subst, ◌∙◌}
use Rattle.mr_packet.specs.declared.packet.Address.TheVariants.{Master}
use Rattle.mr_master_model.specs.Past.{Hears}
use Rattle.mr_master.specs.Prepared.{PlansFor}
use Rattle.mr_world_model.specs.World.{Deliver}
use Rattle.mr_world_state.proofs.Attending.{lent, stands-still, same-stands}
use Rattle.mr_world_state.proofs.Hearing_masters.{dead, acted, replies}
use Rattle.mr_world_state.proofs.Mastering.{stood, masters-stay}
use Rattle.mr_world_state.proofs.Refusals.{memory-tried, refused-tried}
use Rattle.mr_world_state.proofs.parts.Parts.hear_master.Goals as goal

pub returns-in_default-clause-tries : goal.returns-in_default-clause-tries
returns-in_default-clause-tries c = λ w s. (dead c.args.self.now c.args.i c.args.k c.requires (ap is_some (sym c.in_default.ensures.value)) w s, stood c.args.self.now w _ s (masters-stay c.get_mut.follows.holds-at-none s.masters))

pub returns-in_err-prepared-clause-tries : goal.returns-in_err-prepared-clause-tries
returns-in_err-prepared-clause-tries c = refused-tried c.args.self.now _ (Deliver c.args.i) c.from_residual.result c.in_err-prepared.field-0.0
    (c.in_err-prepared.ensures.foresees c.args.self.now c.args.k (record { bag = refl; at = sym c.in-Some.ensures.value ∙ ap Some (sym c.deref.ensures) }) c.requires)
    (λ w s. stands-still c.args.self.now w c.args.k _ c.args.self.now.bag c.in-Some.machine.now c.in-Some.machine.now s (sym c.in-Some.ensures.value)
    (lent c.get_mut.result c.in-Some.machine c.in-Some.is (c.get_mut.follows.holds c.in-Some.machine.now)) (same-stands c.in-Some.machine.now) refl) c.from_residual.ensures.1

pub returns-in_err-take_step-clause-tries : goal.returns-in_err-take_step-clause-tries
returns-in_err-take_step-clause-tries c = memory-tried c.args.self.now _ (Deliver c.args.i) c.from_residual-in_err-take_step.result
    (c.in_ok-prepared.ensures.foresees c.args.self.now c.args.k (record { bag = refl; at = sym c.in-Some.ensures.value ∙ ap Some (sym c.deref.ensures) }) c.requires)
    (λ w s. stands-still c.args.self.now w c.args.k _ c.take_step.new.bag c.in-Some.machine.now c.take_step.new.machine s (sym c.in-Some.ensures.value)
    (lent c.get_mut.result c.in-Some.machine c.in-Some.is (c.get_mut.follows.holds c.take_step.new.machine)) c.in_err-take_step.ensures.still c.in_err-take_step.ensures.unsent) c.from_residual-in_err-take_step.ensures.1

pub take_step-requires-clause-planned : goal.take_step-requires-clause-planned
take_step-requires-clause-planned c = (Hears c.requires.0, subst (λ m. PlansFor m (Hears c.requires.0) c.in_ok-prepared.prepared) c.deref.ensures (c.in_ok-prepared.ensures.planned (record { to = Master c.args.k; body = c.requires.0 }) c.requires.1))

pub returns-clause-tries : goal.returns-clause-tries
returns-clause-tries c = λ w s.
    let t = c.in_ok-prepared.ensures.foresees c.args.self.now c.args.k (record { bag = refl; at = sym c.in-Some.ensures.value ∙ ap Some (sym c.deref.ensures) }) c.requires w s in (
      t,
      acted c.args.self.now w c.args.i c.args.k _ c.take_step.new.bag c.in-Some.machine.now c.take_step.new.machine c.in_ok-prepared.prepared.packets s t c.requires (sym c.in-Some.ensures.value)
          (lent c.get_mut.result c.in-Some.machine c.in-Some.is (c.get_mut.follows.holds c.take_step.new.machine))
          (c.in_ok-take_step.ensures.stands (Hears c.requires.0) (subst (λ m. PlansFor m (Hears c.requires.0) c.in_ok-prepared.prepared) c.deref.ensures (c.in_ok-prepared.ensures.planned (record { to = Master c.args.k; body = c.requires.0 }) c.requires.1)))
          (replies c.args.self.now c.args.i c.in-Some.machine.now c.in_ok-prepared.prepared (λ e at. subst (λ m. PlansFor m (Hears e.body) c.in_ok-prepared.prepared) c.deref.ensures (c.in_ok-prepared.ensures.planned e at))) c.in_ok-take_step.ensures.sent,
    )
