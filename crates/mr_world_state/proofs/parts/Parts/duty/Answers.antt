use Rattle.std.proofs.Common.{◌≡◌, refl, sym, ap, subst, is_some, Some, Ok, Err, ◌∙◌, ◌++◌}
use Rattle.mr_master.specs.Prepared.{PlansFor}
use Rattle.mr_master.specs.State.{Master, Stands, StandsStill}
use Rattle.mr_master_model.specs.Past.{Answered}
use Rattle.mr_world_state.specs.declared.fault.WorldFault.TheVariants as fault
use Rattle.mr_world_state.proofs.Asking.{no-master, not-there, at-generation, unchanged-so, not-planned, not-asked, asked, of-due, suited-so, still-so}
use Rattle.mr_world_state.proofs.Attending.{lent, own-is, own-refused, stands-still, still-stands, same-stands}
use Rattle.mr_world_state.proofs.Histories.{called}
use Rattle.mr_world_state.proofs.Mastering.{stood, masters-stay}
use Rattle.mr_world_state.proofs.parts.Parts.duty.Goals as goal

pub returns-in_err-app-clause-tries : goal.returns-in_err-app-clause-tries
returns-in_err-app-clause-tries c = unchanged-so c.args.self.now c.args.self.now c.args.k c.args.weather c.from_residual.result c.in_err-app.field-0.0
    (λ w s. (no-master c.args.self.now c.args.k c.args.weather c.in_err-app.field-0.0 (c.in_err-app.ensures.refused.0, c.in_err-app.ensures.refused.1 c.args.self.now refl) w s, s)) c.from_residual.ensures.1

pub returns-in_default-clause-tries : goal.returns-in_default-clause-tries
returns-in_default-clause-tries c = λ w s. (not-there c.args.self.now c.args.k c.args.weather (ap is_some (sym c.in_default.ensures.value)) w s, stood c.args.self.now w _ s (masters-stay c.get_mut.follows.holds-at-none s.masters))

pub returns-in_err-duty-clause-tries : goal.returns-in_err-duty-clause-tries
returns-in_err-duty-clause-tries c = unchanged-so c.args.self.now _ c.args.k c.args.weather c.from_residual-in_err-duty.result c.in_err-duty.field-0.0
    (λ w s. (
      at-generation _ _ _ _ c.args.k c.args.weather (Err c.in_err-duty.field-0.0) c.in_ok-app.ensures.is c.in_err-duty.ensures c.args.self.now (record { names = refl; history = refl; at = sym c.in-Some.ensures.value ∙ ap Some (sym c.deref.ensures) }) w s,
      stands-still c.args.self.now w c.args.k _ c.args.self.now.bag c.in-Some.machine.now c.in-Some.machine.now s (sym c.in-Some.ensures.value)
          (lent c.get_mut.result c.in-Some.machine c.in-Some.is (c.get_mut.follows.holds c.in-Some.machine.now)) (same-stands c.in-Some.machine.now) refl,
    )) c.from_residual-in_err-duty.ensures.1

pub returns-in_err-prepared-clause-tries : goal.returns-in_err-prepared-clause-tries
returns-in_err-prepared-clause-tries c =
    let due = at-generation _ _ _ _ c.args.k c.args.weather (Ok c.in_ok-duty.field-0) c.in_ok-app.ensures.is c.in_ok-duty.ensures c.args.self.now (record { names = refl; history = refl; at = sym c.in-Some.ensures.value ∙ ap Some (sym c.deref.ensures) }) in
    unchanged-so c.args.self.now _ c.args.k c.args.weather c.from_residual-in_err-prepared.result c.in_err-prepared.field-0.0
    (λ w s. (
      not-planned c.args.self.now c.args.k c.args.weather c.in_ok-duty.field-0.duty.call c.in_ok-duty.field-0.answer c.in_err-prepared.field-0.0 due.1
          (c.in_err-prepared.ensures.plans c.args.self.now c.args.k (record { bag = refl; at = sym c.in-Some.ensures.value ∙ ap Some (sym c.deref-2.ensures) })) w s,
      stands-still c.args.self.now w c.args.k _ c.args.self.now.bag c.in-Some.machine.now c.in-Some.machine.now s (sym c.in-Some.ensures.value)
          (lent c.get_mut.result c.in-Some.machine c.in-Some.is (c.get_mut.follows.holds c.in-Some.machine.now)) (same-stands c.in-Some.machine.now) refl,
    )) c.from_residual-in_err-prepared.ensures.1

pub returns-in_err-make_room-clause-tries : goal.returns-in_err-make_room-clause-tries
returns-in_err-make_room-clause-tries c =
    let due = at-generation _ _ _ _ c.args.k c.args.weather (Ok c.in_ok-duty.field-0) c.in_ok-app.ensures.is c.in_ok-duty.ensures c.args.self.now (record { names = refl; history = refl; at = sym c.in-Some.ensures.value ∙ ap Some (sym c.deref.ensures) }) in
    unchanged-so c.args.self.now _ c.args.k c.args.weather c.from_residual-in_err-make_room.result fault.NoMemory
    (not-asked c.args.self.now _ c.args.k c.args.weather c.in_ok-duty.field-0.duty.call c.in_ok-duty.field-0.answer due.1
    (λ w s. stands-still c.args.self.now w c.args.k _ c.make_room.new.bag c.in-Some.machine.now (c.own.follows.lender c.make_room.new.machine) s (sym c.in-Some.ensures.value)
    (lent c.get_mut.result c.in-Some.machine c.in-Some.is (c.get_mut.follows.holds (c.own.follows.lender c.make_room.new.machine))) (subst (λ (m : Master). StandsStill c.in-Some.machine.now m) (sym (own-is c.own.result c.in_ok-machine.machine c.in_ok-machine.was (c.own.follows.holds c.make_room.new.machine))) (λ v past at. c.make_room.ensures.still v past (c.in_ok-machine.ensures.still v past at))) c.make_room.ensures.bag)) c.from_residual-in_err-make_room.ensures.1

pub returns-in_err-ask-clause-tries : goal.returns-in_err-ask-clause-tries
returns-in_err-ask-clause-tries c =
    let due = at-generation _ _ _ _ c.args.k c.args.weather (Ok c.in_ok-duty.field-0) c.in_ok-app.ensures.is c.in_ok-duty.ensures c.args.self.now (record { names = refl; history = refl; at = sym c.in-Some.ensures.value ∙ ap Some (sym c.deref.ensures) }) in
    unchanged-so c.args.self.now _ c.args.k c.args.weather c.from_residual-in_err-ask.result fault.NoMemory
    (not-asked c.args.self.now _ c.args.k c.args.weather c.in_ok-duty.field-0.duty.call c.in_ok-duty.field-0.answer due.1
    (λ w s. still-so (record c.args.self.now { masters = c.get_mut.follows.lender (c.own.follows.lender c.make_room.new.machine); bag = c.make_room.new.bag }) w _ _ c.in_err-ask.ensures.names c.in_err-ask.ensures.history
    (stands-still c.args.self.now w c.args.k _ c.make_room.new.bag c.in-Some.machine.now (c.own.follows.lender c.make_room.new.machine) s (sym c.in-Some.ensures.value)
    (lent c.get_mut.result c.in-Some.machine c.in-Some.is (c.get_mut.follows.holds (c.own.follows.lender c.make_room.new.machine))) (subst (λ (m : Master). StandsStill c.in-Some.machine.now m) (sym (own-is c.own.result c.in_ok-machine.machine c.in_ok-machine.was (c.own.follows.holds c.make_room.new.machine))) (λ v past at. c.make_room.ensures.still v past (c.in_ok-machine.ensures.still v past at))) c.make_room.ensures.bag))) c.from_residual-in_err-ask.ensures.1

pub returns-clause-tries : goal.returns-clause-tries
returns-clause-tries c =
    let due = at-generation _ _ _ _ c.args.k c.args.weather (Ok c.in_ok-duty.field-0) c.in_ok-app.ensures.is c.in_ok-duty.ensures c.args.self.now (record { names = refl; history = refl; at = sym c.in-Some.ensures.value ∙ ap Some (sym c.deref.ensures) }) in
    let ready = c.in_ok-make_room.ensures.ready (Answered c.in_ok-duty.field-0.answer) (c.in_ok-machine.ensures.plans (Answered c.in_ok-duty.field-0.answer) c.in_ok-prepared.prepared (subst (λ (m : Master). PlansFor m (Answered c.in_ok-duty.field-0.answer) c.in_ok-prepared.prepared) c.deref-2.ensures c.in_ok-prepared.ensures.planned)) in
    asked c.args.self.now _ c.act.new.bag c.ask.new.names c.ask.new.history c.in-Some.machine.now (c.own.follows.lender c.act.new.machine) c.args.k c.args.weather c.in_ok-duty.field-0.duty.call c.in_ok-duty.field-0.answer c.in_ok-prepared.prepared
    due.1 (c.in_ok-prepared.ensures.plans c.args.self.now c.args.k (record { bag = refl; at = sym c.in-Some.ensures.value ∙ ap Some (sym c.deref-2.ensures) })) (sym c.in-Some.ensures.value)
    (lent c.get_mut.result c.in-Some.machine c.in-Some.is (c.get_mut.follows.holds (c.own.follows.lender c.act.new.machine)))
    (subst (λ (m : Master). Stands c.in-Some.machine.now (Answered c.in_ok-duty.field-0.answer) m) (sym (own-is c.own.result c.in_ok-machine.machine c.in_ok-machine.was (c.own.follows.holds c.act.new.machine)))
    (still-stands c.in-Some.machine.now c.in_ok-machine.machine.now c.act.new.machine (Answered c.in_ok-duty.field-0.answer) c.in_ok-machine.ensures.still
    (still-stands c.in_ok-machine.machine.now c.make_room.new.machine c.act.new.machine (Answered c.in_ok-duty.field-0.answer) c.make_room.ensures.still (c.act.ensures.stands (Answered c.in_ok-duty.field-0.answer) ready))))
    (c.act.ensures.sent ∙ ap (λ es. es ++ c.in_ok-prepared.prepared.packets) c.make_room.ensures.bag)
    (of-due _ _ _ _ c.args.k c.in_ok-app.app c.args.weather c.in_ok-duty.field-0.duty.call c.call.result.now c.in_ok-app.ensures.is c.call.ensures c.in_ok-ask.ensures.ok)

pub returns-clause-calls : goal.returns-clause-calls
returns-clause-calls c =
    let due = at-generation _ _ _ _ c.args.k c.args.weather (Ok c.in_ok-duty.field-0) c.in_ok-app.ensures.is c.in_ok-duty.ensures c.args.self.now (record { names = refl; history = refl; at = sym c.in-Some.ensures.value ∙ ap Some (sym c.deref.ensures) }) in
    called c.args.self.now _ _ c.args.k c.args.weather c.in_ok-duty.field-0.duty.call c.in_ok-duty.field-0.answer due.1
    (of-due _ _ _ _ c.args.k c.in_ok-app.app c.args.weather c.in_ok-duty.field-0.duty.call c.call.result.now c.in_ok-app.ensures.is c.call.ensures c.in_ok-ask.ensures.ok)

pub ask-requires-clause-suited : goal.ask-requires-clause-suited
ask-requires-clause-suited c =
    let due = at-generation _ _ _ _ c.args.k c.args.weather (Ok c.in_ok-duty.field-0) c.in_ok-app.ensures.is c.in_ok-duty.ensures c.args.self.now (record { names = refl; history = refl; at = sym c.in-Some.ensures.value ∙ ap Some (sym c.deref.ensures) }) in
    suited-so c.args.self.now c.requires.0 c.args.k c.in_ok-app.app c.in_ok-duty.field-0.duty.call c.call.result.now c.args.self.now.history c.requires.1 due.1.due c.in_ok-app.ensures.is c.call.ensures

pub act-requires-clause-ready : goal.act-requires-clause-ready
act-requires-clause-ready c = (Answered c.in_ok-duty.field-0.answer, c.in_ok-make_room.ensures.ready (Answered c.in_ok-duty.field-0.answer) (c.in_ok-machine.ensures.plans (Answered c.in_ok-duty.field-0.answer) c.in_ok-prepared.prepared (subst (λ (m : Master). PlansFor m (Answered c.in_ok-duty.field-0.answer) c.in_ok-prepared.prepared) c.deref-2.ensures c.in_ok-prepared.ensures.planned)))

pub returns-in_err-machine-clause-tries : goal.returns-in_err-machine-clause-tries
returns-in_err-machine-clause-tries c =
    let due = at-generation _ _ _ _ c.args.k c.args.weather (Ok c.in_ok-duty.field-0) c.in_ok-app.ensures.is c.in_ok-duty.ensures c.args.self.now (record { names = refl; history = refl; at = sym c.in-Some.ensures.value ∙ ap Some (sym c.deref.ensures) }) in
    unchanged-so c.args.self.now _ c.args.k c.args.weather c.from_residual-in_err-machine.result fault.NoMemory
    (not-asked c.args.self.now _ c.args.k c.args.weather c.in_ok-duty.field-0.duty.call c.in_ok-duty.field-0.answer due.1
    (λ w s. stands-still c.args.self.now w c.args.k _ c.args.self.now.bag c.in-Some.machine.now c.own.follows.lender-at-none s (sym c.in-Some.ensures.value)
    (lent c.get_mut.result c.in-Some.machine c.in-Some.is (c.get_mut.follows.holds c.own.follows.lender-at-none)) (own-refused c.own.result c.in_err-machine.field-0.0 c.in_err-machine.was c.own.follows.holds-at-none) refl)) c.from_residual-in_err-machine.ensures.1
