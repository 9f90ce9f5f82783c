use Rattle.std.proofs.Common.{refl, sym, ap, is_some, Ok, Err}
use Rattle.mr_world_model.specs.World.{Duty}
use Rattle.mr_world_state.proofs.Asking.{no-master, not-there, at-generation, not-planned, not-foreseen, planned}
use Rattle.mr_world_state.proofs.parts.Parts.check_duty.Goals as goal

pub returns-in_err-app : goal.returns-in_err-app
returns-in_err-app c = not-foreseen c.args.self.now c.args.k c.args.weather c.from_residual.result c.in_err-app.field-0.0
    (no-master c.args.self.now c.args.k c.args.weather c.in_err-app.field-0.0 (c.in_err-app.ensures.refused.0, c.in_err-app.ensures.refused.1 c.args.self.now refl)) c.from_residual.ensures.1

pub returns-in_default : goal.returns-in_default
returns-in_default c = not-there c.args.self.now c.args.k c.args.weather (ap is_some (sym c.in_default.ensures))

pub returns-in_err-due : goal.returns-in_err-due
returns-in_err-due c = not-foreseen c.args.self.now c.args.k c.args.weather c.from_residual-in_err-due.result c.in_err-due.field-0.0
    (at-generation _ _ _ _ c.args.k c.args.weather (Err c.in_err-due.field-0.0) c.in_ok-app.ensures.is c.in_err-due.ensures c.args.self.now (record { names = refl; history = refl; at = sym c.in-Some.ensures })) c.from_residual-in_err-due.ensures.1

pub returns-in_err-_prepared : goal.returns-in_err-_prepared
returns-in_err-_prepared c =
    let due = at-generation _ _ _ _ c.args.k c.args.weather (Ok c.in_ok-due.due) c.in_ok-app.ensures.is c.in_ok-due.ensures c.args.self.now (record { names = refl; history = refl; at = sym c.in-Some.ensures }) in
    not-foreseen c.args.self.now c.args.k c.args.weather c.from_residual-in_err-_prepared.result c.in_err-_prepared.field-0.0
    (not-planned c.args.self.now c.args.k c.args.weather c.in_ok-due.due.duty.call c.in_ok-due.due.answer c.in_err-_prepared.field-0.0 due.1
    (c.in_err-_prepared.ensures.plans c.args.self.now c.args.k (record { bag = refl; at = sym c.in-Some.ensures }))) c.from_residual-in_err-_prepared.ensures.1

pub returns : goal.returns
returns c =
    let due = at-generation _ _ _ _ c.args.k c.args.weather (Ok c.in_ok-due.due) c.in_ok-app.ensures.is c.in_ok-due.ensures c.args.self.now (record { names = refl; history = refl; at = sym c.in-Some.ensures }) in
    planned c.args.self.now c.args.k c.args.weather c.in_ok-due.due.duty.call c.in_ok-due.due.answer c.in_ok-_prepared._prepared due.1
    (c.in_ok-_prepared.ensures.plans c.args.self.now c.args.k (record { bag = refl; at = sym c.in-Some.ensures }))
