use Rattle.std.proofs.Common.{refl, sym, ap, is_some}
use Rattle.mr_world_state.proofs.Asking.{refused-early, no-master, not-there, at-generation}
use Rattle.mr_world_state.proofs.parts.Parts.foresee_duty.Goals as goal

pub returns-in_err-app : goal.returns-in_err-app
returns-in_err-app c = refused-early c.args.self.now c.args.k c.args.weather c.from_residual.result c.in_err-app.field-0.0
    (no-master c.args.self.now c.args.k c.args.weather c.in_err-app.field-0.0 (c.in_err-app.ensures.refused.0, c.in_err-app.ensures.refused.1 c.args.self.now refl)) c.from_residual.ensures.1

pub returns-in_default : goal.returns-in_default
returns-in_default c = not-there c.args.self.now c.args.k c.args.weather (ap is_some (sym c.in_default.ensures))

pub returns : goal.returns
returns c = at-generation _ _ _ _ c.args.k c.args.weather c.find_duty.result c.in_ok-app.ensures.is c.find_duty.ensures c.args.self.now (record { names = refl; history = refl; at = sym c.in-Some.ensures })
