use Rattle.std.proofs.Common.{◌≡◌, false, refl}
use Rattle.mr_world_events.specs.declared.why.Why.TheVariants as Why
use Rattle.mr_world_model.specs.World.{World}
use Rattle.mr_world_state.specs.declared.fault.WorldFault.TheVariants as fault
use Rattle.mr_world_state.specs.Standing.{Standing}
use Rattle.mr_world_state.proofs.Asking.{if-err}
use Rattle.mr_world_state.proofs.parts.Parts.check_master.Goals as goal

pub returns-in_err-app-clause-refused : goal.returns-in_err-app-clause-refused
returns-in_err-app-clause-refused c = if-err (λ f. (f ≡ fault.NotNow Why.NoMaster) × ((w : World) → Standing c.args.self.now w → w.is_master c.args.k ≡ false)) c.from_residual.result c.in_err-app.field-0.0
    (c.in_err-app.ensures.refused.0, c.in_err-app.ensures.refused.1 c.args.self.now refl) c.from_residual.ensures.1
