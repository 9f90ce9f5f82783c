use Rattle.mr_world_model.specs.World.{Crash}
use Rattle.mr_world_state.proofs.Mastering.{no-master}
use Rattle.mr_world_state.proofs.Crashing.{not-allowed, taken}
use Rattle.mr_world_state.proofs.parts.Parts.check_crash.Goals as goal

pub returns-in_err-app-clause-foresees : goal.returns-in_err-app-clause-foresees
returns-in_err-app-clause-foresees c = no-master c.args.self.now (Crash c.args.k c.args.kept) c.args.k c.from_residual.result c.in_err-app.field-0.0 (λ w e. not-allowed c.args.self.now.config w c.args.k c.args.kept e) c.in_err-app.ensures.refused c.from_residual.ensures.1

pub returns-clause-foresees : goal.returns-clause-foresees
returns-clause-foresees c = taken c.args.self.now c.args.k c.args.kept c.in_ok-app.ensures.alive
