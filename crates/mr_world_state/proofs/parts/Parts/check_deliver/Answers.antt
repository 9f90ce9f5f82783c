use Rattle.std.proofs.Common.{◌∙◌, sym}
use Rattle.mr_world_state.proofs.Delivering.{refused}
use Rattle.mr_world_state.proofs.parts.Parts.check_deliver.Goals as goal

pub returns-in-Nobody : goal.returns-in-Nobody
returns-in-Nobody c = refused c.args.self.now c.args.i (sym c.whom.ensures ∙ c.in-Nobody.is)
