use Rattle.std.proofs.Common.{◌∙◌, sym}
use Rattle.mr_world_state.proofs.Delivering.{refused}
use Rattle.mr_world_state.proofs.parts.Parts.deliver.Goals as goal

pub returns-in-Nobody-clause-tries : goal.returns-in-Nobody-clause-tries
returns-in-Nobody-clause-tries c = λ w s. (refused c.args.self.now c.args.i (sym c.whom.ensures ∙ c.in-Nobody.is) w s, s)
