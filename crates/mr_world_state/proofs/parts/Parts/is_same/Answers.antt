use Rattle.mr_world_state.proofs.Same_parts.{with_machines, other_machines}
use Rattle.mr_world_state.proofs.parts.Parts.is_same.Goals as goal

pub returns-then-not-has_same_machines : goal.returns-then-not-has_same_machines
returns-then-not-has_same_machines c = other_machines c.args.self.now c.args.other.now c.has_same_machines.result c.if-not-has_same_machines.true c.has_same_machines.ensures

pub returns : goal.returns
returns c = with_machines c.args.self.now c.args.other.now c.has_same_stores.result c.has_same_machines.result c.if-not-has_same_machines.false c.has_same_machines.ensures c.has_same_stores.ensures
