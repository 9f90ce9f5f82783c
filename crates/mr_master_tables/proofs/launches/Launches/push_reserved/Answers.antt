use Rattle.std.proofs.Common.{sym, ◌∙◌, ap}
use Rattle.std.proofs.lemmas.Bool.{and_parts}
use Rattle.mr_ids.specs.declared.id.TaskId.{TaskId}
use Rattle.mr_master_tables.specs.Spots.{has_spot}
use Rattle.mr_master_tables.proofs.Spreading.{spread-one}
use Rattle.mr_master_tables.proofs.launches.Launches.push_reserved.Goals as goal

pub invariant_of-self : goal.invariant_of-self
invariant_of-self c = λ e.
    let spread = c.self.inside.spread in
    let parts = and_parts _ _ (sym c.both-self-inside.ensures ∙ e) in
    spread-one spread c.self.inside.entries.entries c.push_reserved.new.self.entries c.args.attempt c.args.launch (c.self.invariant parts.0)
    (ap (λ (t : TaskId). has_spot spread t.kind c.args.launch.node t.number) (sym c.task.ensures) ∙ sym c.has-on_node.ensures ∙ parts.1) c.push_reserved.ensures.looked
