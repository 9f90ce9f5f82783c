use Rattle.std.proofs.Common.{sym, ◌∙◌, Some, subst}
use Rattle.mr_container.specs.State.{Container}
use Rattle.mr_world_actors.specs.Living.{Changes}
use Rattle.mr_world_state.proofs.Launched_here.{lives-on, begun}
use Rattle.mr_world_state.proofs.hear_node.hear_launch.Goals as goal

pub returns-then-contains-clause-living : goal.returns-then-contains-clause-living
returns-then-contains-clause-living c = lives-on c.args.living.now c.args.nodes.now c.args.n c.args.maps c.args.c c.args.a c.args.incarnation (sym c.contains.ensures ∙ c.if-contains.true)

pub returns-in-Ok-Starts-clause-living : goal.returns-in-Ok-Starts-clause-living
returns-in-Ok-Starts-clause-living c = λ anew. begun c.args.living.now c.args.nodes.now c.args.n c.args.maps c.args.c c.in-Ok-Starts.field-0-0 c.args.a c.in-Ok-Starts.field-0-1 c.args.incarnation c.in-Some.place c.insert.new.self
    c.in-Some.ensures (sym c.in-Ok-Starts.field-0-is ∙ c.in-Ok-Starts.ensures.reaction) (subst (λ (m : Container). Changes c.args.living.now c.args.c (Some m) c.insert.new.self) c.new.ensures.made c.in_ok-insert.ensures.ok)
