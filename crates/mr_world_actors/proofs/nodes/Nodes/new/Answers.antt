use Rattle.std.proofs.Common.{subst, sym, ◌∙◌, ap, ◌+◌, List, ◌∷◌, ◌++◌, []}
use Rattle.mr_node.specs.State.{Node}
use Rattle.mr_world_actors.proofs.Slots.{Begun, one_more}
use Rattle.mr_world_actors.proofs.nodes.Nodes.new.Goals as goal

pub loop-n-preserved : goal.loop-n-preserved
loop-n-preserved c =
    subst (λ (nodes : List Node). Begun c.args.reduces nodes (c.loop-n.n + 1)) (ap (λ (m : Node). c.loop-n.machines.items ++ m ∷ []) (sym c.in_ok-machine.ensures) ∙ sym c.in_ok-push.ensures.items)
    (one_more c.args.reduces c.loop-n.machines.items c.loop-n.n c.loop-n.invariant)
