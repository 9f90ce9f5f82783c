use Rattle.std.proofs.lemmas.Option.{slice_get_past}
use Rattle.mr_node.specs.State.{after}
use Rattle.mr_node.specs.Past.{Hears}
use Rattle.mr_world_actors.specs.Nodes.{node_of}
use Rattle.mr_world_actors.proofs.Slots.{none_there}
use Rattle.mr_world_actors.proofs.nodes.Nodes.hear.Goals as goal

pub returns-in-None-clause-ok : goal.returns-in-None-clause-ok
unfolding node_of
returns-in-None-clause-ok c =
    none_there (λ m. after m (Hears c.args.packet.now)) (node_of c.args.self.now) c.args.n (slice_get_past c.args.self.now.machines.items c.args.n c.in-None.ensures.item.3)
