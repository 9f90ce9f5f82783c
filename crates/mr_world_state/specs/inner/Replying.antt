-- What a delivery adds to the bag: whether a node answers, or a container comes to its end.
use Rattle.std.specs.Prelude.{ℕ, Bool, false, Option, Some, None, is_some, if◌then◌else◌}
use Rattle.mr_packet.specs.declared.packet.ContainerId.{ContainerId}
use Rattle.mr_packet.specs.declared.packet.Envelope.{Envelope}
use Rattle.mr_container.specs.Past.{Hears}
use Rattle.mr_world_actors.specs.declared.living.Living.{Living}
use Rattle.mr_world_actors.specs.declared.nodes.Nodes.{Nodes}
use Rattle.mr_world_actors.specs.Living.{stepped, is_over}
use Rattle.mr_world_actors.specs.Nodes.{node_of, reaction_of, added_by}

abbrev pub answers_at : Nodes → ℕ → Option Envelope → Bool
answers_at nodes n None = false
answers_at nodes n (Some e) = is_some (added_by (reaction_of (node_of nodes n) e.body))

-- whether the container comes to its end by what is delivered to it
abbrev pub ends_by : Living → ContainerId → Option Envelope → Bool
ends_by living c None = false
ends_by living c (Some e) = is_over (stepped living c (Hears e.body))

abbrev pub one_if : Bool → ℕ
one_if b = if b then 1 else 0
