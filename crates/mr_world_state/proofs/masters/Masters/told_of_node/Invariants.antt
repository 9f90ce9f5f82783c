use Rattle.std.proofs.Common.{◌≡◌, is_some}
use Rattle.mr_packet.specs.declared.packet.Packet.TheVariants.{NodeUp}
use Rattle.mr_world_model.specs.Sending.{to_masters}
use Rattle.mr_world_state.specs.Machines.{master_of}
use Rattle.mr_world_state.proofs.masters.Masters.told_of_node.Given as goal

abbrev pub invariant-loop-older : goal.invariant-loop-older
invariant-loop-older l = l.packets.items ≡ to_masters (λ k. is_some (master_of l.fn.self k)) l.older (NodeUp l.fn.n l.fn.incarnation)
