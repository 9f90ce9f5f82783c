use Rattle.std.proofs.Common.{◌≡◌, ◌++◌}
use Rattle.mr_packet.specs.declared.packet.Packet.TheVariants as packet
use Rattle.mr_master_model.specs.Sends.{to_all}
use Rattle.mr_master_tables.proofs.packets.push_outcome.Given as goal

abbrev pub invariant-loop-node : goal.invariant-loop-node
invariant-loop-node l = l.packets.items ≡ l.initial.packets.items ++ to_all l.node (packet.Outcome l.succeeded)
