use Rattle.std.proofs.Common.{◌≡◌, take}
use Rattle.mr_packet.proofs.bag.copy_packets.Given as goal

-- so far all were copied
abbrev pub invariant-loop-packet : goal.invariant-loop-packet
invariant-loop-packet l = l.copies.items ≡ take l.packet-index l.packets
