-- By which packet a container that reports comes to its end.
use Rattle.std.specs.Prelude.{Bool, false}
use Rattle.mr_ids.specs.Attempt.{Attempt}
use Rattle.mr_ids.specs.Same.{same_attempt}
use Rattle.mr_packet.specs.declared.packet.Packet.{Packet}
use Rattle.mr_packet.specs.declared.packet.Packet.TheVariants.{DoneAck}

-- the answer to what is done of attempt x
abbrev pub acknowledges : Attempt → Packet → Bool
acknowledges x (DoneAck a) = same_attempt x a
acknowledges x _ = false
