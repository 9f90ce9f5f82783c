-- While it runs, a machine stays with its master at every step.
use Rattle.std.proofs.Common.{ℕ, List}
use Rattle.mr_packet.specs.declared.packet.Packet.{Packet}
use Rattle.mr_packet.specs.declared.packet.Packet.TheVariants as packet
use Rattle.mr_master_model.specs.Readings as read
use Rattle.mr_world_model.specs.Packets.{Config}
use Rattle.mr_world_model.specs.Duties.{Master_step, Came, Launches, Expires, Asks}
use Rattle.mr_master_refinement.specs.Holds.{Kept, StepsKeep}
use Rattle.mr_master_refinement.proofs.Keeps.{launches_keep, plain_keep}
use Rattle.mr_master_refinement.proofs.Lost.{fetches_keep}
use Rattle.mr_master_refinement.proofs.Restarts.{restarts_keep}
use Rattle.mr_master_refinement.proofs.Expiries.{expiries_keep}
use Rattle.mr_master_refinement.proofs.Replies.{answers_keep}

packets-keep : (cfg : Config) (k : ℕ) (h : List Master_step) (m : read.Seen) (p : Packet) → Kept cfg k h m (Came p)
packets-keep cfg k h m (packet.NodeUp n i) = restarts_keep cfg k h m n i
packets-keep cfg k h m (packet.FetchLost c a) = fetches_keep cfg k h m c a
packets-keep cfg k h m (packet.Pending a) = plain_keep cfg k h m (packet.Pending a) tt
packets-keep cfg k h m (packet.Poll a) = plain_keep cfg k h m (packet.Poll a) tt
packets-keep cfg k h m (packet.Done a z) = plain_keep cfg k h m (packet.Done a z) tt
packets-keep cfg k h m (packet.Failed a) = plain_keep cfg k h m (packet.Failed a) tt
packets-keep cfg k h m (packet.Ended c) = plain_keep cfg k h m (packet.Ended c) tt
packets-keep cfg k h m (packet.Where c n) = plain_keep cfg k h m (packet.Where c n) tt
packets-keep cfg k h m (packet.Launch c a i) = plain_keep cfg k h m (packet.Launch c a i) tt
packets-keep cfg k h m (packet.Kill c) = plain_keep cfg k h m (packet.Kill c) tt
packets-keep cfg k h m (packet.Fetch c a x y z) = plain_keep cfg k h m (packet.Fetch c a x y z) tt
packets-keep cfg k h m (packet.Won t a) = plain_keep cfg k h m (packet.Won t a) tt
packets-keep cfg k h m (packet.Outcome b) = plain_keep cfg k h m (packet.Outcome b) tt
packets-keep cfg k h m (packet.Answer a b) = plain_keep cfg k h m (packet.Answer a b) tt
packets-keep cfg k h m (packet.DoneAck a) = plain_keep cfg k h m (packet.DoneAck a) tt
packets-keep cfg k h m (packet.MapReady n a x y) = plain_keep cfg k h m (packet.MapReady n a x y) tt
packets-keep cfg k h m (packet.Piece a x y z bs) = plain_keep cfg k h m (packet.Piece a x y z bs) tt

pub steps_keep : StepsKeep
steps_keep cfg k h m (Came p) = packets-keep cfg k h m p
steps_keep cfg k h m (Launches l) = launches_keep cfg k h m l
steps_keep cfg k h m (Expires n) = expiries_keep cfg k h m n
steps_keep cfg k h m (Asks call r) = answers_keep cfg k h m call r
