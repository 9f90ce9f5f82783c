use Rattle.mr_world_alike.proofs.Packets.{packets_stay}
use Rattle.mr_world_alike.proofs.packets_stay_the_same.Goals as goal

pub returns : goal.returns
returns c = record { stay = packets_stay }
