use Rattle.mr_packet.specs.declared.packet.Packet.TheVariants as packet
use Rattle.mr_node.specs.Past.{Hears}
use Rattle.mr_node.specs.Readings.{next_seen}
use Rattle.mr_node.proofs.Standing.{stands_after}
use Rattle.mr_node.proofs.machine.NodeMachine.kill.Goals as goal

pub returns-clause-stands : goal.returns-clause-stands
unfolding next_seen
returns-clause-stands c = stands_after c.args.self.now c.note_kill.new.self (Hears (packet.Kill c.args.c)) c.in_ok-ended.ensures.seen
