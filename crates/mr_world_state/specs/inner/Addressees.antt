-- To whom what lies at a place of the bag goes.
use Rattle.std.specs.Prelude.{Option, Some, None}
use Rattle.mr_packet.specs.declared.packet.Address.{Address}
use Rattle.mr_packet.specs.declared.packet.Address.TheVariants as address
use Rattle.mr_packet.specs.declared.packet.Envelope.{Envelope}
use Rattle.mr_world_state.specs.declared.deliver.Addressee.{Addressee}
use Rattle.mr_world_state.specs.declared.deliver.Addressee.TheVariants.{Nobody, Master, Container, Node}

abbrev pub named : Address → Addressee
named (address.Master k) = Master k
named (address.Container c) = Container c
named (address.Node n) = Node n

abbrev pub whom : Option Envelope → Addressee
whom None = Nobody
whom (Some e) = named e.to
