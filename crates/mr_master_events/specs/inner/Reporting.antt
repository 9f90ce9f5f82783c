-- An attempt says that it is done: what its container is told, and which record is due.
use Rattle.std.specs.Prelude.{ℕ, Option, Some, None}
use Rattle.mr_ids.specs.Attempt.{Attempt}
use Rattle.mr_history.specs.declared.record.Record.{Record}
use Rattle.mr_task.specs.declared.reply.DoneReply.{DoneReply}
use Rattle.mr_task.specs.declared.reply.DoneReply.TheVariants as reply
use Rattle.mr_packet.specs.declared.packet.ContainerId.{ContainerId}
use Rattle.mr_packet.specs.declared.packet.Envelope.{Envelope}
use Rattle.mr_packet.specs.declared.packet.Packet.TheVariants as packet
use Rattle.mr_packet.specs.Sends.{to_container}
use Rattle.mr_master_model.specs.declared.launch.Launch.{Launch}
use Rattle.mr_master_model.specs.Hearing.{success_of}

-- where it is accepted, now or before, its container is told so
abbrev pub ack_of : DoneReply → ContainerId → Attempt → Option Envelope
ack_of reply.Accepted c a = Some (to_container c (packet.DoneAck a))
ack_of reply.Again c a = Some (to_container c (packet.DoneAck a))
ack_of reply.Ignored c a = None

-- where it is accepted now, the record of its success is due
abbrev pub due_of : DoneReply → Attempt → Launch → Option ℕ → Option Record
due_of reply.Accepted a l bytes = Some (success_of a.task.kind a l bytes)
due_of reply.Again a l bytes = None
due_of reply.Ignored a l bytes = None
