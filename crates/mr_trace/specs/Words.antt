-- The words of a trace (our own profile). An event has those of the script's command that makes it again. A container
-- and an attempt have those of scripts.
use Rattle.std.specs.Prelude.{ℕ, Bool, List, [], ◌∷◌, ◌++◌, length, Option, Some, None, Ok, Err, if◌then◌else◌, nat_eq, codes, decimal}
use Rattle.std.specs.List.{join_with_byte}
use Rattle.mr_ids.specs.Text.{attempt_text}
use Rattle.mr_names.specs.declared.fault.NameFault.{NameFault}
use Rattle.mr_names_tree.specs.declared.node.Kind.TheVariants.{Dir, File}
use Rattle.mr_names.specs.declared.op.Answer.{Answer}
use Rattle.mr_names.specs.declared.op.Answer.TheVariants as answer
use Rattle.mr_names.specs.declared.op.Op.{Op}
use Rattle.mr_names.specs.declared.op.Op.TheVariants as op
use Rattle.mr_history.specs.declared.fault.HistoryFault.{HistoryFault}
use Rattle.mr_history.specs.declared.fault.HistoryFault.TheVariants as history
use Rattle.mr_packet.specs.declared.packet.Address.{Address}
use Rattle.mr_packet.specs.declared.packet.Address.TheVariants.{Master, Container, Node}
use Rattle.mr_packet.specs.declared.packet.Envelope.{Envelope}
use Rattle.mr_packet.specs.declared.packet.Packet.{Packet}
use Rattle.mr_packet.specs.declared.packet.Packet.TheVariants as packet
use Rattle.mr_world_events.specs.declared.event.Event.{Event}
use Rattle.mr_world_events.specs.declared.event.Event.TheVariants as event
use Rattle.mr_world_events.specs.declared.event.Weather.{Weather}
use Rattle.mr_world_events.specs.declared.event.Weather.TheVariants.{Calm, Unavailable, Unanswered}
use Rattle.mr_script.specs.Words.{container_word}
use Rattle.mr_container.specs.declared.reply.Reply.{Reply}
use Rattle.mr_container.specs.declared.reply.Reply.TheVariants as reply
use Rattle.mr_master_model.specs.declared.store.StoreAnswer.{StoreAnswer}
use Rattle.mr_master_model.specs.declared.store.StoreAnswer.TheVariants as stored
use Rattle.mr_master_model.specs.declared.store.StoreCall.{StoreCall}
use Rattle.mr_master_model.specs.declared.store.StoreCall.TheVariants as call
use Rattle.mr_sim_commands.specs.committer.Text.{name_fault_text}
use Rattle.mr_sim_commands.specs.history.Text.{length_text, record_text}
use Rattle.mr_script_writer.specs.Repeating.{command_line}

-- words with a space between them
abbrev pub spaced : List (List ℕ) → List ℕ
spaced [] = []
spaced (word ∷ []) = word
spaced (word ∷ next ∷ rest) = word ++ 32 ∷ spaced (next ∷ rest)

-- ---- events

-- of bytes that were computed, which no command says, it is told how many they are
abbrev pub event_text : Event → List ℕ
event_text (event.Computed c bytes) = command_line (event.Computed c bytes) ++ (codes " bytes " ++ decimal (length bytes))
event_text e = command_line e

-- ---- packets

abbrev pub address_text : Address → List ℕ
address_text (Master k) = codes "master " ++ decimal k
address_text (Container c) = codes "container " ++ container_word c
address_text (Node n) = codes "node " ++ decimal n

abbrev pub succeeded_word : Bool → List ℕ
succeeded_word succeeded = if succeeded then codes "succeeded" else codes "failed"

abbrev pub yes_word : Bool → List ℕ
yes_word granted = if granted then codes "yes" else codes "no"

-- its name and its fields, in their order; of a piece how many bytes it has
abbrev pub packet_text : Packet → List ℕ
packet_text (packet.Launch c a incarnation) = spaced (codes "Launch" ∷ container_word c ∷ attempt_text a ∷ codes "incarnation" ∷ decimal incarnation ∷ [])
packet_text (packet.Kill c) = spaced (codes "Kill" ∷ container_word c ∷ [])
packet_text (packet.Fetch c a reduce incarnation offset) =
    spaced (codes "Fetch" ∷ container_word c ∷ attempt_text a ∷ codes "reduce" ∷ decimal reduce ∷ codes "incarnation" ∷ decimal incarnation ∷ codes "offset" ∷ decimal offset ∷ [])
packet_text (packet.Won t a) = spaced (codes "Won" ∷ attempt_text a ∷ [])
packet_text (packet.Outcome succeeded) = spaced (codes "Outcome" ∷ succeeded_word succeeded ∷ [])
packet_text (packet.Pending a) = spaced (codes "Pending" ∷ attempt_text a ∷ [])
packet_text (packet.Poll a) = spaced (codes "Poll" ∷ attempt_text a ∷ [])
packet_text (packet.Done a bytes) = spaced (codes "Done" ∷ attempt_text a ∷ []) ++ length_text bytes
packet_text (packet.Failed a) = spaced (codes "Failed" ∷ attempt_text a ∷ [])
packet_text (packet.Ended c) = spaced (codes "Ended" ∷ container_word c ∷ [])
packet_text (packet.NodeUp n incarnation) = spaced (codes "NodeUp" ∷ decimal n ∷ codes "incarnation" ∷ decimal incarnation ∷ [])
packet_text (packet.Where c map) = spaced (codes "Where" ∷ container_word c ∷ codes "map" ∷ decimal map ∷ [])
packet_text (packet.FetchLost c a) = spaced (codes "FetchLost" ∷ container_word c ∷ attempt_text a ∷ [])
packet_text (packet.Answer a granted) = spaced (codes "Answer" ∷ attempt_text a ∷ yes_word granted ∷ [])
packet_text (packet.DoneAck a) = spaced (codes "DoneAck" ∷ attempt_text a ∷ [])
packet_text (packet.MapReady map a n incarnation) =
    spaced (codes "MapReady" ∷ decimal map ∷ attempt_text a ∷ codes "node" ∷ decimal n ∷ codes "incarnation" ∷ decimal incarnation ∷ [])
packet_text (packet.Piece a reduce offset total bytes) =
    spaced (codes "Piece" ∷ attempt_text a ∷ codes "reduce" ∷ decimal reduce ∷ codes "offset" ∷ decimal offset ∷ codes "total" ∷ decimal total ∷ codes "bytes" ∷ decimal (length bytes) ∷ [])

-- a packet with its place in the bag and to whom it goes
abbrev pub envelope_text : ℕ → Envelope → List ℕ
envelope_text place e = codes " | " ++ (decimal place ++ (codes " to " ++ (address_text e.to ++ (codes ": " ++ packet_text e.body))))

-- ---- store calls

abbrev pub path_text : List (List ℕ) → List ℕ
path_text names = 47 ∷ join_with_byte 47 names

-- a count with its unit, as `2 entries`
abbrev pub count_text : ℕ → List ℕ → List ℕ → List ℕ
count_text n one many = spaced (decimal n ∷ (if nat_eq n 1 then one else many) ∷ [])

abbrev pub closed_word : Bool → List ℕ
closed_word closed = if closed then codes " closed" else []

-- a call of the namespace; of bytes that are appended how many they are
abbrev pub op_text : Op → List ℕ
op_text (op.Mkdirs path) = spaced (codes "mkdirs" ∷ path_text path ∷ [])
op_text (op.Create path closed) = spaced (codes "create" ∷ path_text path ∷ []) ++ closed_word closed
op_text (op.Append path bytes) = spaced (codes "append" ∷ path_text path ∷ count_text (length bytes) (codes "byte") (codes "bytes") ∷ [])
op_text (op.Close path) = spaced (codes "close" ∷ path_text path ∷ [])
op_text (op.Delete path) = spaced (codes "delete" ∷ path_text path ∷ [])
op_text (op.Rename from to) = spaced (codes "rename" ∷ path_text from ∷ path_text to ∷ [])
op_text (op.List path) = spaced (codes "list" ∷ path_text path ∷ [])
op_text (op.Exists path) = spaced (codes "exists" ∷ path_text path ∷ [])
op_text (op.Read path) = spaced (codes "read" ∷ path_text path ∷ [])
op_text (op.Bar a) = spaced (codes "bar" ∷ attempt_text a ∷ [])

-- a master's call
abbrev pub store_call_text : StoreCall → List ℕ
store_call_text (call.Names o) = op_text o
store_call_text (call.Append r) = spaced (codes "append" ∷ record_text r ∷ [])
store_call_text call.Flush = codes "flush"
store_call_text call.Read = codes "read"

-- ---- what is heard of them

-- that nothing is: the caller cannot tell these apart
abbrev pub unheard_word : Weather → List ℕ
unheard_word Unavailable = codes "unavailable"
unheard_word Unanswered = codes "unanswered"
unheard_word Calm = codes "unanswered"

abbrev pub answer_text : Answer → List ℕ
answer_text answer.Done = codes "done"
answer_text (answer.Listed entries) = count_text (length entries) (codes "entry") (codes "entries")
answer_text (answer.Found None) = codes "nothing"
answer_text (answer.Found (Some Dir)) = codes "a directory"
answer_text (answer.Found (Some File)) = codes "a file"
answer_text (answer.Contents bytes) = count_text (length bytes) (codes "byte") (codes "bytes")

abbrev pub history_fault_text : HistoryFault → List ℕ
history_fault_text (history.Superseded fence) = spaced (codes "Superseded" ∷ decimal fence ∷ [])
history_fault_text history.Sealed = codes "Sealed"
history_fault_text (history.BadLine line) = spaced (codes "BadLine" ∷ decimal line ∷ [])
history_fault_text history.Full = codes "Full"
history_fault_text history.NoMemory = codes "NoMemory"

-- by a master
abbrev pub store_answer_text : Weather → StoreAnswer → List ℕ
store_answer_text f (stored.Names (Ok a)) = answer_text a
store_answer_text f (stored.Names (Err fault)) = name_fault_text fault
store_answer_text f (stored.Wrote (Ok done)) = codes "done"
store_answer_text f (stored.Wrote (Err fault)) = history_fault_text fault
store_answer_text f (stored.Told records) = count_text (length records) (codes "record") (codes "records")
store_answer_text f (stored.Unread fault) = history_fault_text fault
store_answer_text f stored.Fault = unheard_word f

-- by a container
abbrev pub reply_text : Weather → Reply → List ℕ
reply_text f (reply.Answered (Ok a)) = answer_text a
reply_text f (reply.Answered (Err fault)) = name_fault_text fault
reply_text f reply.Fault = unheard_word f
