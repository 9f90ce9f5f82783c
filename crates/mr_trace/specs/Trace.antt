-- The text of a trace: a line for each thing that happened (our own profile: what `play --trace` prints).
use Rattle.std.specs.Prelude.{ℕ, ◌+◌, Bool, List, [], ◌∷◌, ◌++◌, Option, Some, None, if◌then◌else◌, codes, decimal}
use Rattle.std.specs.List.{flat_map}
use Rattle.mr_packet.specs.declared.packet.Envelope.{Envelope}
use Rattle.mr_world_events.specs.declared.event.Event.{Event}
use Rattle.mr_world_events.specs.declared.event.Event.TheVariants as event
use Rattle.mr_world_events.specs.declared.event.Weather.{Weather}
use Rattle.mr_world_events.specs.declared.event.Weather.TheVariants.{Calm}
use Rattle.mr_script.specs.declared.event_name.EventName.{EventName}
use Rattle.mr_script.specs.Names.{name_text}
use Rattle.mr_play.specs.mr_world_state.specs.declared.asked.Asked.{Asked}
use Rattle.mr_play.specs.mr_world_state.specs.declared.asked.Asked.TheVariants as asked
use Rattle.mr_play.specs.mr_world.specs.Journal.{Journal}
use Rattle.mr_trace.specs.declared.makers.Maker.{Maker}
use Rattle.mr_trace.specs.declared.makers.Maker.TheVariants as maker
use Rattle.mr_trace.specs.declared.seats.Seat.{Seat}
use Rattle.mr_trace.specs.declared.seats.Seat.TheVariants as seat
use Rattle.mr_trace.specs.Words.{envelope_text, event_text, op_text, reply_text, store_answer_text, store_call_text}
use Rattle.mr_trace.specs.Happened.{Happened, happened_in}

-- ---- the parts of a line

-- a name behind a space
abbrev pub named_text : Option EventName → List ℕ
named_text None = []
named_text (Some n) = 32 ∷ name_text n

abbrev pub calm_word : Bool → List ℕ
calm_word is_calm = if is_calm then codes ", calm)" else codes ")"

abbrev pub seat_text : Seat → List ℕ
seat_text seat.Faults = codes "faults"
seat_text (seat.Master k) = codes "master " ++ decimal k
seat_text (seat.Node n) = codes "node " ++ decimal n

-- the line of the script, and whether a calm of it made the event; or the thread
abbrev pub maker_text : Maker → List ℕ
maker_text maker.Unknown = []
maker_text (maker.Line s) = codes " (line " ++ (decimal s.line ++ calm_word s.is_calm)
maker_text (maker.Thread t) = codes " (" ++ (seat_text t ++ codes ")")

-- what befell the store call of an event
abbrev pub weather_of : Event → Weather
weather_of (event.Duty k f) = f
weather_of (event.ContainerStep c f) = f
weather_of _ = Calm

abbrev pub call_text : Asked → List ℕ
call_text (asked.Master k call answer) = store_call_text call
call_text (asked.Container who op reply) = op_text op

-- what its caller heard, in this weather
abbrev pub heard_text : Weather → Asked → List ℕ
heard_text f (asked.Master k call answer) = store_answer_text f answer
heard_text f (asked.Container who op reply) = reply_text f reply

-- a store call and what its caller heard, behind a word; nothing where there was no call
abbrev pub asked_text : List ℕ → Weather → Option Asked → List ℕ
asked_text word f None = []
asked_text word f (Some a) = word ++ (call_text a ++ (codes ": " ++ heard_text f a))

-- packets from this place of the bag on
abbrev pub packets_text : ℕ → List Envelope → List ℕ
packets_text place [] = []
packets_text place (e ∷ es) = envelope_text place e ++ packets_text (place + 1) es

-- ---- lines

-- what is known before the event: its place in the journal, the event, its name, who made it, and its store call
abbrev pub beginning_text : Happened → List ℕ
beginning_text h =
    decimal h.place ++ (codes ": " ++ (event_text h.event ++ (named_text h.name ++ (maker_text h.maker ++ asked_text (codes " | ") (weather_of h.event) h.asked))))

-- and then the packets that it added
abbrev pub line_text : Happened → List ℕ
line_text h = beginning_text h ++ (packets_text h.first h.packets ++ 10 ∷ [])

abbrev pub lines_text : List Happened → List ℕ
lines_text all = flat_map line_text all

-- the trace of a run, where this tells who makes an event
abbrev pub trace_text : (Journal → Maker) → Journal → List ℕ
trace_text who j = lines_text (happened_in who j)
