-- What happened in a run, event by event, as far as a trace tells it (our own profile).
use Rattle.std.specs.Prelude.{ℕ, List, [], ◌∷◌, ◌++◌, length, Option, Some, None, if◌then◌else◌, nat_eq, nat_lt, ◌-◌, slice_get}
use Rattle.std.specs.Option.{option_and_then, option_map}
use Rattle.mr_packet.specs.declared.packet.Envelope.{Envelope}
use Rattle.mr_world_events.specs.declared.event.Event.{Event}
use Rattle.mr_world_events.specs.declared.event.Event.TheVariants as event
use Rattle.mr_script.specs.declared.event_name.EventName.{EventName}
use Rattle.mr_world_model.specs.Packets.{Config}
use Rattle.mr_world_model.specs.Sending.{sent}
use Rattle.mr_play.specs.mr_world_state.specs.declared.asked.Asked.{Asked}
use Rattle.mr_play.specs.mr_world.specs.Asks.{asked_in}
use Rattle.mr_play.specs.mr_world.specs.Journal.{Journal, world_in}
use Rattle.mr_play.specs.mr_world.specs.Readings.{due_in, wish_in}
use Rattle.mr_play.specs.declared.sources.Source.{Source}
use Rattle.mr_play.specs.declared.sources.Stretch.{Stretch}
use Rattle.mr_play.specs.EventNames.{duty_event, wish_event}
use Rattle.mr_trace.specs.declared.makers.Maker.{Maker}
use Rattle.mr_trace.specs.declared.makers.Maker.TheVariants as maker
use Rattle.mr_trace.specs.declared.makers.Makers.{Makers}
use Rattle.mr_trace.specs.declared.makers.Makers.TheVariants.{Lines, Threads}
use Rattle.mr_trace.specs.declared.seats.Seat.{Seat}
use Rattle.mr_trace.specs.declared.seats.Seat.TheVariants as seat

-- ---- who made an event

-- the line of the event at this place: of the first stretch that ends behind it
abbrev pub source_at : List Stretch → ℕ → Option Source
source_at [] place = None
source_at (s ∷ rest) place = if nat_lt place s.end then Some s.source else source_at rest place

abbrev pub by_line : Option Source → Maker
by_line None = maker.Unknown
by_line (Some s) = maker.Line s

-- the thread of the seat of this number: those of the nodes come first, then that of starts and faults, then those of the masters, by generation
abbrev pub thread_of : ℕ → ℕ → Seat
thread_of nodes number = if nat_lt number nodes then seat.Node number else if nat_eq number nodes then seat.Faults else seat.Master (number - nodes)

abbrev pub by_seat : ℕ → Option ℕ → Maker
by_seat nodes None = maker.Unknown
by_seat nodes (Some number) = maker.Thread (thread_of nodes number)

-- by the lines of a script, from the stretch of each
abbrev pub by_lines : List Stretch → Journal → Maker
by_lines stretches j = by_line (source_at stretches (length j.events))

-- by threads, from the seat that was noted for each event
abbrev pub by_threads : List ℕ → Journal → Maker
by_threads by j = by_seat j.config.nodes (slice_get by (length j.events))

abbrev pub maker_of : Makers → (Journal → Maker)
maker_of (Lines stretches) = by_lines stretches.now
maker_of (Threads by) = by_threads by.now

-- ---- one event

-- what the duty of a master, or the wish of a container, is before it
abbrev pub name_of : Journal → Event → Option EventName
name_of j (event.Duty k f) = option_map duty_event (due_in j.config (world_in j) k)
name_of j (event.ContainerStep c f) = option_and_then wish_event (wish_in j.config (world_in j) c)
name_of j _ = None

pub record Happened : Type 0 where
  pub place : ℕ  -- in the journal, from 0
  pub event : Event
  pub name : Option EventName  -- what the duty of a master, or the wish of a container, was
  pub maker : Maker  -- its line of the script, or its thread
  pub asked : Option Asked  -- its store call, and what the caller heard
  pub first : ℕ  -- how many packets there were before it
  pub packets : List Envelope  -- those that it added

-- an event behind those of a journal, where this tells who makes an event
abbrev pub happened : (Journal → Maker) → Journal → Event → Happened
happened who j e = record {
  place = length j.events;
  event = e;
  name = name_of j e;
  maker = who j;
  asked = asked_in j e;
  first = length (world_in j).bag;
  packets = sent j.config (world_in j) e;
}

-- ---- a run

-- these events in turn, behind those that were before them
abbrev pub happened_behind : (Journal → Maker) → Config → List Event → List Event → List Happened
happened_behind who cfg before [] = []
happened_behind who cfg before (e ∷ es) = happened who (record { config = cfg; events = before }) e ∷ happened_behind who cfg (before ++ e ∷ []) es

-- all that happened in a run
abbrev pub happened_in : (Journal → Maker) → Journal → List Happened
happened_in who j = happened_behind who j.config [] j.events
