-- The job history in bytes, as an event leaves it. mr_world_model says when a master starts, crashes or calls, and
-- mr_history what that makes of the history. Of a segment mr_world_model itself keeps the records alone. Our own: where
-- code and definitions meet.
use Rattle.std.specs.Prelude.{◌≡◌, ℕ, Option, Some, None, Result, Ok, Err, replicate}
use Rattle.std.specs.Option.{option_and_then, option_map}
use Rattle.mr_history.specs.State.{State}
use Rattle.mr_history.specs.Segment.{fresh}
use Rattle.mr_history.specs.Laws.{Change, Calls, Seals, Raises, after}
use Rattle.mr_world_model.specs.Packets.{Config}
use Rattle.mr_world_model.specs.World.{World, Event, Start, Crash, Duty, Weather, Calm, Unavailable, Unanswered, duty}
use Rattle.mr_world_model.specs.Effect.{version_of}
use Rattle.mr_world_model.specs.Stores.{call_of_history}
use Rattle.mr_world_state.specs.declared.fault.WorldFault.{WorldFault}
use Rattle.mr_world_state.specs.declared.parts.Parts.{Parts}
use Rattle.mr_world_state.specs.Standing.{Standing}

-- before the first event
abbrev pub opening_history : State
opening_history = record { segments = replicate 1000 (fresh 1); fence = 0 }

-- a call, where it is made in this weather
abbrev pub if_made : {A : Type 0} → Weather → Option A → Option A
if_made Calm call = call
if_made Unanswered call = call
if_made Unavailable call = None

-- what an event changes: a start raises, a crash seals, and a duty that is a call of the history makes that call
abbrev pub change_of : Config → World → Event → Option Change
change_of cfg w (Start k kept) = Some (Raises k kept (version_of cfg k))
change_of cfg w (Crash k kept) = Some (Seals k kept)
change_of cfg w (Duty k f) = if_made f (option_map (Calls k) (option_and_then call_of_history (duty cfg w k)))
change_of cfg w _ = None

abbrev pub changed : State → Option Change → State
changed h None = h
changed h (Some c) = after h c

-- what an event leaves of the job history's bytes: what it changes of them, or all where it was refused
abbrev pub LeavesHistory : {A : Type 0} → Parts → Event → Result A WorldFault → Parts → Type 0
LeavesHistory old e (Ok a) new = (w : World) → Standing old w → new.history ≡ changed old.history (change_of old.config w e)
LeavesHistory old e (Err f) new = new.history ≡ old.history
