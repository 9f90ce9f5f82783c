-- The order of scripts, that is of lists of events (our own profile): the one of fewer events comes first. Of two that are as long the first event that
-- differs decides, by its numbers.
use Rattle.std.specs.Prelude.{ℕ, Bool, List, [], ◌∷◌, length}
use Rattle.std.specs.Cmp.Lexicographic.{slice_cmp}
use Rattle.std.specs.Ordering.{is_lt, nat_cmp, ordering_then}
use Rattle.std.specs.declared.cmp.Ordering.{Ordering}
use Rattle.mr_ids.specs.declared.id.TaskKind.{TaskKind}
use Rattle.mr_ids.specs.declared.id.TaskKind.TheVariants as kind
use Rattle.mr_world_events.specs.declared.event.Event.{Event}
use Rattle.mr_world_events.specs.declared.event.Event.TheVariants.{Start, Crash, Duty, LaunchOn, Deliver, ContainerStep, Computed, Die, NodeRestart, Expire}
use Rattle.mr_world_events.specs.declared.event.Weather.{Weather}
use Rattle.mr_world_events.specs.declared.event.Weather.TheVariants.{Calm, Unavailable, Unanswered}

-- ---- what is said, as numbers

abbrev pub weather_number : Weather → ℕ
weather_number Unavailable = 0
weather_number Unanswered = 1
weather_number Calm = 2

abbrev pub kind_number : TaskKind → ℕ
kind_number kind.Map = 0
kind_number kind.Reduce = 1

-- an event: the number of its kind, and then what it says. No two events have the same numbers. What goes wrong comes before what goes well
abbrev pub numbers : Event → List ℕ
numbers (Crash generation kept) = 0 ∷ generation ∷ kept ∷ []
numbers (Start generation kept) = 1 ∷ generation ∷ kept ∷ []
numbers (Die c) = 2 ∷ c.app ∷ c.number ∷ []
numbers (NodeRestart node) = 3 ∷ node ∷ []
numbers (Expire generation node) = 4 ∷ generation ∷ node ∷ []
numbers (LaunchOn generation task node) = 5 ∷ generation ∷ task.job.start ∷ task.job.number ∷ kind_number task.kind ∷ task.number ∷ node ∷ []
numbers (Deliver packet) = 6 ∷ packet ∷ []
numbers (Duty generation weather) = 7 ∷ generation ∷ weather_number weather ∷ []
numbers (ContainerStep c weather) = 8 ∷ c.app ∷ c.number ∷ weather_number weather ∷ []
numbers (Computed c bytes) = 9 ∷ c.app ∷ c.number ∷ length bytes ∷ bytes

-- ---- the order

-- two events, by their numbers from left to right
abbrev pub event_cmp : Event → Event → Ordering
event_cmp a b = slice_cmp nat_cmp (numbers a) (numbers b)

-- two scripts: by how many events they have, and then by the first event that differs
abbrev pub script_cmp : List Event → List Event → Ordering
script_cmp a b = ordering_then (nat_cmp (length a) (length b)) (slice_cmp event_cmp a b)

-- a script comes before another: it has fewer events, or as many, and the first event that differs is the lesser one
unfoldable pub sooner : List Event → List Event → Bool
sooner a b = is_lt (script_cmp a b)
