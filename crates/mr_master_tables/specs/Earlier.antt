-- What is answered of the records of earlier masters. Our own: where code and definitions meet.
use Rattle.std.specs.Prelude.{◌≡◌, ◌<◌, ◌≤◌, ℕ, true, false, nat_eq, List, [], ◌∷◌, Option, Some, None}
use Rattle.std.specs.Map.{lookup}
use Rattle.std.specs.Option.{option_map}
use Rattle.mr_ids.specs.Attempt.{Attempt}
use Rattle.mr_grant.specs.Attempts.{same_attempt}
use Rattle.mr_history.specs.declared.record.Record.{Record}
use Rattle.mr_history.specs.declared.record.Record.TheVariants.{AttemptStarted, MapSucceeded, ReduceSucceeded, AttemptFailed, JobUnsuccessful}
use Rattle.mr_ids.specs.Same.{same_task}
use Rattle.mr_ids.specs.declared.id.TaskId.{TaskId}
use Rattle.mr_ids.specs.declared.id.TaskKind.TheVariants.{Map}
use Rattle.mr_recover.specs.declared.winner.TaskWinner.{TaskWinner}
use Rattle.mr_recover.specs.Plan as plan
use Rattle.mr_master_model.specs.Readings.{Place, place_in, newest_in}
use Rattle.mr_master_tables.specs.Spots.{Spread, has_spot}

abbrev pub told_place : Attempt × Place → Attempt × ℕ × ℕ
told_place p = (p.0, p.1.node, p.1.incarnation)

abbrev pub where_told : Place → ℕ × ℕ
where_told p = (p.node, p.incarnation)

-- the success of a map's attempt that a record tells, with the node and its incarnation
abbrev pub success_told : Record → Option (Attempt × ℕ × ℕ)
success_told (MapSucceeded a n i) = Some (a, n, i)
success_told (ReduceSucceeded a bytes) = None
success_told (AttemptStarted a n) = None
success_told (AttemptFailed a) = None
success_told JobUnsuccessful = None

-- the entries say of each attempt where the records say that its output lies
abbrev pub TellsPlaces : List (Attempt × (ℕ × ℕ)) → List Record → Type 0
TellsPlaces places rs = (a : Attempt) → lookup (same_attempt a) places ≡ option_map where_told (place_in rs a)

-- the entries say of each map its newest success, by the records
abbrev pub TellsNewest : List (TaskId × (Attempt × ℕ × ℕ)) → List Record → Type 0
TellsNewest newest rs = (t : TaskId) → lookup (same_task t) newest ≡ option_map told_place (newest_in rs t)

-- wherever the records say that the output of an attempt lies, its task is on that node
abbrev pub TellsSpots : Spread → List Record → Type 0
TellsSpots spread rs = (a : Attempt) (p : Place) → place_in rs a ≡ Some p → has_spot spread a.task.kind p.node a.task.number ≡ true

-- of no attempt at the map of this number do the records say that its output lies on the node
abbrev pub IsUntold : List Record → ℕ → ℕ → Type 0
IsUntold rs node number = (a : Attempt) (p : Place) → place_in rs a ≡ Some p → a.task.kind ≡ Map → a.task.number ≡ number → nat_eq p.node node ≡ false

-- the same of all maps whose numbers are from one on, up to another
abbrev pub AreUntold : List Record → ℕ → ℕ → ℕ → Type 0
AreUntold rs node from to = (number : ℕ) → from ≤ number → number < to → IsUntold rs node number

abbrev pub UntoldFrom : List Record → ℕ → ℕ → Type 0
UntoldFrom rs node from = (number : ℕ) → from ≤ number → IsUntold rs node number

-- the entries say of each task what a list of winners says
abbrev pub SaysListed : List (TaskId × TaskWinner) → List TaskWinner → Type 0
SaysListed winners ws = (t : TaskId) → lookup (same_task t) winners ≡ plan.listed ws t

-- one packet or none
abbrev pub listed : {A : Type 0} → Option A → List A
listed None = []
listed (Some x) = x ∷ []
