-- A master's store call, as the parts make it: what is known before, and what is left.
use Rattle.std.specs.Prelude.{◌≡◌, ℕ, Bool, Some, false, ◌&&◌, Result, Ok, Err}
use Rattle.mr_names.specs.Calls as names
use Rattle.mr_history.specs.State as history
use Rattle.mr_master_model.specs.declared.store.StoreCall.{StoreCall}
use Rattle.mr_master_model.specs.declared.store.StoreAnswer.{StoreAnswer}
use Rattle.mr_master.specs.State as master
use Rattle.mr_world_model.specs.World.{World, Weather, Duty}
use Rattle.mr_world_model.specs.Stored.{left_in}
use Rattle.mr_master_refinement.specs.Stores.{told_in}
use Rattle.mr_world_stores.specs.Calls.{is_made}
-- what both stores answer and leave
pub use Rattle.mr_world_stores.specs.Masters.{answer_to, names_after, history_after, is_segment_full, finds_full, IsRanged, IsSuited}
use Rattle.mr_world_state.specs.declared.duty.Due.{Due}
use Rattle.mr_world_state.specs.declared.fault.WorldFault.{WorldFault}
use Rattle.mr_world_state.specs.declared.parts.Parts.{Parts}
use Rattle.mr_world_state.specs.inner.Duties.{HasDuty}
use Rattle.mr_world_state.specs.Machines.{master_of}
use Rattle.mr_world_state.specs.Standing.{Standing, RefusesEvent}

-- it is made in this weather, and would be
abbrev pub passes : names.State → history.State → ℕ → Weather → StoreCall → Bool
passes n h k f c = is_made f && finds_full n h k c

-- ---- what is left once the call was made, or was not

pub record HasAsked (n : names.State) (h : history.State) (k : ℕ) (f : Weather) (c : StoreCall) (names_then : names.State) (history_then : history.State) : Type 0 where
  pub of_names : names_then ≡ left_in f n (names_after n k c)
  pub of_history : history_then ≡ left_in f h (history_after h k c)

-- ---- what is known before

-- A duty that is due and finds no store full: its call, and what the master is told of it.
pub record IsForeseen (p : Parts) (k : ℕ) (f : Weather) (c : StoreCall) (a : StoreAnswer) : Type 0 where
  pub due : HasDuty p k c
  pub ranged : IsRanged c
  pub room : passes p.names p.history k f c ≡ false
  pub told : a ≡ told_in f (answer_to p.names p.history k c)

-- a duty is refused so, in each weather
abbrev pub RefusesDuty : Parts → ℕ → Weather → WorldFault → Type 0
RefusesDuty p k f fault = (w : World) → Standing p w → RefusesEvent p.config w (Duty k f) fault

-- a look at a duty: it is due, or refused so
abbrev pub ForeseesDuty : Parts → ℕ → Weather → Result Due WorldFault → Type 0
ForeseesDuty p k f (Ok due) = (due.app ≡ k) × IsForeseen p k f due.duty.call due.answer
ForeseesDuty p k f (Err fault) = RefusesDuty p k f fault

-- ---- the same of a machine and two stores, which the parts have

-- the parts have these stores, and keep this machine of the master of generation k
pub record KeepsStores (p : Parts) (n : names.State) (h : history.State) (k : ℕ) (m : master.Master) : Type 0 where
  pub names : p.names ≡ n
  pub history : p.history ≡ h
  pub at : master_of p.masters k ≡ Some m

-- this call is the duty of a master with this machine
abbrev pub IsDutyOf : master.Master → StoreCall → Type 0
IsDutyOf m c = (p : Parts) (k : ℕ) → master_of p.masters k ≡ Some m → HasDuty p k c

-- a look at its duty is refused so, in each weather
abbrev pub RefusesDutyOf : master.Master → WorldFault → Type 0
RefusesDutyOf m fault = (p : Parts) (k : ℕ) → master_of p.masters k ≡ Some m → (f : Weather) → RefusesDuty p k f fault

-- a look at its duty over these stores
abbrev pub ForeseesDutyOf : names.State → history.State → master.Master → ℕ → Weather → Result Due WorldFault → Type 0
ForeseesDutyOf n h m k f r = (p : Parts) → KeepsStores p n h k m → ForeseesDuty p k f r
