-- How far the tasks have come, by place: which wait for a launch, and which maps and which reduces are not Succeeded.
use Rattle.std.specs.Prelude.{◌≡◌, ◌<◌, ◌≤◌, ℕ, Bool, false, ◌&&◌, List, length, slice_get, Some, None, is_none}
use Rattle.std.specs.List.{find}
pub use Rattle.mr_ids.specs.Same.{same_kind}
use Rattle.mr_ids.specs.declared.id.TaskId.{TaskId}
use Rattle.mr_ids.specs.declared.id.TaskKind.{TaskKind}
use Rattle.mr_ids.specs.declared.id.TaskKind.TheVariants.{Map, Reduce}
use Rattle.mr_task.specs.Calls.{TaskCall}
use Rattle.mr_task.specs.Readings as task
use Rattle.mr_task.specs.State as state
use Rattle.mr_task.specs.Steps.{Task}
use Rattle.mr_master_model.specs.declared.setting.Setting.{Setting}
use Rattle.mr_master_model.specs.Job.{all_maps, all_reduces}
use Rattle.mr_master_model.specs.Readings.{wants_launch}
use Rattle.mr_master_tables.specs.Marks.{is_marked}
use Rattle.mr_master_tasks.specs.Tasks.{TakesAt}

-- marks of places
pub record Progress : Type 0 where
  pub waiting : List Bool  -- tasks that wait for a launch
  pub open_maps : List Bool  -- maps that are not Succeeded
  pub open_reduces : List Bool  -- reduces that are not Succeeded

abbrev pub open_of : TaskKind → Progress → List Bool
open_of Map m = m.open_maps
open_of Reduce m = m.open_reduces

-- ---- what is read of a task's calls

abbrev pub waits : TaskId → ℕ → List TaskCall → Bool
waits t k calls = wants_launch (task.seen t k calls)

abbrev pub is_open : TaskKind → TaskId → ℕ → List TaskCall → Bool
is_open kind t k calls = same_kind t.kind kind && is_none (task.succeeded (task.seen t k calls))

-- ---- marks that follow machines

-- each place below n is marked or not, as is read of the task whose machine is there, and no other place is marked
pub record FollowsTo (n : ℕ) (marks : List Bool) (read : TaskId → ℕ → List TaskCall → Bool) (machines : List Task) : Type 0 where
  pub shown : (i : ℕ) (x : Task) → i < n → slice_get machines i ≡ Some x → state.Answers x read (is_marked marks i)
  pub none : (i : ℕ) → n ≤ i → is_marked marks i ≡ false

pub record FollowsAllTo (n : ℕ) (m : Progress) (machines : List Task) : Type 0 where
  pub waiting : FollowsTo n m.waiting waits machines
  pub open_maps : FollowsTo n m.open_maps (is_open Map) machines
  pub open_reduces : FollowsTo n m.open_reduces (is_open Reduce) machines

-- there are at least n places
pub record HasRoom (m : Progress) (n : ℕ) : Type 0 where
  pub waiting : n ≤ length m.waiting
  pub open_maps : n ≤ length m.open_maps
  pub open_reduces : n ≤ length m.open_reduces

-- the marks are those of the machines, and there are places enough
pub record IsProgress (m : Progress) (machines : List Task) : Type 0 where
  pub room : HasRoom m (length machines)
  pub follows : FollowsAllTo (length machines) m machines

-- the machine x is at place i from then on
pub record Notes (old : List Bool) (read : TaskId → ℕ → List TaskCall → Bool) (i : ℕ) (x : Task) (new : List Bool) : Type 0 where
  pub count : length new ≡ length old
  pub here : state.Answers x read (is_marked new i)
  pub others : (j : ℕ) → (j ≡ i → ⊥) → is_marked new j ≡ is_marked old j

pub record NotesAll (old : Progress) (i : ℕ) (x : Task) (new : Progress) : Type 0 where
  pub waiting : Notes old.waiting waits i x new.waiting
  pub open_maps : Notes old.open_maps (is_open Map) i x new.open_maps
  pub open_reduces : Notes old.open_reduces (is_open Reduce) i x new.open_reduces

-- the machine at a place took a call, which the marks do not show yet
pub record HasTaken (m : Progress) (place : ℕ) (machines : List Task) : Type 0 where
  pub before : List Task
  pub was : IsProgress m before
  pub within : place < length before
  pub call : TaskCall
  pub takes : TakesAt before place call machines

-- ---- the first task that waits

-- t is the first map that passes a test; where t is a reduce, the first one that does, and no map does
abbrev pub IsNextOf : TaskKind → Setting → (TaskId → Bool) → TaskId → Type 0
IsNextOf Map w p t = Some t ≡ find p (all_maps w)
IsNextOf Reduce w p t = (find p (all_maps w) ≡ None) × (Some t ≡ find p (all_reduces w))
