-- Marks follow the machines of the tasks.
use Rattle.std.proofs.Common.{◌⊎◌, inl, inr, ℕ, ◌+◌, ◌-◌, ◌<◌, ◌≤◌, ◌≡◌, refl, sym, ◌∙◌, ap, subst, Bool, true, false, ◌&&◌, List, length, slice_get, get_or, Option, Some, None, is_none, arith}
use Rattle.std.specs.List.{find, list_all}
use Rattle.std.specs.Option.{is_some}
use Rattle.std.proofs.lemmas.Bool.{cases_eq, cases_lt, and_parts, true≢false}
use Rattle.std.proofs.lemmas.Option.{get_or_from_slice_get, slice_get_cases}
use Rattle.mr_ids.specs.declared.id.TaskId.{TaskId}
use Rattle.mr_ids.specs.declared.id.TaskKind.{TaskKind}
use Rattle.mr_ids.specs.declared.id.TaskKind.TheVariants.{Map, Reduce}
use Rattle.mr_task.specs.Calls.{TaskCall}
use Rattle.mr_task.specs.Readings as task
use Rattle.mr_task.specs.State as state
use Rattle.mr_task.specs.Steps.{Task}
use Rattle.mr_master_model.specs.declared.setting.Setting.{Setting}
use Rattle.mr_master_model.specs.Job.{is_task, task_of, count_of, first_tasks}
use Rattle.mr_master_tables.specs.Marks.{is_marked, IsFirst}
use Rattle.mr_master_tasks.specs.Places.{place_of, place_by}
use Rattle.mr_master_tasks.specs.Progress.{Progress, waits, same_kind, is_open, open_of, FollowsTo, FollowsAllTo, HasRoom, IsProgress, Notes, NotesAll, IsNextOf}
use Rattle.mr_master_tasks.specs.Tasks.{Tasks, KeepsTasks, TakesAt}
use Rattle.mr_master_tasks.proofs.AllDone.{all-but, all-of}
use Rattle.mr_master_tasks.proofs.Keeping.{machine-of, within-tasks}
use Rattle.mr_master_tasks.proofs.Telling.{task-of-is}
use Rattle.mr_master_tasks.proofs.Waiting.{none-to, found-first}

-- ---- one machine after another is noted

pub follows-none : (marks : List Bool) (read : TaskId → ℕ → List TaskCall → Bool) (machines : List Task) → ((i : ℕ) → is_marked marks i ≡ false) → FollowsTo 0 marks read machines
follows-none marks read machines none = record { shown = λ i x within at. absurd (omega arith); none = λ i past. none i }

same-machine : (machines : List Task) (i j : ℕ) (x y : Task) → x ≡ get_or machines i x → j ≡ i → slice_get machines j ≡ Some y → x ≡ y
same-machine machines i j x y is q at = is ∙ get_or_from_slice_get machines i y x (ap (λ n. slice_get machines n) (sym q) ∙ at)

-- what was noted is shown where the machine is
here-shown : (read : TaskId → ℕ → List TaskCall → Bool) (machines : List Task) (new : List Bool) (i j : ℕ) (x y : Task) → state.Answers x read (is_marked new i)
    → x ≡ get_or machines i x → j ≡ i → slice_get machines j ≡ Some y → state.Answers y read (is_marked new j)
here-shown read machines new i j x y here is q at =
    subst (λ (n : ℕ). state.Answers y read (is_marked new n)) (sym q) (subst (λ (z : Task). state.Answers z read (is_marked new i)) (same-machine machines i j x y is q at) here)

pub one-more : (old new : List Bool) (read : TaskId → ℕ → List TaskCall → Bool) (machines : List Task) (i : ℕ) (x : Task) → FollowsTo i old read machines → Notes old read i x new → x ≡ get_or machines i x
    → FollowsTo (i + 1) new read machines
one-more old new read machines i x f notes is = record {
  shown = λ j y within at. by j y within at (cases_eq j i);
  none = λ j past. notes.others j (λ q. omega arith) ∙ f.none j (omega arith);
}
  where
    by : (j : ℕ) (y : Task) → j < i + 1 → slice_get machines j ≡ Some y → (j ≡ i) ⊎ (j ≡ i → ⊥) → state.Answers y read (is_marked new j)
    by j y within at (inl q) = here-shown read machines new i j x y notes.here is q at
    by j y within at (inr ne) = λ t k calls st. notes.others j ne ∙ f.shown j y (omega arith) at t k calls st

pub one-more-all : (old new : Progress) (machines : List Task) (i : ℕ) (x : Task) → FollowsAllTo i old machines → NotesAll old i x new → x ≡ get_or machines i x → FollowsAllTo (i + 1) new machines
one-more-all old new machines i x f notes is = record {
  waiting = one-more old.waiting new.waiting waits machines i x f.waiting notes.waiting is;
  open_maps = one-more old.open_maps new.open_maps (is_open Map) machines i x f.open_maps notes.open_maps is;
  open_reduces = one-more old.open_reduces new.open_reduces (is_open Reduce) machines i x f.open_reduces notes.open_reduces is;
}

pub room-stays : (old new : Progress) (n i : ℕ) (x : Task) → HasRoom old n → NotesAll old i x new → HasRoom new n
room-stays old new n i x room notes = record {
  waiting = let e = room.waiting in let f = notes.waiting.count in omega arith;
  open_maps = let e = room.open_maps in let f = notes.open_maps.count in omega arith;
  open_reduces = let e = room.open_reduces in let f = notes.open_reduces.count in omega arith;
}

pub room-below : (m : Progress) (n i : ℕ) → HasRoom m n → i < n → HasRoom m (i + 1)
room-below m n i room within = record {
  waiting = let e = room.waiting in omega arith;
  open_maps = let e = room.open_maps in omega arith;
  open_reduces = let e = room.open_reduces in omega arith;
}

-- ---- one machine takes a call, and is noted again

again : (old new : List Bool) (read : TaskId → ℕ → List TaskCall → Bool) (before after : List Task) (i : ℕ) (call : TaskCall) (x : Task) → FollowsTo (length before) old read before → TakesAt before i call after
    → Notes old read i x new → x ≡ get_or after i x → i < length before → FollowsTo (length after) new read after
again old new read before after i call x f takes notes is inside = record {
  shown = λ j y within at. by j y within at (cases_eq j i);
  none = λ j past. let e = takes.count in notes.others j (λ q. omega arith) ∙ f.none j (omega arith);
}
  where
    by : (j : ℕ) (y : Task) → j < length after → slice_get after j ≡ Some y → (j ≡ i) ⊎ (j ≡ i → ⊥) → state.Answers y read (is_marked new j)
    by j y within at (inl q) = here-shown read after new i j x y notes.here is q at
    by j y within at (inr ne) = λ t k calls st. let e = takes.count in notes.others j ne ∙ f.shown j y (omega arith) (sym (takes.others j ne) ∙ at) t k calls st

pub progress-again : (old new : Progress) (before after : List Task) (i : ℕ) (call : TaskCall) (x : Task) → IsProgress old before → TakesAt before i call after → NotesAll old i x new → x ≡ get_or after i x → i < length before → IsProgress new after
progress-again old new before after i call x p takes notes is inside = record {
  room = subst (λ (n : ℕ). HasRoom new n) (sym takes.count) (room-stays old new (length before) i x p.room notes);
  follows = record {
    waiting = again old.waiting new.waiting waits before after i call x p.follows.waiting takes notes.waiting is inside;
    open_maps = again old.open_maps new.open_maps (is_open Map) before after i call x p.follows.open_maps takes notes.open_maps is inside;
    open_reduces = again old.open_reduces new.open_reduces (is_open Reduce) before after i call x p.follows.open_reduces takes notes.open_reduces is inside;
  };
}

-- ---- what the marks tell of a task

pub shows : (m : Tasks) (marks : List Bool) (read : TaskId → ℕ → List TaskCall → Bool) (w : Setting) (calls : TaskId → List TaskCall) (t : TaskId) → FollowsTo (length m.machines) marks read m.machines → KeepsTasks m w calls
    → is_task w t ≡ true → is_marked marks (place_of w t) ≡ read t w.app (calls t)
shows m marks read w calls t f k there =
    let x = machine-of m w calls t k there in
    f.shown (place_of w t) x.0 (within-tasks m w calls t k there) x.1 t w.app (calls t) x.2

shows-of : (m : Tasks) (marks : List Bool) (read : TaskId → ℕ → List TaskCall → Bool) (w : Setting) (calls : TaskId → List TaskCall) (kind : TaskKind) (n : ℕ) → FollowsTo (length m.machines) marks read m.machines → KeepsTasks m w calls
    → n < count_of w kind → is_marked marks (place_by w kind n) ≡ read (task_of w kind n) w.app (calls (task_of w kind n))
shows-of m marks read w calls kind n f k within = shows m marks read w calls (task_of w kind n) f k (task-of-is w kind n within)

-- the task whose place is i
pub record At (w : Setting) (i : ℕ) : Type 0 where
  pub kind : TaskKind
  pub number : ℕ
  pub within : number < count_of w kind
  pub place : place_by w kind number ≡ i

task-at : (w : Setting) (i : ℕ) → i < w.maps + w.reduces → At w i
task-at w i within = by (cases_lt i w.maps)
  where
    by : (i < w.maps) ⊎ (w.maps ≤ i) → At w i
    by (inl low) = record { kind = Map; number = i; within = low; place = refl }
    by (inr high) = record { kind = Reduce; number = i - w.maps; within = omega arith; place = omega arith }

-- what is marked is a place of a task
marked-within : (marks : List Bool) (read : TaskId → ℕ → List TaskCall → Bool) (machines : List Task) (i : ℕ) → FollowsTo (length machines) marks read machines → is_marked marks i ≡ true → i < length machines
marked-within marks read machines i f e = by (cases_lt i (length machines))
  where
    by : (i < length machines) ⊎ (length machines ≤ i) → i < length machines
    by (inl low) = low
    by (inr past) = absurd (true≢false (sym e ∙ f.none i past))

-- ---- the first task that waits

none-below : (m : Tasks) (marks : List Bool) (read : TaskId → ℕ → List TaskCall → Bool) (w : Setting) (calls : TaskId → List TaskCall) (kind : TaskKind) (n : ℕ) → FollowsTo (length m.machines) marks read m.machines → KeepsTasks m w calls
    → n ≤ count_of w kind → ((j : ℕ) → j < n → is_marked marks (place_by w kind j) ≡ false) → find (λ t. read t w.app (calls t)) (first_tasks w kind n) ≡ None
none-below m marks read w calls kind n f k within dark =
    none-to w kind (λ t. read t w.app (calls t)) n within (λ j below. sym (shows-of m marks read w calls kind j f k (omega arith)) ∙ dark j below)

pub none-waits : (m : Tasks) (marks : List Bool) (w : Setting) (calls : TaskId → List TaskCall) (kind : TaskKind) → FollowsTo (length m.machines) marks waits m.machines → KeepsTasks m w calls
    → ((i : ℕ) → is_marked marks i ≡ false) → find (λ t. waits t w.app (calls t)) (first_tasks w kind (count_of w kind)) ≡ None
none-waits m marks w calls kind f k dark = none-below m marks waits w calls kind (count_of w kind) f k (omega arith) (λ j below. dark (place_by w kind j))

pub next-is : (m : Tasks) (marks : List Bool) (w : Setting) (calls : TaskId → List TaskCall) (i : ℕ) (x : Task) → FollowsTo (length m.machines) marks waits m.machines → KeepsTasks m w calls
    → IsFirst marks i → slice_get m.machines i ≡ Some x → IsNextOf x.task.kind w (λ t. waits t w.app (calls t)) x.task
next-is m marks w calls i x f k first at =
    let here = task-at w i (let e = k.count in let g = marked-within marks waits m.machines i f first.marked in omega arith) in
    subst (λ (t : TaskId). IsNextOf t.kind w test t) (sym (is here.kind here.number here.within here.place)) (by here.kind here.number here.within here.place)
  where
    test : TaskId → Bool
    test t = waits t w.app (calls t)

    is : (kind : TaskKind) (n : ℕ) → n < count_of w kind → place_by w kind n ≡ i → x.task ≡ task_of w kind n
    is kind n within place = (k.stand (task_of w kind n) x (task-of-is w kind n within) (ap (λ j. slice_get m.machines j) place ∙ at)).task

    waits-here : (kind : TaskKind) (n : ℕ) → n < count_of w kind → place_by w kind n ≡ i → true ≡ (is_task w (task_of w kind n) && test (task_of w kind n))
    waits-here kind n within place =
        let e : test (task_of w kind n) ≡ true = sym (shows-of m marks waits w calls kind n f k within) ∙ ap (λ j. is_marked marks j) place ∙ first.marked in
        sym (λ j. task-of-is w kind n within j && e j)

    by : (kind : TaskKind) (n : ℕ) → n < count_of w kind → place_by w kind n ≡ i → IsNextOf kind w test (task_of w kind n)
    by Map n within place =
        found-first w Map test n true within (waits-here Map n within place) refl
        (none-below m marks waits w calls Map n f k (omega arith) (λ j below. first.first j (omega arith)))
    by Reduce n within place = (
      none-below m marks waits w calls Map w.maps f k (omega arith) (λ j below. first.first j (omega arith)),
      found-first w Reduce test n true within (waits-here Reduce n within place) refl
          (none-below m marks waits w calls Reduce n f k (omega arith) (λ j below. first.first (w.maps + j) (omega arith))),
    )

-- what is marked has a machine
pub machine-there : (marks : List Bool) (read : TaskId → ℕ → List TaskCall → Bool) (machines : List Task) (i : ℕ) (x : Task) → FollowsTo (length machines) marks read machines → is_marked marks i ≡ true
    → x ≡ get_or machines i x → slice_get machines i ≡ Some x
machine-there marks read machines i x f lit is = by (slice_get_cases machines i).1
  where
    by : ((y : Task) × (i < length machines) × (slice_get machines i ≡ Some y) × (get_or machines i y ≡ y)) ⊎ ((length machines ≤ i) × (slice_get machines i ≡ None)) → slice_get machines i ≡ Some x
    by (inl p) = p.2 ∙ ap Some (sym (is ∙ get_or_from_slice_get machines i p.0 x p.2))
    by (inr p) = let e = marked-within marks read machines i f lit in let g = p.0 in absurd (omega arith)

-- ---- whether all tasks of a kind are Succeeded

pub open-follows : (kind : TaskKind) (m : Progress) (machines : List Task) → IsProgress m machines → FollowsTo (length machines) (open_of kind m) (is_open kind) machines
open-follows Map m machines p = p.follows.open_maps
open-follows Reduce m machines p = p.follows.open_reduces

same-itself : (kind : TaskKind) → same_kind kind kind ≡ true
same-itself Map = refl
same-itself Reduce = refl

same-is : (a b : TaskKind) → same_kind a b ≡ true → a ≡ b
same-is Map Map e = refl
same-is Reduce Reduce e = refl
same-is _ _ e = absurd (true≢false (sym e))

is-there : {A : Type 0} (o : Option A) → is_none o ≡ false → is_some o ≡ true
is-there None e = absurd (true≢false e)
is-there (Some x) e = refl

is-absent : {A : Type 0} (o : Option A) → is_none o ≡ true → is_some o ≡ false
is-absent None e = refl
is-absent (Some x) e = absurd (true≢false (sym e))

abbrev has : (Setting) → (TaskId → List TaskCall) → TaskId → Bool
has w calls t = is_some (task.succeeded (task.seen t w.app (calls t)))

pub all-are : (m : Tasks) (marks : List Bool) (w : Setting) (calls : TaskId → List TaskCall) (kind : TaskKind) → FollowsTo (length m.machines) marks (is_open kind) m.machines → KeepsTasks m w calls
    → ((i : ℕ) → is_marked marks i ≡ false) → true ≡ list_all (has w calls) (first_tasks w kind (count_of w kind))
all-are m marks w calls kind f k dark = all-of w kind (has w calls) (count_of w kind) (λ n within. one n within)
  where
    one : (n : ℕ) → n < count_of w kind → has w calls (task_of w kind n) ≡ true
    one n within =
        let r = task.succeeded (task.seen (task_of w kind n) w.app (calls (task_of w kind n))) in
        is-there r (ap (λ b. b && is_none r) (sym (same-itself kind)) ∙ sym (shows-of m marks (is_open kind) w calls kind n f k within) ∙ dark (place_by w kind n))

pub not-all-are : (m : Tasks) (marks : List Bool) (w : Setting) (calls : TaskId → List TaskCall) (kind : TaskKind) (i : ℕ) → FollowsTo (length m.machines) marks (is_open kind) m.machines → KeepsTasks m w calls
    → is_marked marks i ≡ true → false ≡ list_all (has w calls) (first_tasks w kind (count_of w kind))
not-all-are m marks w calls kind i f k lit =
    let here = task-at w i (let e = k.count in let g = marked-within marks (is_open kind) m.machines i f lit in omega arith) in
    by here.kind here.number here.within here.place
  where
    by : (other : TaskKind) (n : ℕ) → n < count_of w other → place_by w other n ≡ i → false ≡ list_all (has w calls) (first_tasks w kind (count_of w kind))
    by other n within place =
        let r = task.succeeded (task.seen (task_of w other n) w.app (calls (task_of w other n))) in
        let both = and_parts _ _ (sym (shows-of m marks (is_open kind) w calls other n f k within) ∙ ap (λ j. is_marked marks j) place ∙ lit) in
        subst (λ (l : TaskKind). false ≡ list_all (has w calls) (first_tasks w l (count_of w l))) (same-is other kind both.0)
        (all-but w other (has w calls) (count_of w other) n within (is-absent r both.1))
