-- What the machines of tasks keep, after a call of one of them, and what is read of one.
use Rattle.std.proofs.Common.{ℕ, ◌+◌, ◌<◌, ◌≡◌, refl, sym, ◌∙◌, ap, subst, Bool, true, false, List, [], ◌∷◌, Option, Some, None, slice_get, get_or, length, ◌≤◌, ◌⊎◌, inl, inr, nat_lt, arith, if◌then◌else◌, true≢false}
use Rattle.std.proofs.lemmas.Bool.{and_parts, ltb-true}
use Rattle.std.proofs.lemmas.Option.{slice_get_cases}
use Rattle.mr_ids.specs.Same.{same_task}
use Rattle.mr_ids.specs.declared.id.TaskId.{TaskId}
use Rattle.mr_ids.specs.declared.id.TaskKind.{TaskKind}
use Rattle.mr_ids.specs.declared.id.TaskKind.TheVariants.{Map, Reduce}
use Rattle.mr_ids.proofs.Same.{task-is, task-itself}
use Rattle.mr_task.specs.Calls.{TaskCall}
use Rattle.mr_task.specs.Steps.{Task}
use Rattle.mr_task.specs.State as task
use Rattle.mr_master_model.specs.declared.setting.Setting.{Setting}
use Rattle.mr_master_model.specs.Job.{is_task, count_of}
use Rattle.mr_master_tasks.specs.Places.{place_of, place_by}
use Rattle.mr_master_tasks.specs.Tasks.{Tasks, KeepsTasks, TakesAt, AnswersAt, Takes, told}
use Rattle.mr_master_tasks.proofs.Apart.{places-apart}

pub some-is : {A : Type 0} {x y : A} → Some x ≡ Some y → x ≡ y
some-is e = cc

-- ---- one task takes a call

told-here : (t : TaskId) (call : TaskCall) (calls : TaskId → List TaskCall) (u : TaskId) → same_task u t ≡ true → told t call calls u ≡ call ∷ calls u
told-here t call calls u e = ap (λ b. if b then call ∷ calls u else calls u) e

pub told-elsewhere : (t : TaskId) (call : TaskCall) (calls : TaskId → List TaskCall) (u : TaskId) → same_task u t ≡ false → told t call calls u ≡ calls u
told-elsewhere t call calls u e = ap (λ b. if b then call ∷ calls u else calls u) e

pub told-it : (t : TaskId) (call : TaskCall) (calls : TaskId → List TaskCall) → told t call calls t ≡ call ∷ calls t
told-it t call calls = told-here t call calls t (task-itself t)

pub takes_keeps : (old new : Tasks) (i : ℕ) (call : TaskCall) → TakesAt old.machines i call new.machines → Takes old i call new
takes_keeps old new i call takes w calls t there at k = record {
  count = takes.count ∙ k.count;
  stand = λ u y is found. by u y is found (same_task u t) refl;
  outside = λ u not_one. none u not_one (same_task u t) refl;
}
  where
    none : (u : TaskId) → is_task w u ≡ false → (b : Bool) → same_task u t ≡ b → told t call calls u ≡ []
    none u not_one false e = told-elsewhere t call calls u e ∙ k.outside u not_one
    none u not_one true e = absurd (true≢false (sym there ∙ ap (λ (v : TaskId). is_task w v) (sym (task-is u t e)) ∙ not_one))

    here : (y : Task) → slice_get new.machines (place_of w t) ≡ Some y → task.StandsFor y t w.app (call ∷ calls t)
    here y found =
        let x = takes.there y (ap (λ j. slice_get new.machines j) at ∙ found) in
        x.2 t w.app (calls t) (k.stand t x.0 there (ap (λ j. slice_get old.machines j) (sym at) ∙ x.1))

    by : (u : TaskId) (y : Task) → is_task w u ≡ true → slice_get new.machines (place_of w u) ≡ Some y → (b : Bool) → same_task u t ≡ b → task.StandsFor y u w.app (told t call calls u)
    by u y is found true e =
        let P : TaskId → Type 0 = λ v. slice_get new.machines (place_of w v) ≡ Some y → task.StandsFor y v w.app (told t call calls v) in
        subst P (sym (task-is u t e)) (λ found'. subst (λ (h : List TaskCall). task.StandsFor y t w.app h) (sym (told-it t call calls)) (here y found')) found
    by u y is found false e =
        subst (λ (h : List TaskCall). task.StandsFor y u w.app h) (sym (told-elsewhere t call calls u e))
        (k.stand u y is (sym (takes.others (place_of w u) (λ q. apart (places-apart w u t is there (q ∙ at)))) ∙ found))
      where
        apart : u ≡ t → ⊥
        apart q = true≢false (sym (ap (λ (v : TaskId). same_task v t) q ∙ task-itself t) ∙ e)

-- the same where these machines are the tasks'
pub takes-so : {m : Tasks} (old new : List Task) (i : ℕ) (call : TaskCall) → record { machines = old } ≡ m → TakesAt old i call new → Takes m i call (record { machines = new })
takes-so old new i call is takes = subst (λ (x : Tasks). Takes x i call (record { machines = new })) is (takes_keeps (record { machines = old }) (record { machines = new }) i call takes)

-- ---- what is answered of a task is what is read off its calls

place-within : (w : Setting) (t : TaskId) → is_task w t ≡ true → place_of w t < w.maps + w.reduces
place-within w t e = by t.kind (and_parts _ _ e).1
  where
    by : (kind : TaskKind) → nat_lt t.number (count_of w kind) ≡ true → place_by w kind t.number < w.maps + w.reduces
    by Map q = let f : t.number < w.maps = ltb-true _ _ q in omega arith
    by Reduce q = let f : t.number < w.reduces = ltb-true _ _ q in omega arith

-- each task has its machine
pub machine-of : (m : Tasks) (w : Setting) (calls : TaskId → List TaskCall) (t : TaskId) → KeepsTasks m w calls → is_task w t ≡ true
    → (x : Task) × (slice_get m.machines (place_of w t) ≡ Some x) × task.StandsFor x t w.app (calls t)
machine-of m w calls t k e = by (slice_get_cases m.machines (place_of w t)).1
  where
    by : ((x : Task) × (place_of w t < length m.machines) × (slice_get m.machines (place_of w t) ≡ Some x) × (get_or m.machines (place_of w t) x ≡ x)) ⊎ ((length m.machines ≤ place_of w t) × (slice_get m.machines (place_of w t) ≡ None))
        → (x : Task) × (slice_get m.machines (place_of w t) ≡ Some x) × task.StandsFor x t w.app (calls t)
    by (inl p) = (p.0, p.2, k.stand t p.0 e p.2)
    by (inr p) = let f = place-within w t e in let g = p.0 in let h = k.count in absurd (omega arith)

-- the place of a task of the job has a machine
pub within-tasks : (m : Tasks) (w : Setting) (calls : TaskId → List TaskCall) (t : TaskId) → KeepsTasks m w calls → is_task w t ≡ true → place_of w t < length m.machines
within-tasks m w calls t k e = let f = place-within w t e in let h = k.count in omega arith

pub read-at : {A : Type 0} (m : Tasks) (w : Setting) (calls : TaskId → List TaskCall) (t : TaskId) (i : ℕ) (read : TaskId → ℕ → List TaskCall → A) (answer : A) → KeepsTasks m w calls → is_task w t ≡ true → i ≡ place_of w t
    → AnswersAt m.machines i read answer → answer ≡ read t w.app (calls t)
read-at m w calls t i read answer k e at answers =
    let x = machine-of m w calls t k e in
    answers x.0 (ap (λ j. slice_get m.machines j) at ∙ x.1) t w.app (calls t) x.2

-- ---- where a task stands

pub placed : (v w : Setting) (t u : TaskId) (i : ℕ) → v ≡ w → u ≡ t → Some i ≡ (if is_task v u then Some (place_of v u) else None) → (is_task w t ≡ true) × (i ≡ place_of w t)
placed v w t u i e f g = subst (λ (x : Setting). (is_task x t ≡ true) × (i ≡ place_of x t)) e
    (subst (λ (x : TaskId). (is_task v x ≡ true) × (i ≡ place_of v x)) f (by (is_task v u) refl g))
  where
    by : (b : Bool) → is_task v u ≡ b → Some i ≡ (if b then Some (place_of v u) else None) → (is_task v u ≡ true) × (i ≡ place_of v u)
    by true q h = (q, cc)
    by false q h = cc

-- a task that has no place is not of the job
pub not-placed : (v w : Setting) (t : TaskId) → v ≡ w → ◌≡◌ {A = Option ℕ} None (if is_task v t then Some (place_of v t) else None) → is_task w t ≡ false
not-placed v w t e g = subst (λ (x : Setting). is_task x t ≡ false) e (by (is_task v t) g)
  where
    by : (b : Bool) → ◌≡◌ {A = Option ℕ} None (if b then Some (place_of v t) else None) → b ≡ false
    by true h = cc
    by false h = refl

-- ---- the machine at a task's place

-- the machine that was found at a task's place
pub found-at : (m : Tasks) (w : Setting) (calls : TaskId → List TaskCall) (t : TaskId) (i : ℕ) (y : Task) → KeepsTasks m w calls → is_task w t ≡ true → i ≡ place_of w t → Some y ≡ slice_get m.machines i → task.StandsFor y t w.app (calls t)
found-at m w calls t i y k e at is =
    let x = machine-of m w calls t k e in
    let same : y ≡ x.0 = some-is (is ∙ ap (λ j. slice_get m.machines j) at ∙ x.1) in
    subst (λ (z : Task). task.StandsFor z t w.app (calls t)) (sym same) x.2

-- each task of the job has one
pub never-none : (m : Tasks) (w : Setting) (calls : TaskId → List TaskCall) (t : TaskId) (i : ℕ) → KeepsTasks m w calls → is_task w t ≡ true → i ≡ place_of w t → None ≡ slice_get m.machines i → ⊥
never-none m w calls t i k e at is = let x = machine-of m w calls t k e in let bad : None ≡ Some x.0 = is ∙ ap (λ j. slice_get m.machines j) at ∙ x.1 in cc
