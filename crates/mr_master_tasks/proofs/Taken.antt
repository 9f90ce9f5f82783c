-- An attempt that succeeded under an earlier master is entered into its task's machine.
use Rattle.std.proofs.Common.{ℕ, zero, suc, ◌+◌, ◌<◌, ◌≡◌, refl, sym, ◌∙◌, ap, subst, Bool, true, false, ◌&&◌, List, [], ◌∷◌, ◌++◌, length, take, set, slice_get, get_or, add-one, Some, if◌then◌else◌}
use Rattle.std.proofs.Math.Seq.{take-suc}
use Rattle.std.proofs.lemmas.List.{length-set, get_or-set_same}
use Rattle.std.proofs.lemmas.Option.{slice_get-get_or}
use Rattle.mr_ids.specs.Attempt.{Attempt}
use Rattle.mr_ids.specs.declared.id.TaskId.{TaskId}
use Rattle.mr_attempt.specs.Table.{state_after}
use Rattle.mr_attempt.specs.declared.state.AttemptEvent.TheVariants as event
use Rattle.mr_grant.specs.Attempts.{same_attempt, has}
use Rattle.mr_task.specs.Calls.{TaskCall, Recovers}
use Rattle.mr_task.specs.Readings as task
use Rattle.mr_task.specs.State as state
use Rattle.mr_task.specs.Steps.{Task}
use Rattle.mr_master_model.specs.declared.setting.Setting.{Setting}
use Rattle.mr_master_model.specs.Job.{is_task}
use Rattle.mr_master_model.specs.Readings.{Seen}
use Rattle.mr_master_tasks.specs.Places.{place_of}
use Rattle.mr_master_tasks.specs.Tasks.{Tasks, KeepsTasks, Takes, TakesAt, Enters, IsTold}
use Rattle.mr_master_tasks.specs.Told.{told_one, told_all}
use Rattle.mr_master_tasks.proofs.Keeping.{some-is}
use Rattle.mr_master_tasks.proofs.Telling.{one-told, none-told, told-more}

-- ---- one machine is put in the place of another

other-stays : {A : Type 0} (xs : List A) (i : ℕ) (y : A) (j : ℕ) → (j ≡ i → ⊥) → slice_get (set xs i y) j ≡ slice_get xs j
other-stays [] i y j ne = refl
other-stays (x ∷ xs) zero y zero ne = absurd (ne refl)
other-stays (x ∷ xs) zero y (suc j) ne = refl
other-stays (x ∷ xs) (suc i) y zero ne = refl
other-stays (x ∷ xs) (suc i) y (suc j) ne = other-stays xs i y j (λ e. ne (ap suc e))

pub told-at : (old : List Task) (i : ℕ) (call : TaskCall) (y : Task) → IsTold old i call y → TakesAt old i call (set old i y)
told-at old i call y t = record { count = length-set old i y; there = there; others = λ j ne. other-stays old i y j ne }
  where
    here : slice_get (set old i y) i ≡ Some y
    here = slice_get-get_or (set old i y) i y (subst (λ (n : ℕ). i < n) (sym (length-set old i y)) t.within) ∙ ap (λ (x : Task). Some x) (get_or-set_same old i y y t.within)

    there : (z : Task) → slice_get (set old i y) i ≡ Some z → (x : Task) × (slice_get old i ≡ Some x) × state.Stands x call z
    there z e =
        let was = slice_get-get_or old i y t.within in
        (get_or old i y, was, subst (λ (v : Task). state.Stands (get_or old i y) call v) (some-is (sym here ∙ e)) (t.stands (get_or old i y) was))

-- ---- what may not be entered changes nothing

and-none : (b : Bool) → (b && false) ≡ false
and-none true = refl
and-none false = refl

seen-same : (t : TaskId) (k : ℕ) (calls : List TaskCall) (a : Attempt) → task.may_recover t (task.seen t k calls) a ≡ false → task.seen t k (Recovers a ∷ calls) ≡ task.seen t k calls
unfolding task.seen task.next_seen
seen-same t k calls a e = λ i. if e i then record (task.seen t k calls) { arrived = a ∷ []; accepted = a ∷ []; recorded = a ∷ []; numbered = task.numbered_up_to k a } else task.seen t k calls

pub skipped : (m : Task) (t : TaskId) (k : ℕ) (calls : List TaskCall) (a : Attempt) → task.may_recover t (task.seen t k calls) a ≡ false → state.StandsFor m t k calls → state.StandsFor m t k (Recovers a ∷ calls)
unfolding task.events_of task.events_by task.state_of
skipped m t k calls a e st = record {
  task = st.task;
  app = st.app;
  attempts = st.attempts ∙ (λ i. state.kept (λ b. sym (entry b) i) (sym same i).arrived);
  askers = λ f. st.askers (ap (λ (s : task.Seen). s.is_fixed) (sym same) ∙ f) ∙ ap (λ (s : task.Seen). task.waiting_in s.asked s.ended) (sym same);
  first = st.first ∙ ap (λ (s : task.Seen). task.named s) (sym same);
  fixed = st.fixed ∙ ap (λ (s : task.Seen). s.is_fixed) (sym same);
  numbered = st.numbered ∙ ap (λ (s : task.Seen). s.numbered) (sym same);
}
  where
    same : task.seen t k (Recovers a ∷ calls) ≡ task.seen t k calls
    same = seen-same t k calls a e

    events : (b : Attempt) → task.events_of t k (Recovers a ∷ calls) b ≡ task.events_of t k calls b
    events b = (λ i. task.only (same_attempt b a && e i) (event.Recorded ∷ event.Done ∷ event.Launch ∷ []) ++ task.events_of t k calls b) ∙ (λ i. task.only (and-none (same_attempt b a) i) (event.Recorded ∷ event.Done ∷ event.Launch ∷ []) ++ task.events_of t k calls b)

    entry : (b : Attempt) → state.entry_of t k (Recovers a ∷ calls) b ≡ state.entry_of t k calls b
    entry b = λ i. record { machine = record { attempt = b; state = state_after b.task.kind (events b i) }; accepted = has (same i).accepted b }

-- ---- one attempt, and more

pub one-enters : (old new : Tasks) (w : Setting) (a : Attempt) (i : ℕ) → (is_task w a.task ≡ true) × (i ≡ place_of w a.task) → Takes old i (Recovers a) new → Enters old w (a ∷ []) new
one-enters old new w a i p takes calls k = subst (λ (c : TaskId → List TaskCall). KeepsTasks new w c) (one-told w (λ x. Recovers x) a calls p.0) (takes w calls a.task p.0 p.1 k)

pub none-enters : (old : Tasks) (w : Setting) (a : Attempt) → is_task w a.task ≡ false → Enters old w (a ∷ []) old
none-enters old w a e calls k = subst (λ (c : TaskId → List TaskCall). KeepsTasks old w c) (none-told w (λ x. Recovers x) a calls e) k

pub next-enters : (old mid new : Tasks) (w : Setting) (xs : List Attempt) (i : ℕ) (x : Attempt) → i < length xs → x ≡ get_or xs i x → Enters old w (take i xs) mid → Enters mid w (x ∷ []) new → Enters old w (take (i + 1) xs) new
next-enters old mid new w xs i x within is before now calls k =
    let more : take (i + 1) xs ≡ take i xs ++ x ∷ [] = ap (λ (n : ℕ). take n xs) (add-one i) ∙ take-suc xs i x within ∙ ap (λ (y : Attempt). take i xs ++ y ∷ []) (sym is) in
    let both : told_all w (λ y. Recovers y) (take (i + 1) xs) calls ≡ told_one w (λ y. Recovers y) x (told_all w (λ y. Recovers y) (take i xs) calls) =
    ap (λ (l : List Attempt). told_all w (λ y. Recovers y) l calls) more ∙ told-more w (λ y. Recovers y) (take i xs) x calls in
    subst (λ (c : TaskId → List TaskCall). KeepsTasks new w c) (sym both) (now (told_all w (λ y. Recovers y) (take i xs) calls) (before calls k))
