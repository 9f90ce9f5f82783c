-- Telling attempts' tasks one after another tells each task of the job of its own, in order.
use Rattle.std.proofs.Common.{ℕ, zero, suc, ◌<◌, ◌≤◌, ◌≡◌, refl, sym, ◌∙◌, ap, Bool, true, false, ◌&&◌, ◌||◌, cond, ◌==◌, nat_lt, List, [], ◌∷◌, ◌++◌, filter, flat_map, arith, true≢false, append-nil, if◌then◌else◌}
use Rattle.std.proofs.lemmas.Bool.{eq-eqb}
use Rattle.std.proofs.lemmas.Bool.Decides.{nat_tests}
use Rattle.std.proofs.lemmas.Grind.{flat_map-append}
use Rattle.mr_ids.specs.Attempt.{Attempt}
use Rattle.mr_ids.specs.Same.{same_task, same_kind}
use Rattle.mr_ids.specs.declared.id.TaskId.{TaskId}
use Rattle.mr_ids.specs.declared.id.TaskKind.{TaskKind}
use Rattle.mr_ids.specs.declared.id.TaskKind.TheVariants.{Map, Reduce}
use Rattle.mr_ids.proofs.Same.{task-is}
use Rattle.mr_grant.specs.Attempts.{same_attempt, has}
use Rattle.mr_grant.proofs.Same.{same-itself}
use Rattle.mr_task.specs.Calls.{TaskCall}
use Rattle.mr_master_model.specs.declared.setting.Setting.{Setting}
use Rattle.mr_master_model.specs.Job.{is_task, count_of, task_of, first_tasks, all_maps, all_reduces, all_tasks}
use Rattle.mr_master_model.specs.Readings.{told_each}
use Rattle.mr_master_tasks.specs.Tasks.{told}
use Rattle.mr_master_tasks.specs.Told.{is_of, told_one, told_all}

-- ---- of one task

pub told-at : (w : Setting) (call : Attempt → TaskCall) (xs : List Attempt) (calls : TaskId → List TaskCall) (u : TaskId) → told_all w call xs calls u ≡ told_each call (filter (is_of w u) xs) (calls u)
told-at w call [] calls u = refl
told-at w call (a ∷ xs) calls u = told-at w call xs (told_one w call a calls) u ∙ by (is_of w u a)
  where
    by : (b : Bool) → told_each call (filter (is_of w u) xs) (cond b (call a ∷ calls u) (calls u)) ≡ told_each call (cond b (a ∷ filter (is_of w u) xs) (filter (is_of w u) xs)) (calls u)
    by true = refl
    by false = refl

-- ---- the attempts of one task among those of all

or-second : (b c : Bool) → c ≡ true → (b || c) ≡ true
or-second true c e = refl
or-second false c e = e

pub filter-by : (p : Attempt → Bool) (b : Bool) (xs : List Attempt) → ((a : Attempt) → has xs a ≡ true → p a ≡ b) → filter p xs ≡ cond b xs []
filter-by p true [] h = refl
filter-by p false [] h = refl
filter-by p b (x ∷ xs) h = by b (h x (ap (λ c. c || has xs x) (same-itself x))) (filter-by p b xs (λ y there. h y (or-second (same_attempt y x) _ there)))
  where
    by : (c : Bool) → p x ≡ c → filter p xs ≡ cond c xs [] → cond (p x) (x ∷ filter p xs) (filter p xs) ≡ cond c (x ∷ xs) []
    by true e rest = ap (λ d. cond d (x ∷ filter p xs) (filter p xs)) e ∙ ap (λ ys. x ∷ ys) rest
    by false e rest = ap (λ d. cond d (x ∷ filter p xs) (filter p xs)) e ∙ rest

pub filter-joined : (p : Attempt → Bool) (xs ys : List Attempt) → filter p (xs ++ ys) ≡ filter p xs ++ filter p ys
filter-joined p [] ys = refl
filter-joined p (x ∷ xs) ys = by (p x) (filter-joined p xs ys)
  where
    by : (b : Bool) → filter p (xs ++ ys) ≡ filter p xs ++ filter p ys → cond b (x ∷ filter p (xs ++ ys)) (filter p (xs ++ ys)) ≡ cond b (x ∷ filter p xs) (filter p xs) ++ filter p ys
    by true e = ap (λ zs. x ∷ zs) e
    by false e = e

-- each is of its task
abbrev pub Own : (TaskId → List Attempt) → Type 0
Own which = (t : TaskId) (a : Attempt) → has (which t) a ≡ true → a.task ≡ t

-- whether u is one of the first n tasks of a kind
abbrev pub is_first : Setting → TaskKind → ℕ → TaskId → Bool
is_first w kind n u = same_task u (task_of w kind u.number) && nat_lt u.number n

pub task-of-is : (w : Setting) (kind : TaskKind) (n : ℕ) → n < count_of w kind → is_task w (task_of w kind n) ≡ true
task-of-is w kind n within =
    let a : (w.job.start == w.job.start) ≡ true = eq-eqb _ _ refl in
    let b : (w.job.number == w.job.number) ≡ true = eq-eqb _ _ refl in
    let c : nat_lt n (count_of w kind) ≡ true = grind (arith, nat_tests) in
    (λ i. (a i && b i) && c i)

and-none : (b : Bool) → (b && false) ≡ false
and-none true = refl
and-none false = refl

below-more : (m n : ℕ) → (m ≡ n → ⊥) → nat_lt m (suc n) ≡ nat_lt m n
below-more m n differ = by (nat_lt m n) refl
  where
    by : (b : Bool) → nat_lt m n ≡ b → nat_lt m (suc n) ≡ b
    by true e = grind (arith, nat_tests)
    by false e = by-eq (nat_lt m (suc n)) refl
      where
        by-eq : (c : Bool) → nat_lt m (suc n) ≡ c → c ≡ false
        by-eq false q = refl
        by-eq true q = absurd (differ (grind (arith, nat_tests)))

own-part : (w : Setting) (which : TaskId → List Attempt) → Own which → (u v : TaskId) → filter (is_of w u) (which v) ≡ cond (is_task w v && same_task u v) (which v) []
own-part w which own u v = filter-by (is_of w u) (is_task w v && same_task u v) (which v) (λ a there. ap (λ (t : TaskId). is_task w t && same_task u t) (own v a there))

of-first : (w : Setting) (which : TaskId → List Attempt) → Own which → (kind : TaskKind) (n : ℕ) (u : TaskId) → n ≤ count_of w kind
    → filter (is_of w u) (flat_map which (first_tasks w kind n)) ≡ cond (is_first w kind n u) (which u) []
unfolding first_tasks
of-first w which own kind zero u within = sym (ap (λ b. cond b (which u) []) (ap (λ b. same_task u (task_of w kind u.number) && b) none ∙ and-none _))
  where
    none : nat_lt u.number 0 ≡ false
    none = grind (arith, nat_tests)
of-first w which own kind (suc n) u within =
    ap (λ (l : List Attempt). filter (is_of w u) l) (flat_map-append which (first_tasks w kind n) (task_of w kind n ∷ []) ∙ ap (λ (l : List Attempt). flat_map which (first_tasks w kind n) ++ l) (append-nil (which (task_of w kind n))))
    ∙ filter-joined (is_of w u) (flat_map which (first_tasks w kind n)) (which (task_of w kind n))
    ∙ (λ i. of-first w which own kind n u (omega arith) i ++ last i)
    ∙ by (same_task u v) refl
  where
    v : TaskId
    v = task_of w kind n

    last : filter (is_of w u) (which (task_of w kind n)) ≡ cond (same_task u (task_of w kind n)) (which (task_of w kind n)) []
    last = own-part w which own u (task_of w kind n) ∙ ap (λ b. cond (b && same_task u (task_of w kind n)) (which (task_of w kind n)) []) (task-of-is w kind n (omega arith))

    by : (b : Bool) → same_task u (task_of w kind n) ≡ b → cond (is_first w kind n u) (which u) [] ++ cond (same_task u (task_of w kind n)) (which (task_of w kind n)) [] ≡ cond (is_first w kind (suc n) u) (which u) []
    by true e =
        let is : u ≡ task_of w kind n = task-is u (task_of w kind n) e in
        let num : u.number ≡ n = ap (λ (t : TaskId). t.number) is in
        let low : nat_lt u.number n ≡ false = grind (arith, nat_tests) in
        let high : nat_lt u.number (suc n) ≡ true = grind (arith, nat_tests) in
        let same : same_task u (task_of w kind u.number) ≡ true = ap (λ (m : ℕ). same_task u (task_of w kind m)) num ∙ e in
        (λ i. cond (same i && low i) (which u) [] ++ cond (e i) (which (sym is i)) [])
        ∙ sym (λ i. cond (same i && high i) (which u) [])
    by false e =
        (λ i. cond (is_first w kind n u) (which u) [] ++ cond (e i) (which (task_of w kind n)) [])
        ∙ append-nil (cond (is_first w kind n u) (which u) [])
        ∙ ap (λ b. cond b (which u) []) (sym (same (same_task u (task_of w kind u.number)) refl))
      where
        apart : same_task u (task_of w kind u.number) ≡ true → u.number ≡ n → ⊥
        apart f q = true≢false (sym (sym (ap (λ (m : ℕ). same_task u (task_of w kind m)) q) ∙ f) ∙ e)

        same : (b : Bool) → same_task u (task_of w kind u.number) ≡ b → (same_task u (task_of w kind u.number) && nat_lt u.number (suc n)) ≡ (same_task u (task_of w kind u.number) && nat_lt u.number n)
        same true f = ap (λ c. same_task u (task_of w kind u.number) && c) (below-more u.number n (apart f))
        same false f = (λ i. f i && nat_lt u.number (suc n)) ∙ (λ i. sym f i && nat_lt u.number n)

-- ---- of all

abbrev job_is : Setting → TaskId → Bool
job_is w u = (u.job.start == w.job.start) && (u.job.number == w.job.number)

tests : (j n l : Bool) → n ≡ true → (((j && true) && n) && l) ≡ (j && l)
tests true n l e = ap (λ b. b && l) e
tests false n l e = refl

no-tests : (j n l : Bool) → (((j && false) && n) && l) ≡ false
no-tests true n l = refl
no-tests false n l = refl

of-kinds : (w : Setting) (which : TaskId → List Attempt) (u : TaskId) (kind : TaskKind) → u.kind ≡ kind
    → cond (is_first w Map w.maps u) (which u) [] ++ cond (is_first w Reduce w.reduces u) (which u) [] ≡ cond (is_task w u) (which u) []
of-kinds w which u Map e =
    (λ i. cond (((job_is w u && same_kind (e i) Map) && (u.number == u.number)) && nat_lt u.number w.maps) (which u) [] ++ cond (((job_is w u && same_kind (e i) Reduce) && (u.number == u.number)) && nat_lt u.number w.reduces) (which u) [])
    ∙ (λ i. cond (tests (job_is w u) (u.number == u.number) (nat_lt u.number w.maps) (eq-eqb _ _ refl) i) (which u) [] ++ cond (no-tests (job_is w u) (u.number == u.number) (nat_lt u.number w.reduces) i) (which u) [])
    ∙ append-nil (cond (job_is w u && nat_lt u.number w.maps) (which u) [])
    ∙ (λ i. cond (job_is w u && nat_lt u.number (count_of w (sym e i))) (which u) [])
of-kinds w which u Reduce e =
    (λ i. cond (((job_is w u && same_kind (e i) Map) && (u.number == u.number)) && nat_lt u.number w.maps) (which u) [] ++ cond (((job_is w u && same_kind (e i) Reduce) && (u.number == u.number)) && nat_lt u.number w.reduces) (which u) [])
    ∙ (λ i. cond (no-tests (job_is w u) (u.number == u.number) (nat_lt u.number w.maps) i) (which u) [] ++ cond (tests (job_is w u) (u.number == u.number) (nat_lt u.number w.reduces) (eq-eqb _ _ refl) i) (which u) [])
    ∙ (λ i. cond (job_is w u && nat_lt u.number (count_of w (sym e i))) (which u) [])

pub of-all : (w : Setting) (which : TaskId → List Attempt) → Own which → (u : TaskId) → filter (is_of w u) (flat_map which (all_tasks w)) ≡ cond (is_task w u) (which u) []
of-all w which own u =
    ap (λ (l : List Attempt). filter (is_of w u) l) (flat_map-append which (all_maps w) (all_reduces w))
    ∙ filter-joined (is_of w u) (flat_map which (all_maps w)) (flat_map which (all_reduces w))
    ∙ (λ i. of-first w which own Map w.maps u (omega arith) i ++ of-first w which own Reduce w.reduces u (omega arith) i)
    ∙ of-kinds w which u u.kind refl

-- all tasks of the job are told of their attempts
pub told-all-is : (w : Setting) (call : Attempt → TaskCall) (which : TaskId → List Attempt) (calls : TaskId → List TaskCall) → Own which
    → told_all w call (flat_map which (all_tasks w)) calls ≡ (λ t. cond (is_task w t) (told_each call (which t) (calls t)) (calls t))
told-all-is w call which calls own = λ i u. each u i
  where
    by : (u : TaskId) (b : Bool) → told_each call (cond b (which u) []) (calls u) ≡ cond b (told_each call (which u) (calls u)) (calls u)
    by u true = refl
    by u false = refl

    each : (u : TaskId) → told_all w call (flat_map which (all_tasks w)) calls u ≡ cond (is_task w u) (told_each call (which u) (calls u)) (calls u)
    each u = told-at w call (flat_map which (all_tasks w)) calls u ∙ ap (λ (l : List Attempt). told_each call l (calls u)) (of-all w which own u) ∙ by u (is_task w u)

-- ---- one attempt, and one more

pub one-told : (w : Setting) (call : Attempt → TaskCall) (a : Attempt) (calls : TaskId → List TaskCall) → is_task w a.task ≡ true → told a.task (call a) calls ≡ told_one w call a calls
one-told w call a calls e = λ j u. if (sym e j && same_task u a.task) then call a ∷ calls u else calls u

pub none-told : (w : Setting) (call : Attempt → TaskCall) (a : Attempt) (calls : TaskId → List TaskCall) → is_task w a.task ≡ false → calls ≡ told_one w call a calls
none-told w call a calls e = λ j u. if (sym e j && same_task u a.task) then call a ∷ calls u else calls u

pub told-more : (w : Setting) (call : Attempt → TaskCall) (xs : List Attempt) (a : Attempt) (calls : TaskId → List TaskCall) → told_all w call (xs ++ a ∷ []) calls ≡ told_one w call a (told_all w call xs calls)
told-more w call [] a calls = refl
told-more w call (x ∷ xs) a calls = told-more w call xs a (told_one w call x calls)
