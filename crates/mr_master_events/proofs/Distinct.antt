-- The attempts that are given up are distinct, so each bar that is new comes once.
use Rattle.std.proofs.Common.{ℕ, zero, suc, ◌<◌, ◌≡◌, refl, sym, ◌∙◌, ap, subst, Bool, true, false, ◌||◌, not, cond, List, [], ◌∷◌, ◌++◌, filter, flat_map, append-nil, append_assoc, arith, true≢false}
use Rattle.std.proofs.lemmas.List.Folds.{list_any-append}
use Rattle.std.proofs.lemmas.Grind.{flat_map-append}
use Rattle.mr_ids.specs.Attempt.{Attempt}
use Rattle.mr_ids.specs.declared.id.TaskId.{TaskId}
use Rattle.mr_ids.specs.declared.id.TaskKind.{TaskKind}
use Rattle.mr_ids.specs.declared.id.TaskKind.TheVariants.{Reduce}
use Rattle.mr_grant.specs.Attempts.{same_attempt, has}
use Rattle.mr_grant.proofs.Same.{same-is, same-itself}
use Rattle.mr_task.specs.Readings as task
use Rattle.mr_task.specs.Readings.{AreDistinct}
use Rattle.mr_task.proofs.Arrivals.{arrivals}
use Rattle.mr_master_model.specs.declared.setting.Setting.{Setting}
use Rattle.mr_master_model.specs.Job.{task_of, first_tasks, all_reduces}
use Rattle.mr_master_model.specs.Readings.{Seen, of_task}
use Rattle.mr_master_model.specs.Hearing.{given_up, new_bars}
use Rattle.mr_master_state.specs.mr_master_tables.specs.declared.gone.Gone.TheVariants.{GivenUp}
use Rattle.mr_master_state.specs.mr_master_tables.specs.Gone.{gone_of}
use Rattle.mr_master_state.specs.mr_master_tables.specs.Bars.{all_added}
use Rattle.mr_master_state.specs.mr_master_tasks.proofs.Telling.{Own}
use Rattle.mr_master_state.proofs.Losing.{among-passing, gone-own}

or-second : (b c : Bool) → c ≡ true → (b || c) ≡ true
or-second true c e = refl
or-second false c e = e

not-true : (b : Bool) → (b ≡ true → ⊥) → b ≡ false
not-true true h = absurd (h refl)
not-true false h = refl

filter-distinct : (p : Attempt → Bool) (xs : List Attempt) → AreDistinct xs → AreDistinct (filter p xs)
filter-distinct p [] d = tt
filter-distinct p (x ∷ xs) d = by (p x) (filter-distinct p xs d.1)
  where
    by : (b : Bool) → AreDistinct (filter p xs) → AreDistinct (cond b (x ∷ filter p xs) (filter p xs))
    by true rest = (not-true (has (filter p xs) x) (λ e. true≢false (sym (among-passing p xs x e) ∙ d.0)), rest)
    by false rest = rest

join-distinct : (xs ys : List Attempt) → AreDistinct xs → AreDistinct ys → ((a : Attempt) → has xs a ≡ true → has ys a ≡ false) → AreDistinct (xs ++ ys)
join-distinct [] ys d e h = e
join-distinct (x ∷ xs) ys d e h =
    let apart : has ys x ≡ false = h x (ap (λ b. b || has xs x) (same-itself x)) in
    let here : has (xs ++ ys) x ≡ false = list_any-append (same_attempt x) xs ys ∙ (λ i. d.0 i || apart i) in
    let rest = join-distinct xs ys d.1 e (λ a there. h a (or-second (same_attempt a x) (has xs a) there)) in
    (here, rest)

step-is : (w : Setting) (which : TaskId → List Attempt) (kind : TaskKind) (n : ℕ) → flat_map which (first_tasks w kind (suc n)) ≡ flat_map which (first_tasks w kind n) ++ which (task_of w kind n)
unfolding first_tasks
step-is w which kind n = flat_map-append which (first_tasks w kind n) (task_of w kind n ∷ []) ∙ ap (λ (l : List Attempt). flat_map which (first_tasks w kind n) ++ l) (append-nil (which (task_of w kind n)))

numbers-below : (w : Setting) (which : TaskId → List Attempt) → Own which → (kind : TaskKind) (n : ℕ) (a : Attempt) → has (flat_map which (first_tasks w kind n)) a ≡ true → a.task.number < n
unfolding first_tasks
numbers-below w which own kind zero a e = absurd (true≢false (sym e))
numbers-below w which own kind (suc n) a e =
    by (has (flat_map which (first_tasks w kind n)) a) refl (numbers-below w which own kind n a)
    (sym (ap (λ (l : List Attempt). has l a) (step-is w which kind n) ∙ list_any-append (same_attempt a) (flat_map which (first_tasks w kind n)) (which (task_of w kind n))) ∙ e)
  where
    by : (b : Bool) → has (flat_map which (first_tasks w kind n)) a ≡ b → (has (flat_map which (first_tasks w kind n)) a ≡ true → a.task.number < n)
        → (has (flat_map which (first_tasks w kind n)) a || has (which (task_of w kind n)) a) ≡ true → a.task.number < suc n
    by true q go r = let low : a.task.number < n = go q in omega arith
    by false q go r =
        let there : has (which (task_of w kind n)) a ≡ true = sym (ap (λ b. b || has (which (task_of w kind n)) a) q) ∙ r in
        let num : a.task.number ≡ n = ap (λ (t : TaskId). t.number) (own (task_of w kind n) a there) in omega arith

all-distinct : (w : Setting) (which : TaskId → List Attempt) → Own which → ((t : TaskId) → AreDistinct (which t)) → (kind : TaskKind) (n : ℕ) → AreDistinct (flat_map which (first_tasks w kind n))
unfolding first_tasks
all-distinct w which own each kind zero = tt
all-distinct w which own each kind (suc n) =
    subst AreDistinct (sym (step-is w which kind n))
    (join-distinct (flat_map which (first_tasks w kind n)) (which (task_of w kind n)) (all-distinct w which own each kind n) (each (task_of w kind n)) (λ a there.
    not-true (has (which (task_of w kind n)) a) (λ e.
    let low = numbers-below w which own kind n a there in
    let num : a.task.number ≡ n = ap (λ (t : TaskId). t.number) (own (task_of w kind n) a e) in omega arith)))

-- ---- each is added as the last

filter-alike : (p q : Attempt → Bool) (xs : List Attempt) → ((a : Attempt) → has xs a ≡ true → p a ≡ q a) → filter p xs ≡ filter q xs
filter-alike p q [] h = refl
filter-alike p q (x ∷ xs) h =
    let here : p x ≡ q x = h x (ap (λ b. b || has xs x) (same-itself x)) in
    let rest = filter-alike p q xs (λ a there. h a (or-second (same_attempt a x) (has xs a) there)) in
    λ i. cond (here i) (x ∷ rest i) (rest i)

or-none : (b : Bool) → (b || false) ≡ b
or-none true = refl
or-none false = refl

added-is : (bars xs : List Attempt) → AreDistinct xs → all_added bars xs ≡ bars ++ filter (λ a. not (has bars a)) xs
added-is bars [] d = sym (append-nil bars)
added-is bars (x ∷ xs) d = by (has bars x) (λ b'. added-is b' xs d.1)
  where
    apart : (a : Attempt) → has xs a ≡ true → same_attempt a x ≡ false
    apart a there = not-true (same_attempt a x) (λ e. true≢false (sym there ∙ ap (λ y. has xs y) (same-is a x e) ∙ d.0))

    same : (a : Attempt) → has xs a ≡ true → not (has (bars ++ x ∷ []) a) ≡ not (has bars a)
    same a there = ap (λ b. not b) (list_any-append (same_attempt a) bars (x ∷ []) ∙ ap (λ b. has bars a || (b || false)) (apart a there) ∙ or-none (has bars a))

    by : (b : Bool) → ((b' : List Attempt) → all_added b' xs ≡ b' ++ filter (λ a. not (has b' a)) xs)
        → all_added (cond b bars (bars ++ x ∷ [])) xs ≡ bars ++ cond (not b) (x ∷ filter (λ a. not (has bars a)) xs) (filter (λ a. not (has bars a)) xs)
    by true go = go bars
    by false go = go (bars ++ x ∷ []) ∙ ap (λ (l : List Attempt). (bars ++ x ∷ []) ++ l) (filter-alike _ _ xs same) ∙ append_assoc bars (x ∷ []) (filter (λ a. not (has bars a)) xs)

pub bars-added : (w : Setting) (s : Seen) (n : ℕ) (bars more new : List Attempt) → bars ≡ s.bars → more ≡ flat_map (gone_of w s (GivenUp n)) (all_reduces w) → new ≡ all_added bars more → new ≡ s.bars ++ new_bars w s n
bars-added w s n bars more new e f g =
    g ∙ (λ i. all_added (e i) (f i))
    ∙ added-is s.bars (flat_map (given_up w s n) (all_reduces w))
    (all-distinct w (given_up w s n) (gone-own w s (GivenUp n)) (λ t. filter-distinct _ (task.live (of_task w s t)) (filter-distinct (task.is_live (of_task w s t)) (of_task w s t).arrived (arrivals t w.app (s.calls t)).distinct)) Reduce w.reduces)
