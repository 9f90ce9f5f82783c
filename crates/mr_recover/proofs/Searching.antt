-- What a binary search finds among winners that rise, and what is put where it ends.
use Rattle.std.proofs.Common.{◌≡◌, ℕ, zero, suc, ◌<◌, ◌+◌, Bool, true, false, ◌||◌, cond, List, [], ◌∷◌, length, insert, get_or, HoldsAt, IsSortedBy, Result, Ok, Err, IfOk, IfErr, Equal, is_lt, refl, sym, ap, ◌∙◌, arith}
use Rattle.std.specs.List.Sorted.{IsBinarySearchResult, IsSearchInRange}
use Rattle.std.proofs.lemmas.List.Sorted.{searchable_from_sorted}
use Rattle.mr_ids.specs.Same.{same_task}
use Rattle.mr_ids.specs.declared.id.TaskId.{TaskId}
use Rattle.mr_recover.specs.declared.winner.TaskWinner.{TaskWinner}
use Rattle.mr_recover.specs.Plan.{IsRising}
use Rattle.mr_recover.specs.inner.Placing.{task_cmp, is_there, placed, IsGapFor}
use Rattle.mr_recover.proofs.Order.{order, less, greater, equal, apart, apart-back, not-back, not-yet}

-- ---- winners that rise can be searched

sorted : (ws : List TaskWinner) → IsRising ws → IsSortedBy (λ (x y : TaskWinner). is_lt (task_cmp x.task y.task)) ws
sorted [] o k d a b = absurd (omega (arith, b))
sorted (w ∷ []) o k d a b = absurd (omega (arith, b))
sorted (w ∷ x ∷ xs) o zero d a b = not-back w.task x.task o.0
sorted (w ∷ x ∷ xs) o (suc k) d a b = let e : suc k + 1 ≡ suc (k + 1) = omega arith in rw e (sorted (x ∷ xs) o.1 k d (omega arith) (omega (arith, b)))

found : (ws : List TaskWinner) (t : TaskId) (i : ℕ) → i < length ws → HoldsAt (λ (x : TaskWinner). task_cmp x.task t ≡ Equal) ws i → is_there ws t ≡ true
found [] t i b h = absurd (omega (arith, b))
found (x ∷ xs) t zero b h = ap (λ c. c || is_there xs t) (equal x.task t (h x))
found (x ∷ xs) t (suc i) b h = by (same_task x.task t) (found xs t i (omega (arith, b)) (λ d. h d))
  where
    by : (c : Bool) → is_there xs t ≡ true → (c || is_there xs t) ≡ true
    by true e = refl
    by false e = e

pub searched : (ws : List TaskWinner) (t : TaskId) (r : Result ℕ ℕ) → IsRising ws → IsSearchInRange r (length ws) → IsBinarySearchResult (λ (x : TaskWinner). task_cmp x.task t) ws r
    → IfOk r (λ i. is_there ws t ≡ true) × IfErr r (λ i. IsGapFor ws t i)
searched ws t (Ok i) o b h = (found ws t i b h, tt)
searched ws t (Err i) o b h =
    let point = h (searchable_from_sorted order (λ (x : TaskWinner). x.task) ws t (sorted ws o)) in (
      tt,
      record {
        within = b;
        earlier = λ k d l u. less (get_or ws k d).task t (point.0 k d l u);
        later = λ k d l u. greater (get_or ws k d).task t (point.1 k d l u);
      },
    )

-- ---- a gap

shorter : (x : TaskWinner) (xs : List TaskWinner) (t : TaskId) (i : ℕ) → IsGapFor (x ∷ xs) t (suc i) → IsGapFor xs t i
shorter x xs t i g = record {
  within = omega (arith, g.within);
  earlier = λ k d l u. g.earlier (suc k) d (omega arith) (omega (arith, u));
  later = λ k d l u. g.later (suc k) d (omega (arith, l)) (omega (arith, u));
}

behind : (x : TaskWinner) (xs : List TaskWinner) (t : TaskId) → IsGapFor (x ∷ xs) t zero → IsGapFor xs t zero
behind x xs t g = record {
  within = omega arith;
  earlier = λ k d l u. absurd (omega (arith, u));
  later = λ k d l u. g.later (suc k) d (omega arith) (omega (arith, u));
}

-- a task that has a gap is not there
pub absent : (ws : List TaskWinner) (t : TaskId) (i : ℕ) → IsGapFor ws t i → is_there ws t ≡ false
absent [] t i g = refl
absent (x ∷ xs) t zero g = ap (λ c. c || is_there xs t) (apart-back x.task t (g.later 0 x (omega arith) (omega arith))) ∙ absent xs t zero (behind x xs t g)
absent (x ∷ xs) t (suc i) g = ap (λ c. c || is_there xs t) (apart x.task t (g.earlier 0 x (omega arith) (omega arith))) ∙ absent xs t i (shorter x xs t i g)

-- what is inserted in its gap is placed
pub inserted : (ws : List TaskWinner) (w : TaskWinner) (i : ℕ) → IsGapFor ws w.task i → insert ws i w ≡ placed ws w
inserted [] w zero g = refl
inserted [] w (suc i) g = absurd (omega (arith, g.within))
inserted (x ∷ xs) w zero g = sym (ap (λ b. cond b (w ∷ x ∷ xs) (x ∷ placed xs w)) (g.later 0 x (omega arith) (omega arith)))
inserted (x ∷ xs) w (suc i) g =
    ap (λ (l : List TaskWinner). x ∷ l) (inserted xs w i (shorter x xs w.task i g))
    ∙ sym (ap (λ b. cond b (w ∷ x ∷ xs) (x ∷ placed xs w)) (not-yet w.task x.task (g.earlier 0 x (omega arith) (omega arith))))
