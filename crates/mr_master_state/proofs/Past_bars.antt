-- Which bars are past, and the first of one that is live.
use Rattle.std.proofs.Common.{ℕ, zero, suc, ◌+◌, ◌<◌, ◌≤◌, ◌⊎◌, inl, inr, ◌≡◌, refl, sym, ◌∙◌, ap, subst, Bool, true, false, not, ◌&&◌, ◌||◌, List, [], ◌∷◌, length, slice_get, Some, None, cond, arith}
use Rattle.std.specs.List.{find}
use Rattle.std.proofs.lemmas.Bool.{cases_eq}
use Rattle.mr_ids.specs.Attempt.{Attempt}
use Rattle.mr_ids.specs.declared.id.TaskId.{TaskId}
use Rattle.mr_grant.specs.Attempts.{has}
use Rattle.mr_attempt.specs.Table as table
use Rattle.mr_attempt.specs.declared.state.AttemptState.{AttemptState}
use Rattle.mr_attempt.specs.declared.state.AttemptState.TheVariants.{New, Killed}
use Rattle.mr_task.specs.Calls.{TaskCall}
use Rattle.mr_task.specs.Readings as task
use Rattle.mr_task.proofs.Bits.{Bits, bits_of}
use Rattle.mr_task.proofs.States.{fits}
use Rattle.mr_master_model.specs.Readings.{is_live}
use Rattle.mr_master_model.specs.Next.{seen}
use Rattle.mr_master_state.specs.State.{Master}
use Rattle.mr_master_state.specs.Passing.{is_out_of, is_out, ArePast, Passes, IsPastAt}
use Rattle.mr_master_tasks.proofs.Keeping.{some-is}

-- ---- the first that is live

pub none-found : {A : Type 0} (p : A → Bool) (xs : List A) → ((i : ℕ) (x : A) → slice_get xs i ≡ Some x → p x ≡ false) → find p xs ≡ None
none-found p [] none = refl
none-found p (x ∷ xs) none = ap (λ b. cond b (Some x) (find p xs)) (none 0 x refl) ∙ none-found p xs (λ i y at. none (suc i) y at)

pub found-at : {A : Type 0} (p : A → Bool) (xs : List A) (i : ℕ) (x : A) → slice_get xs i ≡ Some x → p x ≡ true → ((j : ℕ) (y : A) → j < i → slice_get xs j ≡ Some y → p y ≡ false) → find p xs ≡ Some x
found-at {A} p [] i x at e none = cc
found-at {A} p (y ∷ xs) zero x at e none = let same : y ≡ x = cc in ap (λ b. cond b (Some y) (find p xs)) (ap p same ∙ e) ∙ ap (λ (z : A). Some z) same
found-at {A} p (y ∷ xs) (suc i) x at e none = ap (λ b. cond b (Some y) (find p xs)) (none 0 y (omega arith) refl) ∙ found-at p xs i x at e (λ j z below q. none (suc j) z (omega arith) q)

pub past-further : (m : Master) (first i : ℕ) → Passes m first i → IsPastAt m i → Passes m first (i + 1)
past-further m first i passes here w s k p = record {
  within = within-get s.bars i h.0 h.1;
  out = λ j a below at. by j a below at (cases_eq j i);
}
  where
    h : (a : Attempt) × (slice_get s.bars i ≡ Some a) × (is_out w s a ≡ true)
    h = here w s k

    old : ArePast i w s
    old = passes w s k p

    within-get : {A : Type 0} (xs : List A) (n : ℕ) (x : A) → slice_get xs n ≡ Some x → n + 1 ≤ length xs
    within-get [] n x at = cc
    within-get (y ∷ xs) zero x at = omega arith
    within-get (y ∷ xs) (suc n) x at = let e = within-get xs n x at in omega arith

    by : (j : ℕ) (a : Attempt) → j < i + 1 → slice_get s.bars j ≡ Some a → (j ≡ i) ⊎ (j ≡ i → ⊥) → is_out w s a ≡ true
    by j a below at (inl q) =
        let same : h.0 ≡ a = some-is (sym h.1 ∙ ap (λ n. slice_get s.bars n) (sym q) ∙ at) in
        subst (λ (x : Attempt). is_out w s x ≡ true) same h.2
    by j a below at (inr ne) = old.out j a (omega arith) at

-- ---- what a task's machine tells

out_of : (st : AttemptState) (l : Bool) → ((bits_of st l).accepted || (bits_of st l).over) ≡ ((bits_of st l).arrived && not (table.is_live st))
out_of New l = refl
out_of Killed false = refl
out_of Killed true = refl
out_of _ l = refl

pub out-told : (t : TaskId) (k : ℕ) (h : List TaskCall) (a : Attempt) → is_out_of (task.seen t k h) a ≡ (has (task.seen t k h).arrived a && not (table.is_live (task.state_of t k h a)))
out-told t k h a =
    let st = task.state_of t k h a in
    let f = fits t k h a in
    ap (λ (b : Bits). b.accepted || b.over) f.is ∙ out_of st f.l ∙ ap (λ (b : Bits). b.arrived && not (table.is_live st)) (sym f.is)

pub out-outside : (t : TaskId) (k : ℕ) (calls : List TaskCall) (a : Attempt) → calls ≡ [] → false ≡ is_out_of (task.seen t k calls) a
unfolding task.seen
out-outside t k calls a e = ap (λ (l : List TaskCall). is_out_of (task.seen t k l) a) (sym e)
