-- An attempt's state tells what was heard of it.
use Rattle.std.proofs.Common.{◌≡◌, ℕ, Bool, true, false, ◌&&◌, ◌||◌, not, List, [], ◌∷◌, Some, count_by, refl, sym, ap, ◌∙◌, true≢false}
use Rattle.std.specs.List.{list_any, find}
use Rattle.mr_ids.specs.Attempt.{Attempt}
use Rattle.mr_ids.specs.declared.id.TaskId.{TaskId}
use Rattle.mr_attempt.specs.declared.state.AttemptState.{AttemptState}
use Rattle.mr_attempt.specs.declared.state.AttemptState.TheVariants.{New, Assigned, Running, CommitPending, Recording, Succeeded, Failed, Killed}
use Rattle.mr_attempt.specs.Table as table
use Rattle.mr_grant.specs.Attempts.{same_attempt, has}
use Rattle.mr_grant.proofs.Same.{same-is}
use Rattle.mr_task.specs.declared.fault.TaskFault.TheVariants.{AlreadyWon}
use Rattle.mr_task.specs.Calls.{TaskCall}
use Rattle.mr_task.specs.Readings.{seen, state_of, is_live, is_over, is_won, is_succeeded, has_succeeded, succeeded, winner, stands, launch_refusal, refusal_of}
use Rattle.mr_task.proofs.Bits.{Bits, bits, bits_of, live-is, won-is, over-is, unknown-is}
use Rattle.mr_task.proofs.States.{fits}

any_has : (p : Attempt → Bool) (xs : List Attempt) (a : Attempt) → has xs a ≡ true → p a ≡ true → list_any p xs ≡ true
any_has p [] a there e = absurd (true≢false (sym there))
any_has p (x ∷ xs) a there e = by (same_attempt a x) refl there (λ h. any_has p xs a h e)
  where
    more : (b : Bool) → list_any p xs ≡ true → (b || list_any p xs) ≡ true
    more true h = refl
    more false h = h

    by : (b : Bool) → same_attempt a x ≡ b → (b || has xs a) ≡ true → (has xs a ≡ true → list_any p xs ≡ true) → (p x || list_any p xs) ≡ true
    by true q h go = ap (λ b. b || list_any p xs) (ap (λ y. p y) (sym (same-is a x q)) ∙ e)
    by false q h go = more (p x) (go h)

pub live-told : (t : TaskId) (k : ℕ) (h : List TaskCall) (a : Attempt) → is_live (seen t k h) a ≡ table.is_live (state_of t k h a)
live-told t k h a = live-is (state_of t k h a) (bits (seen t k h) a) (fits t k h a)

pub stands-told : (t : TaskId) (k : ℕ) (h : List TaskCall) (a : Attempt) → stands (seen t k h) a ≡ table.is_won (state_of t k h a)
stands-told t k h a = won-is (state_of t k h a) (bits (seen t k h) a) (fits t k h a)

pub over-told : (t : TaskId) (k : ℕ) (h : List TaskCall) (a : Attempt) → is_over (seen t k h).ended a ≡ (table.is_over (state_of t k h a) && not (has (seen t k h).accepted a))
over-told t k h a = over-is (state_of t k h a) (bits (seen t k h) a) (fits t k h a)

pub won-told : (t : TaskId) (k : ℕ) (h : List TaskCall) (a : Attempt) → table.is_won (state_of t k h a) ≡ true → launch_refusal (seen t k h) ≡ Some AlreadyWon
won-told t k h a e =
    let standing : stands (seen t k h) a ≡ true = stands-told t k h a ∙ e in
    let won : is_won (seen t k h) ≡ true = any_has (stands (seen t k h)) (seen t k h).arrived a (there (has (seen t k h).arrived a) refl standing) standing in
    ap (λ b. refusal_of b (count_by (is_live (seen t k h)) (seen t k h).arrived) (seen t k h).numbered) won
  where
    there : (b : Bool) → has (seen t k h).arrived a ≡ b → stands (seen t k h) a ≡ true → has (seen t k h).arrived a ≡ true
    there true q s = q
    there false q s = absurd (true≢false (sym s ∙ ap (λ (x : Bits). x.accepted && not x.lost) (unknown-is _ _ (fits t k h a) q)))

-- who is Succeeded
succeeded-is : (st : AttemptState) (l : Bool) → ((bits_of st l).recorded && not (bits_of st l).lost) ≡ is_succeeded st
succeeded-is New l = refl
succeeded-is Assigned l = refl
succeeded-is Running l = refl
succeeded-is CommitPending l = refl
succeeded-is Recording l = refl
succeeded-is Succeeded l = refl
succeeded-is Failed l = refl
succeeded-is Killed false = refl
succeeded-is Killed true = refl

succeeded-told : (t : TaskId) (k : ℕ) (h : List TaskCall) (a : Attempt) → is_succeeded (state_of t k h a) ≡ has_succeeded (seen t k h) a
succeeded-told t k h a = let f = fits t k h a in sym (ap (λ (b : Bits). b.recorded && not b.lost) f.is ∙ succeeded-is (state_of t k h a) f.l)

pub winner-told : (t : TaskId) (k : ℕ) (h : List TaskCall) → winner t k h ≡ succeeded (seen t k h)
winner-told t k h = λ i. find (λ a. succeeded-told t k h a i) (seen t k h).arrived
