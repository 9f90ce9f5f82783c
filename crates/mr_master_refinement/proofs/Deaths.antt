-- What all deaths of a list, and all losses, change of the view of a task, whatever their order.
use Rattle.std.proofs.Common.{ℕ, ◌≡◌, refl, sym, ◌∙◌, ap, Bool, true, false, ◌&&◌, ◌||◌, not, List, [], ◌∷◌, if◌then◌else◌}
use Rattle.mr_ids.specs.Attempt.{Attempt}
use Rattle.mr_ids.specs.declared.id.TaskId.{TaskId}
use Rattle.mr_grant.specs.Attempts as grant
use Rattle.mr_grant.specs.Attempts.{same_attempt}
use Rattle.mr_grant.proofs.Same.{same-is}
use Rattle.mr_task.specs.Calls as task_call
use Rattle.mr_task.specs.Calls.{TaskCall}
use Rattle.mr_task.specs.Readings as task
use Rattle.mr_master_model.specs.Readings.{told_each}
use Rattle.mr_master_refinement.specs.Points.{View, view, Alike}
use Rattle.mr_master_refinement.proofs.Alike.{next_in, next-is, live_in, ended_in, lost_in, can_lose, with_end}

-- all live attempts that pass are dead; all recorded maps' attempts that pass are lost
abbrev pub all_dead : View → (Attempt → Bool) → View
all_dead v p = record v { over = λ b. (p b && live_in v b) || v.over b; failed = λ b. if p b && live_in v b then false else v.failed b }

abbrev pub all_lost : View → (Attempt → Bool) → View
all_lost v p = record v { lost = λ b. (p b && can_lose v b) || v.lost b }

or-true : (x : Bool) → (x || true) ≡ true
or-true true = refl
or-true false = refl

and-false : (x : Bool) → (x && false) ≡ false
and-false true = refl
and-false false = refl

-- only what lives, or is recorded and not lost, matters
pub same-dead : (v : View) (p q : Attempt → Bool) → ((b : Attempt) → (p b && live_in v b) ≡ (q b && live_in v b)) → all_dead v p ≡ all_dead v q
same-dead v p q e = λ i. record v { over = λ b. e b i || v.over b; failed = λ b. if e b i then false else v.failed b }

pub same-lost : (v : View) (p q : Attempt → Bool) → ((b : Attempt) → ((p b && can_lose v b) || v.lost b) ≡ ((q b && can_lose v b) || v.lost b)) → all_lost v p ≡ all_lost v q
same-lost v p q e = λ i. record v { lost = λ b. e b i }

-- one more
dead-more : (v : View) (a : Attempt) (p : Attempt → Bool) → all_dead (ended_in v a false) p ≡ all_dead v (λ b. same_attempt b a || p b)
dead-more v a p = by (live_in v a) refl
  where
    Lives : Attempt → Bool → Bool
    Lives b c = grant.has v.arrived b && (not (grant.has v.accepted b) && not (c || v.over b))

    is-live : live_in v a ≡ true → (b : Attempt) → same_attempt b a ≡ true → live_in v b ≡ true
    is-live e b q = ap (live_in v) (same-is b a q) ∙ e

    over : live_in v a ≡ true → (b : Attempt) (c : Bool) → same_attempt b a ≡ c → ((p b && Lives b c) || (c || v.over b)) ≡ (((c || p b) && live_in v b) || v.over b)
    over e b true q = or-true (p b && Lives b true) ∙ (λ i. sym (is-live e b q) i || v.over b)
    over e b false q = refl

    failed : live_in v a ≡ true → (b : Attempt) (c : Bool) → same_attempt b a ≡ c → (if p b && Lives b c then false else (if c then false else v.failed b)) ≡ (if (c || p b) && live_in v b then false else v.failed b)
    failed e b true q = none (p b && Lives b true) ∙ (λ i. if sym (is-live e b q) i then false else v.failed b)
      where
        none : (x : Bool) → (if x then false else false) ≡ false
        none true = refl
        none false = refl
    failed e b false q = refl

    dead : live_in v a ≡ false → (b : Attempt) (c : Bool) → same_attempt b a ≡ c → (p b && live_in v b) ≡ ((c || p b) && live_in v b)
    dead e b true q = ap (λ x. p b && x) (ap (live_in v) (same-is b a q) ∙ e) ∙ (and-false (p b) ∙ (sym e ∙ sym (ap (live_in v) (same-is b a q))))
    dead e b false q = refl

    by : (c : Bool) → live_in v a ≡ c → all_dead (if c then with_end v a false else v) p ≡ all_dead v (λ b. same_attempt b a || p b)
    by true e = λ i. record v { over = λ b. over e b (same_attempt b a) refl i; failed = λ b. failed e b (same_attempt b a) refl i }
    by false e = same-dead v p (λ b. same_attempt b a || p b) (λ b. dead e b (same_attempt b a) refl)

lost-more : (v : View) (a : Attempt) (p : Attempt → Bool) → all_lost (lost_in v a) p ≡ all_lost v (λ b. same_attempt b a || p b)
lost-more v a p = by (can_lose v a) refl
  where
    is-recorded : (c : Bool) → can_lose v a ≡ c → (b : Attempt) → same_attempt b a ≡ true → can_lose v b ≡ c
    is-recorded c e b q = ap (can_lose v) (same-is b a q) ∙ e

    lost : can_lose v a ≡ true → (b : Attempt) (c : Bool) → same_attempt b a ≡ c → ((p b && can_lose v b) || (c || v.lost b)) ≡ (((c || p b) && can_lose v b) || v.lost b)
    lost e b true q = or-true (p b && can_lose v b) ∙ (λ i. sym (is-recorded true e b q) i || v.lost b)
    lost e b false q = refl

    none : can_lose v a ≡ false → (b : Attempt) (c : Bool) → same_attempt b a ≡ c → ((p b && can_lose v b) || v.lost b) ≡ (((c || p b) && can_lose v b) || v.lost b)
    none e b true q = (λ i. (p b && is-recorded false e b q i) || v.lost b) ∙ ((λ i. and-false (p b) i || v.lost b) ∙ (λ i. sym (is-recorded false e b q) i || v.lost b))
    none e b false q = refl

    by : (c : Bool) → can_lose v a ≡ c → all_lost (if c then record v { lost = λ b. same_attempt b a || v.lost b } else v) p ≡ all_lost v (λ b. same_attempt b a || p b)
    by true e = λ i. record v { lost = λ b. lost e b (same_attempt b a) refl i }
    by false e = same-lost v p (λ b. same_attempt b a || p b) (λ b. none e b (same_attempt b a) refl)

-- ---- a list

abbrev pub dies : Attempt → TaskCall
dies a = task_call.Dies a

abbrev pub loses : Attempt → TaskCall
loses a = task_call.Loses a

pub died-each : (t : TaskId) (k : ℕ) (xs : List Attempt) (c : List TaskCall) → view (task.seen t k (told_each dies xs c)) ≡ all_dead (view (task.seen t k c)) (grant.has xs)
unfolding task.seen next_in
died-each t k [] c = refl
died-each t k (a ∷ xs) c = died-each t k xs (task_call.Dies a ∷ c) ∙ (ap (λ v. all_dead v (grant.has xs)) (next-is t k (task.seen t k c) (task_call.Dies a)) ∙ dead-more (view (task.seen t k c)) a (grant.has xs))

pub lost-each : (t : TaskId) (k : ℕ) (xs : List Attempt) (c : List TaskCall) → view (task.seen t k (told_each loses xs c)) ≡ all_lost (view (task.seen t k c)) (grant.has xs)
unfolding task.seen next_in
lost-each t k [] c = refl
lost-each t k (a ∷ xs) c = lost-each t k xs (task_call.Loses a ∷ c) ∙ (ap (λ v. all_lost v (grant.has xs)) (next-is t k (task.seen t k c) (task_call.Loses a)) ∙ lost-more (view (task.seen t k c)) a (grant.has xs))

-- Tasks that are alike stay so where the same of the live attempts die and the same of those that are recorded are lost, in either order.
pub alike-each : (t : TaskId) (k : ℕ) (c d : List TaskCall) (xs ys us vs : List Attempt) → Alike (task.seen t k c) (task.seen t k d) →
    ((b : Attempt) → live_in (view (task.seen t k c)) b ≡ true → grant.has us b ≡ grant.has xs b) →
    ((b : Attempt) → can_lose (view (task.seen t k c)) b ≡ true → grant.has (task.seen t k c).lost b ≡ false → grant.has vs b ≡ grant.has ys b) →
    Alike (task.seen t k (told_each dies xs (told_each loses ys c))) (task.seen t k (told_each loses vs (told_each dies us d)))
alike-each t k c d xs ys us vs e die lose =
    lost-each t k vs (told_each dies us d)
    ∙ (ap (λ v. all_lost v (grant.has vs)) (died-each t k us d ∙ (ap (λ v. all_dead v (grant.has us)) e ∙ same-dead V (grant.has us) (grant.has xs) (λ b. dead b (live_in V b) refl)))
    ∙ (same-lost (all_dead V (grant.has xs)) (grant.has vs) (grant.has ys) (λ b. gone b (can_lose V b) refl (V.lost b) refl)
    ∙ sym (died-each t k xs (told_each loses ys c) ∙ ap (λ v. all_dead v (grant.has xs)) (lost-each t k ys c))))
  where
    V : View
    V = view (task.seen t k c)

    dead : (b : Attempt) (l : Bool) → live_in V b ≡ l → (grant.has us b && l) ≡ (grant.has xs b && l)
    dead b true q = λ i. die b q i && true
    dead b false q = and-false (grant.has us b) ∙ sym (and-false (grant.has xs b))

    gone : (b : Attempt) (r : Bool) → can_lose V b ≡ r → (l : Bool) → V.lost b ≡ l → ((grant.has vs b && r) || l) ≡ ((grant.has ys b && r) || l)
    gone b r q true f = or-true (grant.has vs b && r) ∙ sym (or-true (grant.has ys b && r))
    gone b true q false f = λ i. (lose b q f i && true) || false
    gone b false q false f = (λ i. and-false (grant.has vs b) i || false) ∙ (λ i. sym (and-false (grant.has ys b)) i || false)
