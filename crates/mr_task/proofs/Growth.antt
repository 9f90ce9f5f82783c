-- What each further call leaves of what was heard: who asked stays in front, who is over stays over, who is accepted stays accepted.
use Rattle.std.proofs.Common.{◌≡◌, ℕ, Bool, true, false, ◌&&◌, ◌||◌, not, cond, List, [], ◌∷◌, ◌++◌, Some, is_none, refl, sym, ap, ◌∙◌, true≢false, append_assoc}
use Rattle.mr_ids.specs.Attempt.{Attempt}
use Rattle.mr_ids.specs.declared.id.TaskId.{TaskId}
use Rattle.mr_ids.specs.Same.{same_task}
use Rattle.mr_grant.specs.Attempts.{same_attempt, has, first_of}
use Rattle.mr_task.specs.Calls.{TaskCall, Launches, Hears, Asks, Reports, Fails, Ends, Dies, Records, Recovers, Loses}
use Rattle.mr_task.specs.Readings.{Seen, Ending, seen, next_seen, is_over, is_reduce, is_live, may_accept, waiting_in, named, named_in, launch_refusal, numbered_up_to, may_recover, after_launch, after_end}
use Rattle.mr_task.proofs.Arrivals.{left, nothing-arrived}
use Rattle.mr_task.proofs.Bits.{Bits, unknown-is, accepted-stays}
use Rattle.mr_task.proofs.States.{fits}

-- ---- of one prefix

-- who is accepted has arrived
pub accepted-arrived : (t : TaskId) (k : ℕ) (h : List TaskCall) (a : Attempt) → has (seen t k h).accepted a ≡ true → has (seen t k h).arrived a ≡ true
accepted-arrived t k h a e = by (has (seen t k h).arrived a) refl
  where
    by : (b : Bool) → has (seen t k h).arrived a ≡ b → b ≡ true
    by true q = refl
    by false q = absurd (true≢false (sym e ∙ ap (λ (b : Bits). b.accepted) (unknown-is _ _ (fits t k h a) q)))

-- who is recorded has arrived
pub recorded-arrived : (t : TaskId) (k : ℕ) (h : List TaskCall) (a : Attempt) → has (seen t k h).recorded a ≡ true → has (seen t k h).arrived a ≡ true
recorded-arrived t k h a e = by (has (seen t k h).arrived a) refl
  where
    by : (b : Bool) → has (seen t k h).arrived a ≡ b → b ≡ true
    by true q = refl
    by false q = absurd (true≢false (sym e ∙ ap (λ (b : Bits). b.recorded) (unknown-is _ _ (fits t k h a) q)))

-- who is accepted is not over
pub accepted-not-over : (t : TaskId) (k : ℕ) (h : List TaskCall) (a : Attempt) → has (seen t k h).accepted a ≡ true → is_over (seen t k h).ended a ≡ false
accepted-not-over t k h a e = accepted-stays _ _ (fits t k h a) e

-- ---- of a prefix and a longer one

pub record Grows (s r : Seen) : Type 0 where
  pub more : List Attempt
  pub asked : r.asked ≡ s.asked ++ more
  pub over : (a : Attempt) → is_over s.ended a ≡ true → is_over r.ended a ≡ true
  pub accepted : (a : Attempt) → has s.accepted a ≡ true → has r.accepted a ≡ true

none-more : (xs : List Attempt) → xs ≡ xs ++ []
none-more [] = refl
none-more (x ∷ xs) = ap (λ ys. x ∷ ys) (none-more xs)

either-true : (x y : Bool) → y ≡ true → (x || y) ≡ true
either-true true y e = refl
either-true false y e = e

grows-same : (s r : Seen) → r.asked ≡ s.asked → r.ended ≡ s.ended → r.accepted ≡ s.accepted → Grows s r
grows-same s r e f g = record {
  more = [];
  asked = e ∙ none-more s.asked;
  over = λ a h. ap (λ es. is_over es a) f ∙ h;
  accepted = λ a h. ap (λ xs. has xs a) g ∙ h;
}

pub grows-not : (s : Seen) → Grows s s
grows-not s = grows-same s s refl refl refl

pub grows-then : (s r q : Seen) → Grows s r → Grows r q → Grows s q
grows-then s r q g f = record {
  more = g.more ++ f.more;
  asked = f.asked ∙ ap (λ xs. xs ++ f.more) g.asked ∙ append_assoc s.asked g.more f.more;
  over = λ a h. f.over a (g.over a h);
  accepted = λ a h. f.accepted a (g.accepted a h);
}

choice : (c : Bool) (s r : Seen) → (c ≡ true → Grows s r) → Grows s (cond c r s)
choice true s r g = g refl
choice false s r g = grows-not s

ends : (s : Seen) (a : Attempt) (b : Bool) → Grows s (after_end s a b)
ends s a b = choice (is_live s a) s (record s { ended = record { attempt = a; is_failure = b } ∷ s.ended }) (λ _. record {
  more = [];
  asked = none-more s.asked;
  over = λ x h. either-true (same_attempt x a) (is_over s.ended x) h;
  accepted = λ x h. h;
})

recovers : (t : TaskId) (k : ℕ) (h : List TaskCall) (b : Attempt) → may_recover t (seen t k h) b ≡ true
    → Grows (seen t k h) (record (seen t k h) { arrived = b ∷ []; accepted = b ∷ []; recorded = b ∷ []; numbered = numbered_up_to k b })
recovers t k h b may = record {
  more = [];
  asked = none-more (seen t k h).asked;
  over = λ x o. o;
  accepted = λ x e. absurd (true≢false (sym (accepted-arrived t k h x e) ∙ ap (λ xs. has xs x) nobody));
}
  where
    nobody : (seen t k h).arrived ≡ []
    nobody = nothing-arrived (seen t k h).arrived (left (is_none (first_of (seen t k h).arrived)) (same_task b.task t) may)

grows-step : (t : TaskId) (k : ℕ) (h : List TaskCall) (c : TaskCall) → Grows (seen t k h) (next_seen t k (seen t k h) c)
unfolding next_seen
grows-step t k h Launches = let s = seen t k h in choice (is_none (launch_refusal s)) s (after_launch t k s) (λ _. grows-same s (after_launch t k s) refl refl refl)
grows-step t k h (Hears a) = grows-not (seen t k h)
grows-step t k h (Asks a) = let s = seen t k h in choice (has s.arrived a && not (has s.asked a)) s (record s { asked = s.asked ++ a ∷ [] })
    (λ _. record { more = a ∷ []; asked = refl; over = λ x o. o; accepted = λ x e. e })
grows-step t k h (Reports a) = let s = seen t k h in choice (may_accept s a) s (record s { accepted = a ∷ s.accepted; is_fixed = is_reduce a.task.kind || s.is_fixed })
    (λ _. record { more = []; asked = none-more s.asked; over = λ x o. o; accepted = λ x e. either-true (same_attempt x a) (has s.accepted x) e })
grows-step t k h (Fails a) = ends (seen t k h) a true
grows-step t k h (Ends a was_asked) = ends (seen t k h) a (not was_asked)
grows-step t k h (Dies a) = ends (seen t k h) a false
grows-step t k h (Records a) = let s = seen t k h in let r : Seen = record s { recorded = a ∷ s.recorded } in choice (has s.accepted a) s r (λ _. grows-same s r refl refl refl)
grows-step t k h (Recovers b) = let s = seen t k h in
    choice (may_recover t s b) s (record s { arrived = b ∷ []; accepted = b ∷ []; recorded = b ∷ []; numbered = numbered_up_to k b }) (recovers t k h b)
grows-step t k h (Loses a) = let s = seen t k h in let r : Seen = record s { lost = a ∷ s.lost } in choice (not (is_reduce a.task.kind) && has s.recorded a) s r (λ _. grows-same s r refl refl refl)

pub grows : (t : TaskId) (k : ℕ) (h more : List TaskCall) → Grows (seen t k h) (seen t k (more ++ h))
unfolding seen
grows t k h [] = grows-not (seen t k h)
grows t k h (c ∷ more) = grows-then (seen t k h) (seen t k (more ++ h)) (next_seen t k (seen t k (more ++ h)) c) (grows t k h more) (grows-step t k (more ++ h) c)

-- ---- the name

-- the first of those that wait stays the first while it waits
pub first-stays : (xs more : List Attempt) (es fs : List Ending) (a : Attempt) → ((x : Attempt) → is_over es x ≡ true → is_over fs x ≡ true)
    → first_of (waiting_in xs es) ≡ Some a → is_over fs a ≡ false → first_of (waiting_in (xs ++ more) fs) ≡ Some a
first-stays [] more es fs a over e waits = absurd (cc)
first-stays (x ∷ xs) more es fs a over e waits = by (is_over es x) refl e (first-stays xs more es fs a over)
  where
    by : (b : Bool) → is_over es x ≡ b → first_of (cond (not b) (x ∷ waiting_in xs es) (waiting_in xs es)) ≡ Some a
        → (first_of (waiting_in xs es) ≡ Some a → is_over fs a ≡ false → first_of (waiting_in (xs ++ more) fs) ≡ Some a)
        → first_of (cond (not (is_over fs x)) (x ∷ waiting_in (xs ++ more) fs) (waiting_in (xs ++ more) fs)) ≡ Some a
    by true o f rest = ap (λ b. first_of (cond (not b) (x ∷ waiting_in (xs ++ more) fs) (waiting_in (xs ++ more) fs))) (over x o) ∙ rest f waits
    by false o f rest =
        let q : x ≡ a = cc in
        ap (λ b. first_of (cond (not b) (x ∷ waiting_in (xs ++ more) fs) (waiting_in (xs ++ more) fs))) (ap (λ y. is_over fs y) q ∙ waits) ∙ ap (λ y. Some y) q

pub name-stays : (t : TaskId) (k : ℕ) (h more : List TaskCall) (a : Attempt) → named (seen t k h) ≡ Some a
    → is_over (seen t k (more ++ h)).ended a ≡ false → named (seen t k (more ++ h)) ≡ Some a
name-stays t k h more a e waits =
    let s = seen t k h in
    let r = seen t k (more ++ h) in
    let g = grows t k h more in
    ap (λ xs. named_in xs r.ended) g.asked ∙ first-stays s.asked g.more s.ended r.ended a g.over e waits
