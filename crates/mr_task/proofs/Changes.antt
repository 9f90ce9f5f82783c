-- What each call changes.
use Rattle.std.proofs.Common.{◌≡◌, ℕ, Bool, true, false, ◌&&◌, ◌||◌, not, cond, List, [], ◌∷◌, ◌++◌, filter, Option, Some, None, is_none, is_some, refl, sym, ap, ◌∙◌, true≢false, subst}
use Rattle.std.specs.List.{list_any}
use Rattle.mr_ids.specs.Attempt.{Attempt}
use Rattle.mr_ids.specs.Same.{same_task}
use Rattle.mr_ids.specs.declared.id.TaskId.{TaskId}
use Rattle.mr_ids.specs.declared.id.TaskKind.TheVariants.{Reduce}
use Rattle.mr_grant.specs.Attempts.{same_attempt, has, first_of}
use Rattle.mr_grant.proofs.Same.{same-is, same-itself}
use Rattle.mr_task.specs.Calls.{TaskCall, Launches, Hears, Asks, Reports, Fails, Ends, Dies, Records, Recovers, Loses}
use Rattle.mr_task.specs.Readings.{Seen, Ending, seen, next_seen, is_over, is_reduce, is_live, live, is_won, stands, may_accept, launch_refusal, numbered_up_to, may_recover, after_launch, after_end}
use Rattle.mr_task.specs.Changes.{ending_by, new_endings, accepts, CallsChange, EndsChangeOnlyThat, ReducesAreKept}
use Rattle.mr_task.proofs.Same.{same-sym}
use Rattle.mr_task.proofs.Arrivals.{left, nothing-arrived}
use Rattle.mr_task.proofs.Growth.{accepted-arrived}
use Rattle.mr_task.proofs.TaskLaws.{lost-none, accepted-won}
use Rattle.mr_task.proofs.Failing.{failures-are}

-- ---- who is over

ended_choice : (c : Bool) (r s : Seen) → r.ended ≡ s.ended → (cond c r s).ended ≡ s.ended
ended_choice true r s e = e
ended_choice false r s e = refl

ended-one : (s : Seen) (e : Ending) → (after_end s e.attempt e.is_failure).ended ≡ new_endings s (Some e) ++ s.ended
ended-one s e = by (is_live s e.attempt)
  where
    by : (c : Bool) → (cond c (record s { ended = record { attempt = e.attempt; is_failure = e.is_failure } ∷ s.ended }) s).ended ≡ cond c (e ∷ []) [] ++ s.ended
    by true = refl
    by false = refl

ended-after : (t : TaskId) (k : ℕ) (h : List TaskCall) (call : TaskCall) → (seen t k (call ∷ h)).ended ≡ new_endings (seen t k h) (ending_by call) ++ (seen t k h).ended
unfolding seen next_seen
ended-after t k h Launches = let s = seen t k h in ended_choice (is_none (launch_refusal s)) (after_launch t k s) s refl
ended-after t k h (Hears a) = refl
ended-after t k h (Asks a) = let s = seen t k h in ended_choice (has s.arrived a && not (has s.asked a)) (record s { asked = s.asked ++ a ∷ [] }) s refl
ended-after t k h (Reports a) = let s = seen t k h in ended_choice (may_accept s a) (record s { accepted = a ∷ s.accepted; is_fixed = is_reduce a.task.kind || s.is_fixed }) s refl
ended-after t k h (Fails a) = ended-one (seen t k h) (record { attempt = a; is_failure = true })
ended-after t k h (Ends a was_asked) = ended-one (seen t k h) (record { attempt = a; is_failure = not was_asked })
ended-after t k h (Dies a) = ended-one (seen t k h) (record { attempt = a; is_failure = false })
ended-after t k h (Records a) = let s = seen t k h in ended_choice (has s.accepted a) (record s { recorded = a ∷ s.recorded }) s refl
ended-after t k h (Recovers a) = let s = seen t k h in
    ended_choice (may_recover t s a) (record s { arrived = a ∷ []; accepted = a ∷ []; recorded = a ∷ []; numbered = numbered_up_to k a }) s refl
ended-after t k h (Loses a) = let s = seen t k h in ended_choice (not (is_reduce a.task.kind) && has s.recorded a) (record s { lost = a ∷ s.lost }) s refl

over-append : (es fs : List Ending) (a : Attempt) → is_over (es ++ fs) a ≡ (is_over es a || is_over fs a)
over-append [] fs a = refl
over-append (e ∷ es) fs a = ap (λ b. same_attempt a e.attempt || b) (over-append es fs a) ∙ sym (or_assoc (same_attempt a e.attempt) (is_over es a) (is_over fs a))
  where
    or_assoc : (x y z : Bool) → ((x || y) || z) ≡ (x || (y || z))
    or_assoc true y z = refl
    or_assoc false y z = refl

over-after : (t : TaskId) (k : ℕ) (h : List TaskCall) (call : TaskCall) (a : Attempt)
    → is_over (seen t k (call ∷ h)).ended a ≡ (is_over (new_endings (seen t k h) (ending_by call)) a || is_over (seen t k h).ended a)
over-after t k h call a = ap (λ (es : List Ending). is_over es a) (ended-after t k h call) ∙ over-append (new_endings (seen t k h) (ending_by call)) (seen t k h).ended a

-- ---- who is accepted

accepted_choice : (c : Bool) (r s : Seen) (a : Attempt) → r.accepted ≡ s.accepted → has (cond c r s).accepted a ≡ has s.accepted a
accepted_choice true r s a e = ap (λ xs. has xs a) e
accepted_choice false r s a e = refl

accepted-after : (t : TaskId) (k : ℕ) (h : List TaskCall) (call : TaskCall) (a : Attempt)
    → has (seen t k (call ∷ h)).accepted a ≡ (accepts t (seen t k h) call a || has (seen t k h).accepted a)
unfolding seen next_seen
accepted-after t k h Launches a = let s = seen t k h in accepted_choice (is_none (launch_refusal s)) (after_launch t k s) s a refl
accepted-after t k h (Hears b) a = refl
accepted-after t k h (Asks b) a = let s = seen t k h in accepted_choice (has s.arrived b && not (has s.asked b)) (record s { asked = s.asked ++ b ∷ [] }) s a refl
accepted-after t k h (Reports b) a = by (may_accept (seen t k h) b)
  where
    and-true : (x y : Bool) → (x || y) ≡ ((x && true) || y)
    and-true true y = refl
    and-true false y = refl

    and-false : (x y : Bool) → y ≡ ((x && false) || y)
    and-false true y = refl
    and-false false y = refl

    by : (c : Bool) → has (cond c (record (seen t k h) { accepted = b ∷ (seen t k h).accepted; is_fixed = is_reduce b.task.kind || (seen t k h).is_fixed }) (seen t k h)).accepted a
        ≡ ((same_attempt a b && c) || has (seen t k h).accepted a)
    by true = and-true (same_attempt a b) (has (seen t k h).accepted a)
    by false = and-false (same_attempt a b) (has (seen t k h).accepted a)
accepted-after t k h (Fails b) a = let s = seen t k h in accepted_choice (is_live s b) (record s { ended = record { attempt = b; is_failure = true } ∷ s.ended }) s a refl
accepted-after t k h (Ends b was_asked) a = let s = seen t k h in accepted_choice (is_live s b) (record s { ended = record { attempt = b; is_failure = not was_asked } ∷ s.ended }) s a refl
accepted-after t k h (Dies b) a = let s = seen t k h in accepted_choice (is_live s b) (record s { ended = record { attempt = b; is_failure = false } ∷ s.ended }) s a refl
accepted-after t k h (Records b) a = let s = seen t k h in accepted_choice (has s.accepted b) (record s { recorded = b ∷ s.recorded }) s a refl
accepted-after t k h (Recovers b) a = by (may_recover t (seen t k h) b) refl
  where
    none : may_recover t (seen t k h) b ≡ true → (c : Bool) → has (seen t k h).accepted a ≡ c → c ≡ false
    none e false q = refl
    none e true q = absurd (true≢false (sym (accepted-arrived t k h a q) ∙ ap (λ xs. has xs a) (nothing-arrived (seen t k h).arrived (left (is_none (first_of (seen t k h).arrived)) (same_task b.task t) e))))

    both : (x y : Bool) → y ≡ false → (x || false) ≡ ((x && true) || y)
    both true y e = refl
    both false y e = sym e

    and-false : (x y : Bool) → y ≡ ((x && false) || y)
    and-false true y = refl
    and-false false y = refl

    by : (c : Bool) → may_recover t (seen t k h) b ≡ c
        → has (cond c (record (seen t k h) { arrived = b ∷ []; accepted = b ∷ []; recorded = b ∷ []; numbered = numbered_up_to k b }) (seen t k h)).accepted a
        ≡ ((same_attempt a b && c) || has (seen t k h).accepted a)
    by true e = both (same_attempt a b) (has (seen t k h).accepted a) (none e (has (seen t k h).accepted a) refl)
    by false e = and-false (same_attempt a b) (has (seen t k h).accepted a)
accepted-after t k h (Loses b) a = let s = seen t k h in accepted_choice (not (is_reduce b.task.kind) && has s.recorded b) (record s { lost = b ∷ s.lost }) s a refl

pub calls_change : CallsChange
calls_change = record { ended = ended-after; over = over-after; accepted = accepted-after; failures = failures-are }

-- ---- what an end leaves

-- those that pass two tests
both-tests : (p q : Attempt → Bool) (xs : List Attempt) → filter (λ x. p x && q x) xs ≡ filter q (filter p xs)
both-tests p q [] = refl
both-tests p q (x ∷ xs) = by (p x) (both-tests p q xs)
  where
    by2 : (c : Bool) → filter (λ x. p x && q x) xs ≡ filter q (filter p xs) → cond c (x ∷ filter (λ x. p x && q x) xs) (filter (λ x. p x && q x) xs) ≡ cond c (x ∷ filter q (filter p xs)) (filter q (filter p xs))
    by2 true rest = ap (λ l. x ∷ l) rest
    by2 false rest = rest

    by : (b : Bool) → filter (λ x. p x && q x) xs ≡ filter q (filter p xs) → cond (b && q x) (x ∷ filter (λ x. p x && q x) xs) (filter (λ x. p x && q x) xs) ≡ filter q (cond b (x ∷ filter p xs) (filter p xs))
    by true rest = by2 (q x) rest
    by false rest = rest

with_ending : Seen → Ending → Seen
with_ending s e = record s { ended = e ∷ s.ended }

live-without : (s : Seen) (e : Ending) (x : Attempt) → is_live (with_ending s e) x ≡ (is_live s x && not (same_attempt e.attempt x))
unfolding with_ending
live-without s e x = by (has s.arrived x) (has s.accepted x) (is_over s.ended x) ∙ ap (λ b. is_live s x && not b) (same-sym x e.attempt)
  where
    or-true : (b : Bool) → not (b || true) ≡ false
    or-true true = refl
    or-true false = refl

    or-false : (b : Bool) → not (b || false) ≡ not b
    or-false true = refl
    or-false false = refl

    by : (b c d : Bool) → (b && (not c && not (same_attempt x e.attempt || d))) ≡ ((b && (not c && not d)) && not (same_attempt x e.attempt))
    by false c d = refl
    by true true d = refl
    by true false true = or-true (same_attempt x e.attempt)
    by true false false = or-false (same_attempt x e.attempt)

-- who is not live is not among them
dead-is-not : (s : Seen) (a x : Attempt) → is_live s a ≡ false → is_live s x ≡ (is_live s x && not (same_attempt a x))
dead-is-not s a x dead = by (same_attempt a x) refl
  where
    and-true : (b : Bool) → b ≡ (b && true)
    and-true true = refl
    and-true false = refl

    by : (c : Bool) → same_attempt a x ≡ c → is_live s x ≡ (is_live s x && not c)
    by false q = and-true (is_live s x)
    by true q = let e : is_live s x ≡ false = ap (λ y. is_live s y) (sym (same-is a x q)) ∙ dead in e ∙ sym (ap (λ b. b && false) e)

live-after : (s : Seen) (e : Ending) → live (after_end s e.attempt e.is_failure) ≡ filter (λ a. not (same_attempt e.attempt a)) (live s)
unfolding with_ending
live-after s e = by (is_live s e.attempt) refl ∙ both-tests (is_live s) (λ a. not (same_attempt e.attempt a)) s.arrived
  where
    by : (c : Bool) → is_live s e.attempt ≡ c
        → live (cond c (record s { ended = record { attempt = e.attempt; is_failure = e.is_failure } ∷ s.ended }) s) ≡ filter (λ x. is_live s x && not (same_attempt e.attempt x)) s.arrived
    by true q = λ i. filter (λ x. live-without s e x i) s.arrived
    by false q = λ i. filter (λ x. dead-is-not s e.attempt x q i) s.arrived

only-ended : (s : Seen) (e : Ending) → after_end s e.attempt e.is_failure ≡ record s { ended = (after_end s e.attempt e.is_failure).ended }
only-ended s e = by (is_live s e.attempt)
  where
    r : Seen
    r = record s { ended = record { attempt = e.attempt; is_failure = e.is_failure } ∷ s.ended }

    by : (c : Bool) → cond c r s ≡ record s { ended = (cond c r s).ended }
    by true = refl
    by false = refl

after_ending : Seen → Option Ending → Seen
after_ending s None = s
after_ending s (Some e) = after_end s e.attempt e.is_failure

-- a call that tells of an end does what the end does
is-end : (t : TaskId) (k : ℕ) (h : List TaskCall) (call : TaskCall) (e : Ending) → ending_by call ≡ Some e → seen t k (call ∷ h) ≡ after_end (seen t k h) e.attempt e.is_failure
unfolding seen next_seen after_ending
is-end t k h (Fails a) e q = ap (after_ending (seen t k h)) q
is-end t k h (Ends a was_asked) e q = ap (after_ending (seen t k h)) q
is-end t k h (Dies a) e q = ap (after_ending (seen t k h)) q
is-end t k h Launches e q = absurd (true≢false (sym (ap is_some q)))
is-end t k h (Hears a) e q = absurd (true≢false (sym (ap is_some q)))
is-end t k h (Asks a) e q = absurd (true≢false (sym (ap is_some q)))
is-end t k h (Reports a) e q = absurd (true≢false (sym (ap is_some q)))
is-end t k h (Records a) e q = absurd (true≢false (sym (ap is_some q)))
is-end t k h (Recovers a) e q = absurd (true≢false (sym (ap is_some q)))
is-end t k h (Loses a) e q = absurd (true≢false (sym (ap is_some q)))

pub ends_change : EndsChangeOnlyThat
ends_change t k h call e q =
    let s = seen t k h in
    let is = is-end t k h call e q in
    let only : seen t k (call ∷ h) ≡ record s { ended = (seen t k (call ∷ h)).ended } = let P : Seen → Type 0 = λ r. r ≡ record s { ended = r.ended } in subst P (sym is) (only-ended s e) in
    record {
      only = only;
      live = ap (λ (r : Seen). live r) is ∙ live-after s e;
      won = ap (λ (r : Seen). is_won r) only;
    }

-- ---- reduces

-- where none was accepted none stands
none-any : (p : Attempt → Bool) (xs : List Attempt) → ((x : Attempt) → p x ≡ false) → list_any p xs ≡ false
none-any p [] h = refl
none-any p (x ∷ xs) h = let here = h x in let rest = none-any p xs h in λ i. here i || rest i

pub reduces_are_kept : ReducesAreKept
reduces_are_kept = record { none_lost = λ t k h r. lost-none t k h r; won = won }
  where
    won : (t : TaskId) (k : ℕ) (h : List TaskCall) → t.kind ≡ Reduce → is_won (seen t k h) ≡ is_some (first_of (seen t k h).accepted)
    won t k h r = by (seen t k h).accepted refl
      where
        by : (xs : List Attempt) → (seen t k h).accepted ≡ xs → is_won (seen t k h) ≡ is_some (first_of xs)
        by [] q = none-any (stands (seen t k h)) (seen t k h).arrived (λ x. ap (λ l. has l x && not (has (seen t k h).lost x)) q)
        by (x ∷ xs) q = accepted-won t k h x r (ap (λ l. has l x) q ∙ ap (λ b. b || has xs x) (same-itself x))
