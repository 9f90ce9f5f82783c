-- Of each attempt, its state in the table of attempts tells what was heard of it.
use Rattle.std.proofs.Common.{◌≡◌, ℕ, Bool, true, false, ◌&&◌, ◌||◌, not, cond, List, [], ◌∷◌, ◌++◌, filter, is_none, refl, sym, ap, ◌∙◌, true≢false, subst}
use Rattle.mr_ids.specs.Attempt.{Attempt}
use Rattle.mr_ids.specs.declared.id.TaskId.{TaskId}
use Rattle.mr_ids.specs.declared.id.TaskKind.{TaskKind}
use Rattle.mr_ids.specs.declared.id.TaskKind.TheVariants.{Map, Reduce}
use Rattle.mr_attempt.specs.declared.state.AttemptState.{AttemptState}
use Rattle.mr_attempt.specs.declared.state.AttemptState.TheVariants.{New}
use Rattle.mr_attempt.specs.declared.state.AttemptEvent.{AttemptEvent}
use Rattle.mr_attempt.specs.declared.state.AttemptEvent.TheVariants as event
use Rattle.mr_attempt.specs.Table as table
use Rattle.mr_ids.specs.Same.{same_task}
use Rattle.mr_grant.specs.Attempts.{same_attempt, has, first_of, is_first}
use Rattle.mr_grant.proofs.Same.{same-is, same-itself}
use Rattle.mr_task.specs.Calls.{TaskCall, Launches, Hears, Asks, Reports, Fails, Ends, Dies, Records, Recovers, Loses}
use Rattle.mr_task.specs.Readings.{Seen, Ending, seen, next_seen, is_over, has_failed, is_reduce, is_live, is_won, may_accept, may_accept_of, launch_refusal, next_attempt, numbered_up_to, may_recover, after_launch, after_ask, after_done, after_end, after_record, after_loss, only, events_by, events_of, state_of}
use Rattle.mr_task.proofs.Lists.{has-append}
use Rattle.mr_task.proofs.Bits.{Bits, bits, bits_of, Fits, bits_done, bits_ended, bits_recorded, bits_lost, moved, done-fits, fail-fits, kill-fits, record-fits, lose-fits, hear-fits, ask-fits, unknown-is, unknown-new}
use Rattle.mr_task.proofs.Arrivals.{left, is_false, nothing-arrived, arrivals, fresh}

-- ---- the state after a call

pub one : (kind : TaskKind) (m : Bool) (e : AttemptEvent) (events : List AttemptEvent) → table.state_after kind (only m (e ∷ []) ++ events) ≡ moved kind e m (table.state_after kind events)
one kind true e events = refl
one kind false e events = refl

-- a call of b, about a
said : (kind : TaskKind) (e : AttemptEvent) (s r : Seen) (st now : AttemptState) (a b : Attempt)
    → now ≡ moved kind e (same_attempt a b) st → Fits st (bits s a)
    → (same_attempt a b ≡ false → bits r a ≡ bits s a)
    → (a ≡ b → Fits (table.after kind st e) (bits r a)) → Fits now (bits r a)
said kind e s r st now a b is f others itself = by (same_attempt a b) refl is
  where
    by : (m : Bool) → same_attempt a b ≡ m → now ≡ moved kind e m st → Fits now (bits r a)
    by true h is = subst (λ x. Fits x (bits r a)) (sym is) (itself (same-is a b h))
    by false h is = let P : AttemptState → Type 0 = λ x. Fits x (bits r a) in subst P (sym is) (let Q : Bits → Type 0 = λ x. Fits st x in subst Q (sym (others h)) f)

-- ---- what each call does to the truth values

asked_bits : (s : Seen) (b a : Attempt) → bits (after_ask s b) a ≡ bits s a
asked_bits s b a = by (has s.arrived b && not (has s.asked b))
  where
    by : (c : Bool) → bits (cond c (record s { asked = s.asked ++ b ∷ [] }) s) a ≡ bits s a
    by true = refl
    by false = refl

ended_itself : (s : Seen) (a : Attempt) (f : Bool) → bits (after_end s a f) a ≡ bits_ended f (bits s a)
ended_itself s a f = by (is_live s a)
  where
    by : (c : Bool) → bits (cond c (record s { ended = record { attempt = a; is_failure = f } ∷ s.ended }) s) a ≡ cond c (record (bits s a) { over = true; failed = f }) (bits s a)
    by true = let p = same-itself a in λ i. record { arrived = has s.arrived a; accepted = has s.accepted a; over = p i || is_over s.ended a; failed = cond (p i) f (has_failed s.ended a); recorded = has s.recorded a; lost = has s.lost a }
    by false = refl

ended_other : (s : Seen) (b a : Attempt) (f : Bool) → same_attempt a b ≡ false → bits (after_end s b f) a ≡ bits s a
ended_other s b a f e = by (is_live s b)
  where
    by : (c : Bool) → bits (cond c (record s { ended = record { attempt = b; is_failure = f } ∷ s.ended }) s) a ≡ bits s a
    by true = λ i. record { arrived = has s.arrived a; accepted = has s.accepted a; over = e i || is_over s.ended a; failed = cond (e i) f (has_failed s.ended a); recorded = has s.recorded a; lost = has s.lost a }
    by false = refl

done_itself : (s : Seen) (a : Attempt) → bits (after_done s a) a ≡ bits_done (may_accept_of a.task.kind s a) (bits s a)
done_itself s a = by (may_accept s a)
  where
    by : (c : Bool) → bits (cond c (record s { accepted = a ∷ s.accepted; is_fixed = is_reduce a.task.kind || s.is_fixed }) s) a ≡ cond c (record (bits s a) { accepted = true }) (bits s a)
    by true = let p = same-itself a in λ i. record { arrived = has s.arrived a; accepted = p i || has s.accepted a; over = is_over s.ended a; failed = has_failed s.ended a; recorded = has s.recorded a; lost = has s.lost a }
    by false = refl

done_other : (s : Seen) (b a : Attempt) → same_attempt a b ≡ false → bits (after_done s b) a ≡ bits s a
done_other s b a e = by (may_accept s b)
  where
    by : (c : Bool) → bits (cond c (record s { accepted = b ∷ s.accepted; is_fixed = is_reduce b.task.kind || s.is_fixed }) s) a ≡ bits s a
    by true = λ i. record { arrived = has s.arrived a; accepted = e i || has s.accepted a; over = is_over s.ended a; failed = has_failed s.ended a; recorded = has s.recorded a; lost = has s.lost a }
    by false = refl

recorded_itself : (s : Seen) (a : Attempt) → bits (after_record s a) a ≡ bits_recorded (bits s a)
recorded_itself s a = by (has s.accepted a)
  where
    by : (c : Bool) → bits (cond c (record s { recorded = a ∷ s.recorded }) s) a ≡ cond c (record (bits s a) { recorded = true }) (bits s a)
    by true = let p = same-itself a in λ i. record { arrived = has s.arrived a; accepted = has s.accepted a; over = is_over s.ended a; failed = has_failed s.ended a; recorded = p i || has s.recorded a; lost = has s.lost a }
    by false = refl

recorded_other : (s : Seen) (b a : Attempt) → same_attempt a b ≡ false → bits (after_record s b) a ≡ bits s a
recorded_other s b a e = by (has s.accepted b)
  where
    by : (c : Bool) → bits (cond c (record s { recorded = b ∷ s.recorded }) s) a ≡ bits s a
    by true = λ i. record { arrived = has s.arrived a; accepted = has s.accepted a; over = is_over s.ended a; failed = has_failed s.ended a; recorded = e i || has s.recorded a; lost = has s.lost a }
    by false = refl

lost_itself : (s : Seen) (a : Attempt) → bits (after_loss s a) a ≡ bits_lost a.task.kind (bits s a)
lost_itself s a = by (not (is_reduce a.task.kind) && has s.recorded a)
  where
    by : (c : Bool) → bits (cond c (record s { lost = a ∷ s.lost }) s) a ≡ cond c (record (bits s a) { lost = true }) (bits s a)
    by true = let p = same-itself a in λ i. record { arrived = has s.arrived a; accepted = has s.accepted a; over = is_over s.ended a; failed = has_failed s.ended a; recorded = has s.recorded a; lost = p i || has s.lost a }
    by false = refl

lost_other : (s : Seen) (b a : Attempt) → same_attempt a b ≡ false → bits (after_loss s b) a ≡ bits s a
lost_other s b a e = by (not (is_reduce b.task.kind) && has s.recorded b)
  where
    by : (c : Bool) → bits (cond c (record s { lost = b ∷ s.lost }) s) a ≡ bits s a
    by true = λ i. record { arrived = has s.arrived a; accepted = has s.accepted a; over = is_over s.ended a; failed = has_failed s.ended a; recorded = has s.recorded a; lost = e i || has s.lost a }
    by false = refl

-- ---- whoever may be accepted is not over

waiting : (xs : List Attempt) (es : List Ending) (a : Attempt) → is_first (filter (λ x. not (is_over es x)) xs) a ≡ true → is_over es a ≡ false
waiting [] es a e = absurd (true≢false (sym e))
waiting (x ∷ xs) es a e = by (is_over es x) refl e (waiting xs es a)
  where
    by : (b : Bool) → is_over es x ≡ b → is_first (cond (not b) (x ∷ filter (λ y. not (is_over es y)) xs) (filter (λ y. not (is_over es y)) xs)) a ≡ true
        → (is_first (filter (λ y. not (is_over es y)) xs) a ≡ true → is_over es a ≡ false) → is_over es a ≡ false
    by true h e rest = rest e
    by false h e rest = ap (λ y. is_over es y) (sym (same-is x a e)) ∙ h

pub may-not-over : (kind : TaskKind) (s : Seen) (a : Attempt) → may_accept_of kind s a ≡ true → is_over s.ended a ≡ false
may-not-over Reduce s a e = waiting s.asked s.ended a e
may-not-over Map s a e = is_false (is_over s.ended a) (left (not (is_over s.ended a)) (not (is_won s)) e)

-- ---- each call

abbrev Here : TaskId → ℕ → List TaskCall → Attempt → Type 0
Here t k h a = Fits (state_of t k h a) (bits (seen t k h) a)

of_launch : (t : TaskId) (k : ℕ) (h : List TaskCall) (a : Attempt) → Here t k h a → (c : Bool) → is_none (launch_refusal (seen t k h)) ≡ c
    → Fits (table.state_after a.task.kind (only (c && same_attempt a (next_attempt t k (seen t k h))) (event.Launch ∷ []) ++ events_of t k h a)) (bits (cond c (after_launch t k (seen t k h)) (seen t k h)) a)
unfolding state_of
of_launch t k h a f false e = f
of_launch t k h a f true e = by (same_attempt a (next_attempt t k (seen t k h))) refl
  where
    new_here : a ≡ (next_attempt t k (seen t k h)) → has (seen t k h).arrived a ≡ false
    new_here q = ap (λ x. has (seen t k h).arrived x) q ∙ fresh t k (seen t k h) (arrivals t k h) e

    by : (m : Bool) → same_attempt a (next_attempt t k (seen t k h)) ≡ m → Fits (table.state_after a.task.kind (only m (event.Launch ∷ []) ++ events_of t k h a)) (bits (after_launch t k (seen t k h)) a)
    by true q =
        let new = new_here (same-is a (next_attempt t k (seen t k h)) q) in
        let st = unknown-new _ _ f new in
        let b = unknown-is _ _ f new in
        let there : has ((seen t k h).arrived ++ (next_attempt t k (seen t k h)) ∷ []) a ≡ true = has-append (seen t k h).arrived (next_attempt t k (seen t k h)) a ∙ (λ i. new i || q i) in
        record {
          l = false;
          is = (λ i. record { arrived = there i; accepted = (b i).accepted; over = (b i).over; failed = (b i).failed; recorded = (b i).recorded; lost = (b i).lost })
              ∙ ap (λ x. bits_of (table.after a.task.kind x event.Launch) false) (sym st);
        }
    by false q =
        let same : has ((seen t k h).arrived ++ (next_attempt t k (seen t k h)) ∷ []) a ≡ has (seen t k h).arrived a = has-append (seen t k h).arrived (next_attempt t k (seen t k h)) a ∙ ap (λ x. has (seen t k h).arrived a || x) q ∙ no_more (has (seen t k h).arrived a) in
        let P : Bool → Type 0 = λ x. Fits (state_of t k h a) (record (bits (seen t k h) a) { arrived = x }) in subst P (sym same) f
      where
        no_more : (x : Bool) → (x || false) ≡ x
        no_more true = refl
        no_more false = refl

of_done : (t : TaskId) (k : ℕ) (h : List TaskCall) (b a : Attempt) → Here t k h a
    → Fits (table.state_after a.task.kind (only (same_attempt a b && may_accept (seen t k h) b) (event.Done ∷ []) ++ events_of t k h a)) (bits (after_done (seen t k h) b) a)
unfolding state_of
of_done t k h b a f = by (same_attempt a b) refl
  where
    itself : (c : Attempt) → a ≡ c → Fits (moved a.task.kind event.Done (may_accept (seen t k h) c) (state_of t k h a)) (bits (after_done (seen t k h) c) a)
    itself c q =
        let done = done-fits a.task.kind (may_accept_of a.task.kind (seen t k h) a) (state_of t k h a) (bits (seen t k h) a) f (may-not-over a.task.kind (seen t k h) a) in
        let P : Bits → Type 0 = λ x. Fits (moved a.task.kind event.Done (may_accept (seen t k h) a) (state_of t k h a)) x in
        let Q : Attempt → Type 0 = λ x. Fits (moved a.task.kind event.Done (may_accept (seen t k h) x) (state_of t k h a)) (bits (after_done (seen t k h) x) a) in
        subst Q q (subst P (sym (done_itself (seen t k h) a)) done)

    by : (m : Bool) → same_attempt a b ≡ m → Fits (table.state_after a.task.kind (only (m && may_accept (seen t k h) b) (event.Done ∷ []) ++ events_of t k h a)) (bits (after_done (seen t k h) b) a)
    by true q = let P : AttemptState → Type 0 = λ x. Fits x (bits (after_done (seen t k h) b) a) in subst P (sym (one a.task.kind (may_accept (seen t k h) b) event.Done (events_of t k h a))) (itself b (same-is a b q))
    by false q = let P : Bits → Type 0 = λ x. Fits (state_of t k h a) x in subst P (sym (done_other (seen t k h) b a q)) f

of_recovery : (t : TaskId) (k : ℕ) (h : List TaskCall) (b a : Attempt) → Here t k h a → (c : Bool) → may_recover t (seen t k h) b ≡ c
    → Fits (table.state_after a.task.kind (only (same_attempt a b && c) (event.Recorded ∷ event.Done ∷ event.Launch ∷ []) ++ events_of t k h a))
    (bits (cond c (record (seen t k h) { arrived = b ∷ []; accepted = b ∷ []; recorded = b ∷ []; numbered = numbered_up_to k b }) (seen t k h)) a)
unfolding state_of
of_recovery t k h b a f false e = let P : Bool → Type 0 = λ x. Fits (table.state_after a.task.kind (only x (event.Recorded ∷ event.Done ∷ event.Launch ∷ []) ++ events_of t k h a)) (bits (seen t k h) a) in subst P (sym (none (same_attempt a b))) f
  where
    none : (x : Bool) → (x && false) ≡ false
    none true = refl
    none false = refl
of_recovery t k h b a f true e = by (same_attempt a b) refl
  where
    new : has (seen t k h).arrived a ≡ false
    new = ap (λ xs. has xs a) (nothing-arrived (seen t k h).arrived (left (is_none (first_of (seen t k h).arrived)) (same_task b.task t) e))

    st : state_of t k h a ≡ New
    st = unknown-new _ _ f new

    bs : bits (seen t k h) a ≡ bits_of New false
    bs = unknown-is _ _ f new

    by : (m : Bool) → same_attempt a b ≡ m → Fits (table.state_after a.task.kind (only (m && true) (event.Recorded ∷ event.Done ∷ event.Launch ∷ []) ++ events_of t k h a))
        (bits (record (seen t k h) { arrived = b ∷ []; accepted = b ∷ []; recorded = b ∷ []; numbered = numbered_up_to k b }) a)
    by true q = record {
      l = false;
      is = (λ i. record { arrived = q i || false; accepted = q i || false; over = (bs i).over; failed = (bs i).failed; recorded = q i || false; lost = (bs i).lost })
          ∙ ap (λ x. bits_of (table.after a.task.kind (table.after a.task.kind (table.after a.task.kind x event.Launch) event.Done) event.Recorded) false) (sym st);
    }
    by false q = record {
      l = false;
      is = (λ i. record { arrived = q i || false; accepted = q i || false; over = (bs i).over; failed = (bs i).failed; recorded = q i || false; lost = (bs i).lost })
          ∙ ap (λ x. bits_of x false) (sym st);
    }

pub fits : (t : TaskId) (k : ℕ) (h : List TaskCall) (a : Attempt) → Here t k h a
unfolding seen next_seen state_of events_of events_by
fits t k [] a = record { l = false; is = refl }
fits t k (Launches ∷ h) a = of_launch t k h a (fits t k h a) (is_none (launch_refusal (seen t k h))) refl
fits t k (Hears b ∷ h) a =
    let f = fits t k h a in
    said a.task.kind event.Heard (seen t k h) (seen t k h) (state_of t k h a) _ a b (one a.task.kind (same_attempt a b) event.Heard (events_of t k h a)) f (λ _. refl) (λ _. hear-fits a.task.kind _ _ f)
fits t k (Asks b ∷ h) a =
    let f = fits t k h a in
    said a.task.kind event.Pending (seen t k h) (after_ask (seen t k h) b) (state_of t k h a) _ a b (one a.task.kind (same_attempt a b) event.Pending (events_of t k h a)) f
    (λ _. asked_bits (seen t k h) b a)
    (λ _. let P : Bits → Type 0 = λ x. Fits (table.after a.task.kind (state_of t k h a) event.Pending) x in subst P (sym (asked_bits (seen t k h) b a)) (ask-fits a.task.kind _ _ f))
fits t k (Reports b ∷ h) a = of_done t k h b a (fits t k h a)
fits t k (Fails b ∷ h) a =
    let f = fits t k h a in let s = seen t k h in
    said a.task.kind event.Fail s (after_end s b true) (state_of t k h a) _ a b (one a.task.kind (same_attempt a b) event.Fail (events_of t k h a)) f
    (λ e. ended_other s b a true e)
    (λ q. let P : Attempt → Type 0 = λ x. Fits (table.after a.task.kind (state_of t k h a) event.Fail) (bits (after_end s x true) a) in
    let Q : Bits → Type 0 = λ x. Fits (table.after a.task.kind (state_of t k h a) event.Fail) x in
    subst P q (subst Q (sym (ended_itself s a true)) (fail-fits a.task.kind _ _ f)))
fits t k (Ends b true ∷ h) a =
    let f = fits t k h a in let s = seen t k h in
    said a.task.kind event.Kill s (after_end s b false) (state_of t k h a) _ a b (one a.task.kind (same_attempt a b) event.Kill (events_of t k h a)) f
    (λ e. ended_other s b a false e)
    (λ q. let P : Attempt → Type 0 = λ x. Fits (table.after a.task.kind (state_of t k h a) event.Kill) (bits (after_end s x false) a) in
    let Q : Bits → Type 0 = λ x. Fits (table.after a.task.kind (state_of t k h a) event.Kill) x in
    subst P q (subst Q (sym (ended_itself s a false)) (kill-fits a.task.kind _ _ f)))
fits t k (Ends b false ∷ h) a =
    let f = fits t k h a in let s = seen t k h in
    said a.task.kind event.Fail s (after_end s b true) (state_of t k h a) _ a b (one a.task.kind (same_attempt a b) event.Fail (events_of t k h a)) f
    (λ e. ended_other s b a true e)
    (λ q. let P : Attempt → Type 0 = λ x. Fits (table.after a.task.kind (state_of t k h a) event.Fail) (bits (after_end s x true) a) in
    let Q : Bits → Type 0 = λ x. Fits (table.after a.task.kind (state_of t k h a) event.Fail) x in
    subst P q (subst Q (sym (ended_itself s a true)) (fail-fits a.task.kind _ _ f)))
fits t k (Dies b ∷ h) a =
    let f = fits t k h a in let s = seen t k h in
    said a.task.kind event.Kill s (after_end s b false) (state_of t k h a) _ a b (one a.task.kind (same_attempt a b) event.Kill (events_of t k h a)) f
    (λ e. ended_other s b a false e)
    (λ q. let P : Attempt → Type 0 = λ x. Fits (table.after a.task.kind (state_of t k h a) event.Kill) (bits (after_end s x false) a) in
    let Q : Bits → Type 0 = λ x. Fits (table.after a.task.kind (state_of t k h a) event.Kill) x in
    subst P q (subst Q (sym (ended_itself s a false)) (kill-fits a.task.kind _ _ f)))
fits t k (Records b ∷ h) a =
    let f = fits t k h a in let s = seen t k h in
    said a.task.kind event.Recorded s (after_record s b) (state_of t k h a) _ a b (one a.task.kind (same_attempt a b) event.Recorded (events_of t k h a)) f
    (λ e. recorded_other s b a e)
    (λ q. let P : Attempt → Type 0 = λ x. Fits (table.after a.task.kind (state_of t k h a) event.Recorded) (bits (after_record s x) a) in
    let Q : Bits → Type 0 = λ x. Fits (table.after a.task.kind (state_of t k h a) event.Recorded) x in
    subst P q (subst Q (sym (recorded_itself s a)) (record-fits a.task.kind _ _ f)))
fits t k (Recovers b ∷ h) a = of_recovery t k h b a (fits t k h a) (may_recover t (seen t k h) b) refl
fits t k (Loses b ∷ h) a =
    let f = fits t k h a in let s = seen t k h in
    said a.task.kind event.Lost s (after_loss s b) (state_of t k h a) _ a b (one a.task.kind (same_attempt a b) event.Lost (events_of t k h a)) f
    (λ e. lost_other s b a e)
    (λ q. let P : Attempt → Type 0 = λ x. Fits (table.after a.task.kind (state_of t k h a) event.Lost) (bits (after_loss s x) a) in
    let Q : Bits → Type 0 = λ x. Fits (table.after a.task.kind (state_of t k h a) event.Lost) x in
    subst P q (subst Q (sym (lost_itself s a)) (lose-fits a.task.kind _ _ f)))
