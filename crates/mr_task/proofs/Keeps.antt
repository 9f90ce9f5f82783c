-- A machine that stands for some calls stands for them and one more after its step, and answers what is read off them.
use Rattle.std.proofs.Common.{◌≡◌, ℕ, Bool, true, false, ◌&&◌, not, cond, List, ◌∷◌, Option, Some, None, is_some, Ok, Err, refl, sym, ap, ◌∙◌, true≢false, subst}
use Rattle.mr_ids.specs.Attempt.{Attempt}
use Rattle.mr_ids.specs.declared.id.TaskId.{TaskId}
use Rattle.mr_ids.specs.declared.id.TaskKind.{TaskKind}
use Rattle.mr_attempt.specs.declared.state.AttemptState.{AttemptState}
use Rattle.mr_attempt.specs.declared.state.AttemptState.TheVariants.{New, Assigned, Running, CommitPending, Recording, Succeeded, Failed, Killed}
use Rattle.mr_attempt.specs.declared.state.AttemptEvent.{AttemptEvent}
use Rattle.mr_attempt.specs.declared.state.AttemptEvent.TheVariants as event
use Rattle.mr_attempt.specs.Table as table
use Rattle.mr_grant.specs.Attempts.{same_attempt, has, first_of, without}
use Rattle.mr_grant.specs.Grant.{after_release}
use Rattle.mr_grant.proofs.Same.{same-is, same-itself}
use Rattle.mr_task.specs.declared.attempts.Entry.{Entry}
use Rattle.mr_task.specs.declared.fault.TaskFault.TheVariants.{Unknown}
use Rattle.mr_task.specs.Calls.{TaskCall, Hears, Fails, Ends, Dies, Records, Loses}
use Rattle.mr_task.specs.Readings.{Seen, seen, next_seen, is_over, is_reduce, is_live, after_end, waiting_in, named, named_in, events_by, events_of, state_of}
use Rattle.mr_task.specs.State.{StandsForSome, Stands, StandsFor, entry_of, kept, known}
use Rattle.mr_task.specs.Steps.{Task, entry_in, with_entry, if_there, entry_after, with_event, noted, with_end, ended}
use Rattle.mr_task.proofs.Lists.{kept-same, entry_in-kept, with_entry-kept}
use Rattle.mr_task.proofs.Bits.{bits, moved, live-is}
use Rattle.mr_task.proofs.Arrivals.{arrivals}
use Rattle.mr_task.proofs.States.{one, fits}
use Rattle.mr_task.proofs.Names.{good, ends-without, ends-first, live-apart}

-- ---- what is stored, of explicit readings

pub record Parts (m : Task) (t : TaskId) (k : ℕ) (f : Attempt → Entry) (s : Seen) : Type 0 where
  pub task : m.task ≡ t
  pub app : m.app ≡ k
  pub attempts : m.attempts ≡ kept f s.arrived
  pub askers : s.is_fixed ≡ false → m.grant.attempts ≡ waiting_in s.asked s.ended
  pub first : first_of m.grant.attempts ≡ named s
  pub fixed : m.grant.is_fixed ≡ s.is_fixed
  pub numbered : m.numbered ≡ s.numbered

pub to_stands : (m : Task) (t : TaskId) (k : ℕ) (h : List TaskCall) → Parts m t k (entry_of t k h) (seen t k h) → StandsFor m t k h
to_stands m t k h p = record { task = p.task; app = p.app; attempts = p.attempts; askers = p.askers; first = p.first; fixed = p.fixed; numbered = p.numbered }

-- ---- one attempt

-- whatever a machine stands for, it stands for some calls
pub some-calls : (m : Task) (t : TaskId) (k : ℕ) (h : List TaskCall) → StandsFor m t k h → StandsForSome m
some-calls m t k h st =
    let P : TaskId → Type 0 = λ x. StandsFor m x m.app h in
    let Q : ℕ → Type 0 = λ x. StandsFor m t x h in
    (h, subst P (sym st.task) (subst Q (sym st.app) st))

-- so it does after a call
pub some-after : (m : Task) → StandsForSome m → (call : TaskCall) (new : Task) → Stands m call new → StandsForSome new
some-after m s call new stands = some-calls new m.task m.app (call ∷ s.0) (stands m.task m.app s.0 s.1)

pub entry-is : (m : Task) (t : TaskId) (k : ℕ) (h : List TaskCall) (a : Attempt) → StandsFor m t k h → entry_in m.attempts a ≡ cond (has (seen t k h).arrived a) (Some (entry_of t k h a)) None
entry-is m t k h a st = ap (λ (es : List (Attempt × Entry)). entry_in es a) st.attempts ∙ entry_in-kept (entry_of t k h) (seen t k h).arrived a

pub known-is : (m : Task) (t : TaskId) (k : ℕ) (h : List TaskCall) (a : Attempt) → StandsFor m t k h → if_there (entry_in m.attempts a) ≡ known a t k h
known-is m t k h a st = ap if_there (entry-is m t k h a st) ∙ by (has (seen t k h).arrived a)
  where
    by : (b : Bool) → if_there (cond b (Some (entry_of t k h a)) None) ≡ cond b (Ok tt) (Err Unknown)
    by true = refl
    by false = refl

-- the entry of a is replaced, those of others are as before
pub replaced : (m : Task) (t : TaskId) (k : ℕ) (h : List TaskCall) (a : Attempt) → StandsFor m t k h → (f : Attempt → Entry) (e : Entry) → has (seen t k h).arrived a ≡ true
    → e ≡ f a → ((x : Attempt) → same_attempt x a ≡ false → f x ≡ entry_of t k h x) → with_entry m.attempts a e ≡ kept f (seen t k h).arrived
replaced m t k h a st f e there is others =
    (λ i. with_entry (st.attempts i) a (is i))
    ∙ with_entry-kept (entry_of t k h) f (seen t k h).arrived a (arrivals t k h).distinct there others

-- a never arrived
pub missing : (m : Task) (t : TaskId) (k : ℕ) (h : List TaskCall) (a : Attempt) → StandsFor m t k h → (f : Attempt → Entry) → has (seen t k h).arrived a ≡ false
    → ((x : Attempt) → same_attempt x a ≡ false → f x ≡ entry_of t k h x) → m.attempts ≡ kept f (seen t k h).arrived
missing m t k h a st f absent others = st.attempts ∙ kept-same (entry_of t k h) f (seen t k h).arrived (λ x there. sym (others x (apart x there (same_attempt x a) refl)))
  where
    apart : (x : Attempt) → has (seen t k h).arrived x ≡ true → (b : Bool) → same_attempt x a ≡ b → b ≡ false
    apart x there false e = refl
    apart x there true e = absurd (true≢false (sym there ∙ ap (λ y. has (seen t k h).arrived y) (same-is x a e) ∙ absent))

-- ---- an event alone

pub record Frame (r s : Seen) : Type 0 where
  pub arrived : r.arrived ≡ s.arrived
  pub asked : r.asked ≡ s.asked
  pub ended : r.ended ≡ s.ended
  pub accepted : r.accepted ≡ s.accepted
  pub is_fixed : r.is_fixed ≡ s.is_fixed
  pub numbered : r.numbered ≡ s.numbered

abbrev pub same_frame : (s : Seen) → Frame s s
same_frame s = record { arrived = refl; asked = refl; ended = refl; accepted = refl; is_fixed = refl; numbered = refl }

frame : (c : Bool) (r s : Seen) → Frame r s → Frame (cond c r s) s
frame true r s f = f
frame false r s f = same_frame s

-- the same readings, other attempts
pub carried : (m : Task) (t : TaskId) (k : ℕ) (h : List TaskCall) → StandsFor m t k h → (f : Attempt → Entry) (r : Seen) → Frame r (seen t k h) → (xs : List (Attempt × Entry))
    → xs ≡ kept f (seen t k h).arrived → Parts (record m { attempts = xs }) t k f r
carried m t k h st f r fr xs is = record {
  task = st.task;
  app = st.app;
  attempts = is ∙ ap (λ (l : List Attempt). kept f l) (sym fr.arrived);
  askers = λ e. st.askers (sym fr.is_fixed ∙ e) ∙ (λ i. waiting_in (sym fr.asked i) (sym fr.ended i));
  first = st.first ∙ (λ i. named_in (sym fr.asked i) (sym fr.ended i));
  fixed = st.fixed ∙ sym fr.is_fixed;
  numbered = st.numbered ∙ sym fr.numbered;
}

-- what a call of a makes of the entries
pub record Takes (t : TaskId) (k : ℕ) (h : List TaskCall) (a : Attempt) (ev : AttemptEvent) (f : Attempt → Entry) : Type 0 where
  pub here : entry_after (entry_of t k h a) ev ≡ f a
  pub others : (x : Attempt) → same_attempt x a ≡ false → f x ≡ entry_of t k h x

note_parts : (m : Task) (t : TaskId) (k : ℕ) (h : List TaskCall) (a : Attempt) (ev : AttemptEvent) → StandsFor m t k h → (f : Attempt → Entry) (r : Seen) → Frame r (seen t k h)
    → Takes t k h a ev f → Parts (noted m a ev) t k f r
note_parts m t k h a ev st f r fr takes = let P : Option Entry → Type 0 = λ o. Parts (with_event m a ev o) t k f r in subst P (sym (entry-is m t k h a st)) (by (has (seen t k h).arrived a) refl)
  where
    by : (b : Bool) → has (seen t k h).arrived a ≡ b → Parts (with_event m a ev (cond b (Some (entry_of t k h a)) None)) t k f r
    by true e = carried m t k h st f r fr (with_entry m.attempts a (entry_after (entry_of t k h a) ev)) (replaced m t k h a st f (entry_after (entry_of t k h a) ev) e takes.here takes.others)
    by false e = carried m t k h st f r fr m.attempts (missing m t k h a st f e takes.others)

-- states after a call of a by which it gets an event
pub takes_of : (t : TaskId) (k : ℕ) (h : List TaskCall) (c : TaskCall) (a : Attempt) (ev : AttemptEvent)
    → ((x : Attempt) → state_of t k (c ∷ h) x ≡ moved x.task.kind ev (same_attempt x a) (state_of t k h x))
    → (seen t k (c ∷ h)).accepted ≡ (seen t k h).accepted → Takes t k h a ev (entry_of t k (c ∷ h))
takes_of t k h c a ev states accepted = record {
  here = let st = states a ∙ ap (λ b. moved a.task.kind ev b (state_of t k h a)) (same-itself a) in
      λ i. record { machine = record { attempt = a; state = sym st i }; accepted = has (sym accepted i) a };
  others = λ x e. let st = states x ∙ ap (λ b. moved x.task.kind ev b (state_of t k h x)) e in
      λ i. record { machine = record { attempt = x; state = st i }; accepted = has (accepted i) x };
}

pub heard-keeps : (m : Task) (t : TaskId) (k : ℕ) (h : List TaskCall) (a : Attempt) → StandsFor m t k h → StandsFor (noted m a event.Heard) t k (Hears a ∷ h)
unfolding seen next_seen state_of events_of events_by
heard-keeps m t k h a st =
    to_stands (noted m a event.Heard) t k (Hears a ∷ h) (note_parts m t k h a event.Heard st (entry_of t k (Hears a ∷ h)) (seen t k h) (same_frame (seen t k h))
    (takes_of t k h (Hears a) a event.Heard (λ x. one x.task.kind (same_attempt x a) event.Heard (events_of t k h x)) refl))

pub accepted_choice : (c : Bool) (r s : Seen) → r.accepted ≡ s.accepted → (cond c r s).accepted ≡ s.accepted
accepted_choice true r s e = e
accepted_choice false r s e = refl

pub recorded-keeps : (m : Task) (t : TaskId) (k : ℕ) (h : List TaskCall) (a : Attempt) → StandsFor m t k h → StandsFor (noted m a event.Recorded) t k (Records a ∷ h)
unfolding seen next_seen state_of events_of events_by
recorded-keeps m t k h a st =
    let s = seen t k h in
    let r : Seen = record s { recorded = a ∷ s.recorded } in
    to_stands (noted m a event.Recorded) t k (Records a ∷ h) (note_parts m t k h a event.Recorded st (entry_of t k (Records a ∷ h)) (cond (has s.accepted a) r s)
    (frame (has s.accepted a) r s (record { arrived = refl; asked = refl; ended = refl; accepted = refl; is_fixed = refl; numbered = refl }))
    (takes_of t k h (Records a) a event.Recorded (λ x. one x.task.kind (same_attempt x a) event.Recorded (events_of t k h x)) (accepted_choice (has s.accepted a) r s refl)))

pub lost-keeps : (m : Task) (t : TaskId) (k : ℕ) (h : List TaskCall) (a : Attempt) → StandsFor m t k h → StandsFor (noted m a event.Lost) t k (Loses a ∷ h)
unfolding seen next_seen state_of events_of events_by
lost-keeps m t k h a st =
    let s = seen t k h in
    let r : Seen = record s { lost = a ∷ s.lost } in
    let c = not (is_reduce a.task.kind) && has s.recorded a in
    to_stands (noted m a event.Lost) t k (Loses a ∷ h) (note_parts m t k h a event.Lost st (entry_of t k (Loses a ∷ h)) (cond c r s)
    (frame c r s (record { arrived = refl; asked = refl; ended = refl; accepted = refl; is_fixed = refl; numbered = refl }))
    (takes_of t k h (Loses a) a event.Lost (λ x. one x.task.kind (same_attempt x a) event.Lost (events_of t k h x)) (accepted_choice c r s refl)))

-- ---- an end

abbrev with_ending : Seen → Attempt → Bool → Seen
with_ending s a f = record s { ended = record { attempt = a; is_failure = f } ∷ s.ended }

released : (m : Task) (t : TaskId) (k : ℕ) (h : List TaskCall) (a : Attempt) (fl : Bool) → StandsFor m t k h → is_live (seen t k h) a ≡ true → (f : Attempt → Entry) (xs : List (Attempt × Entry))
    → xs ≡ kept f (seen t k h).arrived → Parts (record m { attempts = xs; grant = after_release m.grant a }) t k f (with_ending (seen t k h) a fl)
released m t k h a fl st live f xs is = by m.grant.is_fixed refl
  where
    by : (b : Bool) → m.grant.is_fixed ≡ b
        → Parts (record m { attempts = xs; grant = cond b m.grant (record { attempts = without m.grant.attempts a; is_fixed = false }) }) t k f (with_ending (seen t k h) a fl)
    by true e =
        let held = good t k h (sym st.fixed ∙ e) in
        record {
          task = st.task;
          app = st.app;
          attempts = is;
          askers = λ free. absurd (true≢false (sym e ∙ st.fixed ∙ free));
          first = st.first ∙ held.named ∙ sym (ends-first (seen t k h).asked (seen t k h).ended a held.holder fl held.named (live-apart (seen t k h) a held.holder live held.accepted));
          fixed = st.fixed;
          numbered = st.numbered;
        }
    by false e =
        let without_it : without m.grant.attempts a ≡ waiting_in (seen t k h).asked (record { attempt = a; is_failure = fl } ∷ (seen t k h).ended) =
        ap (λ (l : List Attempt). without l a) (st.askers (sym st.fixed ∙ e)) ∙ sym (ends-without (seen t k h).asked (seen t k h).ended a fl) in
        record {
          task = st.task;
          app = st.app;
          attempts = is;
          askers = λ free. without_it;
          first = ap (λ (l : List Attempt). first_of l) without_it;
          fixed = sym e ∙ st.fixed;
          numbered = st.numbered;
        }

end_parts : (m : Task) (t : TaskId) (k : ℕ) (h : List TaskCall) (a : Attempt) (ev : AttemptEvent) (fl : Bool) → StandsFor m t k h → (f : Attempt → Entry)
    → is_some (table.next a.task.kind (state_of t k h a) ev) ≡ is_live (seen t k h) a
    → Takes t k h a ev f → Parts (ended m a ev) t k f (after_end (seen t k h) a fl)
end_parts m t k h a ev fl st f moves takes =
    let P : Option Entry → Type 0 = λ o. Parts (with_end m a ev o) t k f (after_end (seen t k h) a fl) in
    subst P (sym (entry-is m t k h a st)) (by (has (seen t k h).arrived a) refl)
  where
    moved_by : (l : Bool) → is_live (seen t k h) a ≡ l → has (seen t k h).arrived a ≡ true
        → Parts (record m { attempts = with_entry m.attempts a (entry_after (entry_of t k h a) ev); grant = cond l (after_release m.grant a) m.grant }) t k f (cond l (with_ending (seen t k h) a fl) (seen t k h))
    moved_by true l e = released m t k h a fl st l f (with_entry m.attempts a (entry_after (entry_of t k h a) ev)) (replaced m t k h a st f (entry_after (entry_of t k h a) ev) e takes.here takes.others)
    moved_by false l e = carried m t k h st f (seen t k h) (same_frame (seen t k h)) (with_entry m.attempts a (entry_after (entry_of t k h a) ev)) (replaced m t k h a st f (entry_after (entry_of t k h a) ev) e takes.here takes.others)

    by : (b : Bool) → has (seen t k h).arrived a ≡ b → Parts (with_end m a ev (cond b (Some (entry_of t k h a)) None)) t k f (after_end (seen t k h) a fl)
    by true e =
        let P : Bool → Type 0 = λ x. Parts (record m { attempts = with_entry m.attempts a (entry_after (entry_of t k h a) ev); grant = cond x (after_release m.grant a) m.grant }) t k f (after_end (seen t k h) a fl) in
        subst P (sym moves) (moved_by (is_live (seen t k h) a) refl e)
    by false e =
        let dead : is_live (seen t k h) a ≡ false = ap (λ b. b && (not (has (seen t k h).accepted a) && not (is_over (seen t k h).ended a))) e in
        let P : Bool → Type 0 = λ x. Parts m t k f (cond x (with_ending (seen t k h) a fl) (seen t k h)) in
        subst P (sym dead) (carried m t k h st f (seen t k h) (same_frame (seen t k h)) m.attempts (missing m t k h a st f e takes.others))

-- which states end
fail_moves : (kind : TaskKind) (st : AttemptState) → is_some (table.next kind st event.Fail) ≡ table.is_live st
fail_moves kind New = refl
fail_moves kind Assigned = refl
fail_moves kind Running = refl
fail_moves kind CommitPending = refl
fail_moves kind Recording = refl
fail_moves kind Succeeded = refl
fail_moves kind Failed = refl
fail_moves kind Killed = refl

kill_moves : (kind : TaskKind) (st : AttemptState) → is_some (table.next kind st event.Kill) ≡ table.is_live st
kill_moves kind New = refl
kill_moves kind Assigned = refl
kill_moves kind Running = refl
kill_moves kind CommitPending = refl
kill_moves kind Recording = refl
kill_moves kind Succeeded = refl
kill_moves kind Failed = refl
kill_moves kind Killed = refl

pub failed-keeps : (m : Task) (t : TaskId) (k : ℕ) (h : List TaskCall) (a : Attempt) → StandsFor m t k h → StandsFor (ended m a event.Fail) t k (Fails a ∷ h)
unfolding seen next_seen state_of events_of events_by
failed-keeps m t k h a st =
    let s = seen t k h in
    to_stands (ended m a event.Fail) t k (Fails a ∷ h) (end_parts m t k h a event.Fail true st (entry_of t k (Fails a ∷ h))
    (fail_moves a.task.kind (state_of t k h a) ∙ sym (live-is (state_of t k h a) (bits s a) (fits t k h a)))
    (takes_of t k h (Fails a) a event.Fail (λ x. one x.task.kind (same_attempt x a) event.Fail (events_of t k h x)) (accepted_choice (is_live s a) (with_ending s a true) s refl)))

pub ended-keeps : (m : Task) (t : TaskId) (k : ℕ) (h : List TaskCall) (a : Attempt) → StandsFor m t k h → StandsFor (ended m a event.Fail) t k (Ends a false ∷ h)
unfolding seen next_seen state_of events_of events_by
ended-keeps m t k h a st =
    let s = seen t k h in
    to_stands (ended m a event.Fail) t k (Ends a false ∷ h) (end_parts m t k h a event.Fail true st (entry_of t k (Ends a false ∷ h))
    (fail_moves a.task.kind (state_of t k h a) ∙ sym (live-is (state_of t k h a) (bits s a) (fits t k h a)))
    (takes_of t k h (Ends a false) a event.Fail (λ x. one x.task.kind (same_attempt x a) event.Fail (events_of t k h x)) (accepted_choice (is_live s a) (with_ending s a true) s refl)))

pub stopped-keeps : (m : Task) (t : TaskId) (k : ℕ) (h : List TaskCall) (a : Attempt) → StandsFor m t k h → StandsFor (ended m a event.Kill) t k (Ends a true ∷ h)
unfolding seen next_seen state_of events_of events_by
stopped-keeps m t k h a st =
    let s = seen t k h in
    to_stands (ended m a event.Kill) t k (Ends a true ∷ h) (end_parts m t k h a event.Kill false st (entry_of t k (Ends a true ∷ h))
    (kill_moves a.task.kind (state_of t k h a) ∙ sym (live-is (state_of t k h a) (bits s a) (fits t k h a)))
    (takes_of t k h (Ends a true) a event.Kill (λ x. one x.task.kind (same_attempt x a) event.Kill (events_of t k h x)) (accepted_choice (is_live s a) (with_ending s a false) s refl)))

pub killed-keeps : (m : Task) (t : TaskId) (k : ℕ) (h : List TaskCall) (a : Attempt) → StandsFor m t k h → StandsFor (ended m a event.Kill) t k (Dies a ∷ h)
unfolding seen next_seen state_of events_of events_by
killed-keeps m t k h a st =
    let s = seen t k h in
    to_stands (ended m a event.Kill) t k (Dies a ∷ h) (end_parts m t k h a event.Kill false st (entry_of t k (Dies a ∷ h))
    (kill_moves a.task.kind (state_of t k h a) ∙ sym (live-is (state_of t k h a) (bits s a) (fits t k h a)))
    (takes_of t k h (Dies a) a event.Kill (λ x. one x.task.kind (same_attempt x a) event.Kill (events_of t k h x)) (accepted_choice (is_live s a) (with_ending s a false) s refl)))
