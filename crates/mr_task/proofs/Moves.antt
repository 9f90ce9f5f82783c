-- The same of asking and of Done.
use Rattle.std.proofs.Common.{◌≡◌, ℕ, Bool, true, false, ◌&&◌, ◌||◌, not, cond, List, [], ◌∷◌, ◌++◌, Option, Some, None, Result, Ok, Err, refl, sym, ap, ◌∙◌, ◌⊎◌, inl, inr, true≢false, subst}
use Rattle.std.specs.List.{list_any}
use Rattle.mr_ids.specs.Attempt.{Attempt}
use Rattle.mr_ids.specs.declared.id.TaskId.{TaskId}
use Rattle.mr_ids.specs.declared.id.TaskKind.{TaskKind}
use Rattle.mr_ids.specs.declared.id.TaskKind.TheVariants.{Map, Reduce}
use Rattle.mr_attempt.specs.declared.state.AttemptEvent.TheVariants as event
use Rattle.mr_attempt.specs.Table as table
use Rattle.mr_grant.specs.Attempts.{same_attempt, has, first_of, is_first, with_last}
use Rattle.mr_grant.specs.Grant.{after_pending}
use Rattle.mr_grant.proofs.Same.{same-itself}
use Rattle.mr_task.specs.declared.attempts.Entry.{Entry}
use Rattle.mr_task.specs.declared.fault.TaskFault.{TaskFault}
use Rattle.mr_task.specs.declared.fault.TaskFault.TheVariants.{Unknown}
use Rattle.mr_task.specs.declared.reply.DoneReply.{DoneReply}
use Rattle.mr_task.specs.declared.reply.DoneReply.TheVariants as reply
use Rattle.mr_task.specs.Calls.{TaskCall, Asks, Reports}
use Rattle.mr_task.specs.Readings.{Seen, seen, next_seen, is_over, is_reduce, is_won, stands, may_accept, may_accept_of, waiting_in, named, named_in, events_by, events_of, state_of}
use Rattle.mr_task.specs.State.{StandsFor, StandsForSome, entry_of, kept, done_answer, reply_or}
use Rattle.mr_task.specs.Steps as step
use Rattle.mr_task.specs.Steps.{Task, entry_in, with_entry, if_there, entry_after, with_event, noted, with_end, ended, with_asker, asked, accepted_entry, with_done, done, any_won, is_failed}
use Rattle.mr_task.proofs.Lists.{kept-same, any-same, first-is}
use Rattle.mr_task.proofs.Bits.{bits, moved, won-is, over-is}
use Rattle.mr_task.proofs.States.{one, fits}
use Rattle.mr_task.proofs.Keeps.{Parts, to_stands, entry-is, replaced, missing, carried, Takes, takes_of, same_frame, accepted_choice}
use Rattle.mr_task.proofs.Names.{good, asks-over, asks-last, has-waiting, first-append, first-with-last}

-- ---- asking

abbrev with_asking : Seen → Attempt → Seen
with_asking s a = record s { asked = s.asked ++ a ∷ [] }

overness : (t : TaskId) (k : ℕ) (h : List TaskCall) (a : Attempt) → step.is_over (entry_of t k h a) ≡ is_over (seen t k h).ended a
overness t k h a = sym (over-is (state_of t k h a) (bits (seen t k h) a) (fits t k h a))

-- one that is not over asks
waits_more : (m : Task) (t : TaskId) (k : ℕ) (h : List TaskCall) (a : Attempt) → StandsFor m t k h → (f : Attempt → Entry) (xs : List (Attempt × Entry)) → xs ≡ kept f (seen t k h).arrived
    → is_over (seen t k h).ended a ≡ false → (had : Bool) → has (seen t k h).asked a ≡ had
    → Parts (record m { attempts = xs; grant = after_pending m.grant a }) t k f (cond (not had) (with_asking (seen t k h) a) (seen t k h))
waits_more m t k h a st f xs is live true e = record {
  task = st.task;
  app = st.app;
  attempts = is;
  askers = λ free. same free ∙ st.askers free;
  first = by m.grant.is_fixed refl;
  fixed = st.fixed;
  numbered = st.numbered;
}
  where
    same : (seen t k h).is_fixed ≡ false → with_last m.grant.attempts a ≡ m.grant.attempts
    same free =
        let there : has m.grant.attempts a ≡ true = ap (λ (l : List Attempt). has l a) (st.askers free) ∙ has-waiting (seen t k h).asked (seen t k h).ended a live ∙ e in
        ap (λ b. cond b m.grant.attempts (m.grant.attempts ++ a ∷ [])) there

    by : (b : Bool) → m.grant.is_fixed ≡ b → first_of (with_last m.grant.attempts a) ≡ named (seen t k h)
    by true g = let held = good t k h (sym st.fixed ∙ g) in first-with-last m.grant.attempts a held.holder (st.first ∙ held.named) ∙ sym held.named
    by false g = ap (λ (l : List Attempt). first_of l) (same (sym st.fixed ∙ g)) ∙ st.first
waits_more m t k h a st f xs is live false e = record {
  task = st.task;
  app = st.app;
  attempts = is;
  askers = same;
  first = by m.grant.is_fixed refl;
  fixed = st.fixed;
  numbered = st.numbered;
}
  where
    same : (seen t k h).is_fixed ≡ false → with_last m.grant.attempts a ≡ waiting_in ((seen t k h).asked ++ a ∷ []) (seen t k h).ended
    same free =
        let absent : has m.grant.attempts a ≡ false = ap (λ (l : List Attempt). has l a) (st.askers free) ∙ has-waiting (seen t k h).asked (seen t k h).ended a live ∙ e in
        ap (λ b. cond b m.grant.attempts (m.grant.attempts ++ a ∷ [])) absent ∙ ap (λ (l : List Attempt). l ++ a ∷ []) (st.askers free) ∙ sym (asks-last (seen t k h).asked (seen t k h).ended a live)

    by : (b : Bool) → m.grant.is_fixed ≡ b → first_of (with_last m.grant.attempts a) ≡ named_in ((seen t k h).asked ++ a ∷ []) (seen t k h).ended
    by true g =
        let held = good t k h (sym st.fixed ∙ g) in
        first-with-last m.grant.attempts a held.holder (st.first ∙ held.named)
        ∙ sym (ap (λ (l : List Attempt). first_of l) (asks-last (seen t k h).asked (seen t k h).ended a live) ∙ first-append (waiting_in (seen t k h).asked (seen t k h).ended) a held.holder held.named)
    by false g = ap (λ (l : List Attempt). first_of l) (same (sym st.fixed ∙ g))

-- one that is over asks
waits_not : (m : Task) (t : TaskId) (k : ℕ) (h : List TaskCall) (a : Attempt) → StandsFor m t k h → (f : Attempt → Entry) (xs : List (Attempt × Entry)) → xs ≡ kept f (seen t k h).arrived
    → is_over (seen t k h).ended a ≡ true → (had : Bool)
    → Parts (record m { attempts = xs }) t k f (cond (not had) (with_asking (seen t k h) a) (seen t k h))
waits_not m t k h a st f xs is over true = carried m t k h st f (seen t k h) (same_frame (seen t k h)) xs is
waits_not m t k h a st f xs is over false =
    let same = asks-over (seen t k h).asked (seen t k h).ended a over in
    record {
      task = st.task;
      app = st.app;
      attempts = is;
      askers = λ free. st.askers free ∙ sym same;
      first = st.first ∙ ap (λ (l : List Attempt). first_of l) (sym same);
      fixed = st.fixed;
      numbered = st.numbered;
    }

ask_parts : (m : Task) (t : TaskId) (k : ℕ) (h : List TaskCall) (a : Attempt) → StandsFor m t k h → (f : Attempt → Entry) → Takes t k h a event.Pending f
    → Parts (asked m a) t k f (cond (has (seen t k h).arrived a && not (has (seen t k h).asked a)) (with_asking (seen t k h) a) (seen t k h))
ask_parts m t k h a st f takes =
    let P : Option Entry → Type 0 = λ o. Parts (with_asker m a o) t k f (cond (has (seen t k h).arrived a && not (has (seen t k h).asked a)) (with_asking (seen t k h) a) (seen t k h)) in
    subst P (sym (entry-is m t k h a st)) (by (has (seen t k h).arrived a) refl)
  where
    over_or_not : (o : Bool) → is_over (seen t k h).ended a ≡ o → has (seen t k h).arrived a ≡ true
        → Parts (record m { attempts = with_entry m.attempts a (entry_after (entry_of t k h a) event.Pending); grant = cond o m.grant (after_pending m.grant a) }) t k f
        (cond (not (has (seen t k h).asked a)) (with_asking (seen t k h) a) (seen t k h))
    over_or_not true o e = waits_not m t k h a st f (with_entry m.attempts a (entry_after (entry_of t k h a) event.Pending)) (replaced m t k h a st f (entry_after (entry_of t k h a) event.Pending) e takes.here takes.others) o (has (seen t k h).asked a)
    over_or_not false o e = waits_more m t k h a st f (with_entry m.attempts a (entry_after (entry_of t k h a) event.Pending)) (replaced m t k h a st f (entry_after (entry_of t k h a) event.Pending) e takes.here takes.others) o (has (seen t k h).asked a) refl

    by : (b : Bool) → has (seen t k h).arrived a ≡ b
        → Parts (with_asker m a (cond b (Some (entry_of t k h a)) None)) t k f (cond (has (seen t k h).arrived a && not (has (seen t k h).asked a)) (with_asking (seen t k h) a) (seen t k h))
    by true e =
        let P : Bool → Type 0 = λ x. Parts (record m { attempts = with_entry m.attempts a (entry_after (entry_of t k h a) event.Pending); grant = cond x m.grant (after_pending m.grant a) }) t k f
        (cond (has (seen t k h).arrived a && not (has (seen t k h).asked a)) (with_asking (seen t k h) a) (seen t k h)) in
        let Q : Bool → Type 0 = λ x. Parts (record m { attempts = with_entry m.attempts a (entry_after (entry_of t k h a) event.Pending); grant = cond (is_over (seen t k h).ended a) m.grant (after_pending m.grant a) }) t k f
        (cond (x && not (has (seen t k h).asked a)) (with_asking (seen t k h) a) (seen t k h)) in
        subst P (sym (overness t k h a)) (subst Q (sym e) (over_or_not (is_over (seen t k h).ended a) refl e))
    by false e =
        let Q : Bool → Type 0 = λ x. Parts m t k f (cond (x && not (has (seen t k h).asked a)) (with_asking (seen t k h) a) (seen t k h)) in
        subst Q (sym e) (carried m t k h st f (seen t k h) (same_frame (seen t k h)) m.attempts (missing m t k h a st f e takes.others))

pub asked-keeps : (m : Task) (t : TaskId) (k : ℕ) (h : List TaskCall) (a : Attempt) → StandsFor m t k h → StandsFor (asked m a) t k (Asks a ∷ h)
unfolding seen next_seen state_of events_of events_by
asked-keeps m t k h a st =
    let s = seen t k h in
    to_stands (asked m a) t k (Asks a ∷ h) (ask_parts m t k h a st (entry_of t k (Asks a ∷ h))
    (takes_of t k h (Asks a) a event.Pending (λ x. one x.task.kind (same_attempt x a) event.Pending (events_of t k h x)) (accepted_choice (has s.arrived a && not (has s.asked a)) (with_asking s a) s refl)))

-- ---- what is kept of all attempts

pub any-kept : (p : Entry → Bool) (f : Attempt → Entry) (xs : List Attempt) → list_any (λ (e : Attempt × Entry). p e.1) (kept f xs) ≡ list_any (λ a. p (f a)) xs
any-kept p f [] = refl
any-kept p f (x ∷ xs) = ap (λ b. p (f x) || b) (any-kept p f xs)

pub any-won-is : (m : Task) (t : TaskId) (k : ℕ) (h : List TaskCall) → StandsFor m t k h → any_won m.attempts ≡ is_won (seen t k h)
any-won-is m t k h st =
    ap (λ (es : List (Attempt × Entry)). any_won es) st.attempts ∙ any-kept (λ e. table.is_won e.machine.state) (entry_of t k h) (seen t k h).arrived
    ∙ any-same (λ a. table.is_won (state_of t k h a)) (stands (seen t k h)) (seen t k h).arrived (λ a. sym (won-is (state_of t k h a) (bits (seen t k h) a) (fits t k h a)))

-- ---- Done

abbrev with_acceptance : Seen → Attempt → Seen
with_acceptance s a = record s { accepted = a ∷ s.accepted; is_fixed = is_reduce a.task.kind || s.is_fixed }

record Settles (m : Task) (t : TaskId) (k : ℕ) (a : Attempt) (f : Attempt → Entry) (s : Seen) (answer : Result DoneReply TaskFault) (d : Result DoneReply TaskFault × Task) : Type 0 where
  pub answered : d.0 ≡ answer
  pub stands : Parts d.1 t k f s

accepts_parts : (m : Task) (t : TaskId) (k : ℕ) (h : List TaskCall) (a : Attempt) → StandsFor m t k h → (f : Attempt → Entry) (xs : List (Attempt × Entry)) → xs ≡ kept f (seen t k h).arrived
    → (kind : TaskKind) → may_accept_of kind (seen t k h) a ≡ true
    → Parts (record m { attempts = xs; grant = step.grant_after kind m a }) t k f (record (seen t k h) { accepted = a ∷ (seen t k h).accepted; is_fixed = is_reduce kind || (seen t k h).is_fixed })
accepts_parts m t k h a st f xs is Map may = record { task = st.task; app = st.app; attempts = is; askers = st.askers; first = st.first; fixed = st.fixed; numbered = st.numbered }
accepts_parts m t k h a st f xs is Reduce may =
    let first : is_first m.grant.attempts a ≡ true = first-is m.grant.attempts (waiting_in (seen t k h).asked (seen t k h).ended) a st.first ∙ may in
    let P : Bool → Type 0 = λ b. Parts (record m { attempts = xs; grant = cond b (record { attempts = m.grant.attempts; is_fixed = true }) m.grant }) t k f (record (seen t k h) { accepted = a ∷ (seen t k h).accepted; is_fixed = true }) in
    subst P (sym first) (record { task = st.task; app = st.app; attempts = is; askers = λ free. absurd (true≢false free); first = st.first; fixed = refl; numbered = st.numbered })

agree : (m : Task) (t : TaskId) (k : ℕ) (h : List TaskCall) (a : Attempt) → StandsFor m t k h → (kind : TaskKind) → step.may_accept kind m a (entry_of t k h a) ≡ may_accept_of kind (seen t k h) a
agree m t k h a st Map = let o = overness t k h a in let w = any-won-is m t k h st in λ i. not (o i) && not (w i)
agree m t k h a st Reduce = first-is m.grant.attempts (waiting_in (seen t k h).asked (seen t k h).ended) a st.first

-- nothing changes
ignored : (m : Task) (t : TaskId) (k : ℕ) (h : List TaskCall) → StandsFor m t k h → (f : Attempt → Entry) → ((x : Attempt) → f x ≡ entry_of t k h x) → Parts m t k f (seen t k h)
ignored m t k h st f same = carried m t k h st f (seen t k h) (same_frame (seen t k h)) m.attempts (st.attempts ∙ kept-same (entry_of t k h) f (seen t k h).arrived (λ x _. sym (same x)))

-- what Done makes of the entries, by whether it is accepted
record Does (t : TaskId) (k : ℕ) (h : List TaskCall) (a : Attempt) (f : Attempt → Entry) : Type 0 where
  pub here : may_accept (seen t k h) a ≡ true → accepted_entry (entry_of t k h a) ≡ f a
  pub others : (x : Attempt) → same_attempt x a ≡ false → f x ≡ entry_of t k h x
  pub none : may_accept (seen t k h) a ≡ false → (x : Attempt) → f x ≡ entry_of t k h x

done_parts : (m : Task) (t : TaskId) (k : ℕ) (h : List TaskCall) (a : Attempt) → StandsFor m t k h → (f : Attempt → Entry) → Does t k h a f
    → Settles m t k a f (cond (may_accept (seen t k h) a) (with_acceptance (seen t k h) a) (seen t k h)) (done_answer a t k h) (done m a)
done_parts m t k h a st f does =
    let P : Option Entry → Type 0 = λ o. Settles m t k a f (cond (may_accept (seen t k h) a) (with_acceptance (seen t k h) a) (seen t k h)) (done_answer a t k h) (with_done m a o) in
    subst P (sym (entry-is m t k h a st)) (by (has (seen t k h).arrived a) refl)
  where
    last : (g : Bool) → may_accept (seen t k h) a ≡ g → may_accept_of a.task.kind (seen t k h) a ≡ g → has (seen t k h).arrived a ≡ true
        → Settles m t k a f (cond g (with_acceptance (seen t k h) a) (seen t k h)) (Ok (cond g reply.Accepted reply.Ignored))
        (cond g (Ok reply.Accepted, record m { attempts = with_entry m.attempts a (accepted_entry (entry_of t k h a)); grant = step.grant_after a.task.kind m a }) (Ok reply.Ignored, m))
    last true may of there = record { answered = refl; stands = accepts_parts m t k h a st f (with_entry m.attempts a (accepted_entry (entry_of t k h a))) (replaced m t k h a st f (accepted_entry (entry_of t k h a)) there (does.here may) does.others) a.task.kind of }
    last false may of there = record { answered = refl; stands = ignored m t k h st f (does.none may) }

    known : (acc : Bool) → has (seen t k h).accepted a ≡ acc → has (seen t k h).arrived a ≡ true
        → Settles m t k a f (cond (may_accept (seen t k h) a) (with_acceptance (seen t k h) a) (seen t k h)) (Ok (cond acc reply.Again (cond (may_accept (seen t k h) a) reply.Accepted reply.Ignored)))
        (cond acc (Ok reply.Again, m) (cond (step.may_accept a.task.kind m a (entry_of t k h a)) (Ok reply.Accepted, record m { attempts = with_entry m.attempts a (accepted_entry (entry_of t k h a)); grant = step.grant_after a.task.kind m a }) (Ok reply.Ignored, m)))
    known true acc there =
        let never : may_accept (seen t k h) a ≡ false = λ i. there i && (not (acc i) && may_accept_of a.task.kind (seen t k h) a) in
        let P : Bool → Type 0 = λ g. Settles m t k a f (cond g (with_acceptance (seen t k h) a) (seen t k h)) (Ok reply.Again) (Ok reply.Again, m) in
        subst P (sym never) (record { answered = refl; stands = ignored m t k h st f (does.none never) })
    known false acc there =
        let G = may_accept_of a.task.kind (seen t k h) a in
        let may : may_accept (seen t k h) a ≡ G = λ i. there i && (not (acc i) && G) in
        let ag = agree m t k h a st a.task.kind in
        let P : Bool → Type 0 = λ g. Settles m t k a f (cond (may_accept (seen t k h) a) (with_acceptance (seen t k h) a) (seen t k h)) (Ok (cond (may_accept (seen t k h) a) reply.Accepted reply.Ignored))
        (cond g (Ok reply.Accepted, record m { attempts = with_entry m.attempts a (accepted_entry (entry_of t k h a)); grant = step.grant_after a.task.kind m a }) (Ok reply.Ignored, m)) in
        subst P (may ∙ sym ag) (last (may_accept (seen t k h) a) refl (sym may) there)

    by : (b : Bool) → has (seen t k h).arrived a ≡ b
        → Settles m t k a f (cond (may_accept (seen t k h) a) (with_acceptance (seen t k h) a) (seen t k h)) (done_answer a t k h) (with_done m a (cond b (Some (entry_of t k h a)) None))
    by true e =
        let P : Result DoneReply TaskFault → Type 0 = λ r. Settles m t k a f (cond (may_accept (seen t k h) a) (with_acceptance (seen t k h) a) (seen t k h)) r (with_done m a (Some (entry_of t k h a))) in
        let told : Ok (cond (has (seen t k h).accepted a) reply.Again (cond (may_accept (seen t k h) a) reply.Accepted reply.Ignored)) ≡ done_answer a t k h =
        ap (λ b. cond b (Ok (cond (has (seen t k h).accepted a) reply.Again (cond (may_accept (seen t k h) a) reply.Accepted reply.Ignored))) (Err Unknown)) (sym e) in
        subst P told (known (has (seen t k h).accepted a) refl e)
    by false e =
        let never : may_accept (seen t k h) a ≡ false = ap (λ b. b && (not (has (seen t k h).accepted a) && may_accept_of a.task.kind (seen t k h) a)) e in
        let told : Err Unknown ≡ done_answer a t k h =
        ap (λ b. cond b (Ok (cond (has (seen t k h).accepted a) reply.Again (cond (may_accept (seen t k h) a) reply.Accepted reply.Ignored))) (Err Unknown)) (sym e) in
        let P : Bool → Type 0 = λ g. Settles m t k a f (cond g (with_acceptance (seen t k h) a) (seen t k h)) (done_answer a t k h) (Err Unknown, m) in
        subst P (sym never) (record { answered = told; stands = ignored m t k h st f (does.none never) })

does_of : (t : TaskId) (k : ℕ) (h : List TaskCall) (a : Attempt)
    → ((x : Attempt) → state_of t k (Reports a ∷ h) x ≡ moved x.task.kind event.Done (same_attempt x a && may_accept (seen t k h) a) (state_of t k h x))
    → (seen t k (Reports a ∷ h)).accepted ≡ (cond (may_accept (seen t k h) a) (with_acceptance (seen t k h) a) (seen t k h)).accepted → Does t k h a (entry_of t k (Reports a ∷ h))
does_of t k h a states accepted = record {
  here = λ may.
      let st = states a ∙ (λ i. moved a.task.kind event.Done (same-itself a i && may i) (state_of t k h a)) in
      let acc : has (seen t k (Reports a ∷ h)).accepted a ≡ true = (λ i. has (accepted i) a) ∙ (λ i. has (cond (may i) (with_acceptance (seen t k h) a) (seen t k h)).accepted a) ∙ ap (λ b. b || has (seen t k h).accepted a) (same-itself a) in
      λ i. record { machine = record { attempt = a; state = sym st i }; accepted = sym acc i };
  others = λ x e.
      let st = states x ∙ ap (λ b. moved x.task.kind event.Done (b && may_accept (seen t k h) a) (state_of t k h x)) e in
      let acc : has (seen t k (Reports a ∷ h)).accepted x ≡ has (seen t k h).accepted x = (λ i. has (accepted i) x) ∙ other x e (may_accept (seen t k h) a) in
      λ i. record { machine = record { attempt = x; state = st i }; accepted = acc i };
  none = λ never x.
      let st = states x ∙ ap (λ b. moved x.task.kind event.Done (same_attempt x a && b) (state_of t k h x)) never ∙ ap (λ b. moved x.task.kind event.Done b (state_of t k h x)) (no (same_attempt x a)) in
      let acc : has (seen t k (Reports a ∷ h)).accepted x ≡ has (seen t k h).accepted x = (λ i. has (accepted i) x) ∙ (λ i. has (cond (never i) (with_acceptance (seen t k h) a) (seen t k h)).accepted x) in
      λ i. record { machine = record { attempt = x; state = st i }; accepted = acc i };
}
  where
    no : (b : Bool) → (b && false) ≡ false
    no true = refl
    no false = refl

    other : (x : Attempt) → same_attempt x a ≡ false → (c : Bool) → has (cond c (with_acceptance (seen t k h) a) (seen t k h)).accepted x ≡ has (seen t k h).accepted x
    other x e true = ap (λ b. b || has (seen t k h).accepted x) e
    other x e false = refl

done_settles : (m : Task) (t : TaskId) (k : ℕ) (h : List TaskCall) (a : Attempt) → StandsFor m t k h
    → Settles m t k a (entry_of t k (Reports a ∷ h)) (seen t k (Reports a ∷ h)) (done_answer a t k h) (done m a)
unfolding seen next_seen state_of events_of events_by
done_settles m t k h a st =
    done_parts m t k h a st (entry_of t k (Reports a ∷ h)) (does_of t k h a (λ x. one x.task.kind (same_attempt x a && may_accept (seen t k h) a) event.Done (events_of t k h x)) refl)

pub done-keeps : (m : Task) (t : TaskId) (k : ℕ) (h : List TaskCall) (a : Attempt) → StandsFor m t k h → StandsFor (done m a).1 t k (Reports a ∷ h)
done-keeps m t k h a st = let s = done_settles m t k h a st in to_stands (done m a).1 t k (Reports a ∷ h) s.stands

pub done-answers : (m : Task) (t : TaskId) (k : ℕ) (h : List TaskCall) (a : Attempt) → StandsFor m t k h → (done m a).0 ≡ done_answer a t k h
done-answers m t k h a st = let s = done_settles m t k h a st in s.answered

-- what Done is answered, where a refusal stands for Ignored, tells whether it is accepted, and where it is not nothing changes
abbrev is_accepted : DoneReply → Bool
is_accepted reply.Accepted = true
is_accepted reply.Again = false
is_accepted reply.Ignored = false

accepted : (x : Result DoneReply TaskFault) → is_accepted (reply_or x reply.Ignored) ≡ true → x ≡ Ok reply.Accepted
accepted (Ok reply.Accepted) e = refl
accepted (Ok reply.Again) e = absurd (true≢false (sym e))
accepted (Ok reply.Ignored) e = absurd (true≢false (sym e))
accepted (Err f) e = absurd (true≢false (sym e))

pub accepts-now : (m : Task) (a : Attempt) (r : DoneReply) → StandsForSome m
    → ((t : TaskId) (k : ℕ) (h : List TaskCall) → StandsFor m t k h → r ≡ reply_or (done_answer a t k h) reply.Ignored)
    → r ≡ reply.Accepted → (done m a).0 ≡ Ok reply.Accepted
accepts-now m a r some answers is =
    done-answers m m.task m.app some.0 a some.1 ∙ accepted (done_answer a m.task m.app some.0) (ap is_accepted (sym (answers m.task m.app some.0 some.1) ∙ is))

abbrev chosen : Task → Task → (was may : Bool) → Result DoneReply TaskFault × Task
chosen m changed was may = cond was (Ok reply.Again, m) (cond may (Ok reply.Accepted, changed) (Ok reply.Ignored, m))

unmoved : (m : Task) (a : Attempt) (o : Option Entry) → is_accepted (reply_or (with_done m a o).0 reply.Ignored) ≡ false → (with_done m a o).1 ≡ m
unmoved m a None e = refl
unmoved m a (Some x) e = by-bits x.accepted (step.may_accept a.task.kind m a x) e
  where
    changed : Task
    changed = record m { attempts = with_entry m.attempts a (accepted_entry x); grant = step.grant_after a.task.kind m a }

    by-bits : (was may : Bool) → is_accepted (reply_or (chosen m changed was may).0 reply.Ignored) ≡ false → (chosen m changed was may).1 ≡ m
    by-bits true may e = refl
    by-bits false false e = refl
    by-bits false true e = absurd (true≢false e)

pub stays-unless-accepted : (m : Task) (t : TaskId) (k : ℕ) (h : List TaskCall) (a : Attempt) (r : DoneReply) → StandsFor m t k h
    → r ≡ reply_or (done_answer a t k h) reply.Ignored → (r ≡ reply.Again) ⊎ (r ≡ reply.Ignored) → (done m a).1 ≡ m
stays-unless-accepted m t k h a r st is other =
    unmoved m a (entry_in m.attempts a) (ap (λ x. is_accepted (reply_or x reply.Ignored)) (done-answers m t k h a st) ∙ ap is_accepted (sym is) ∙ not-now other)
  where
    not-now : (r ≡ reply.Again) ⊎ (r ≡ reply.Ignored) → is_accepted r ≡ false
    not-now (inl e) = ap is_accepted e
    not-now (inr e) = ap is_accepted e
