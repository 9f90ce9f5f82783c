-- Of one task: where one machine stands for two lists of calls, it does so after one call more, and what a master reads of them is the same.
use Rattle.std.proofs.Common.{◌≡◌, ◌+◌, ℕ, Bool, true, false, ◌&&◌, not, cond, List, [], ◌∷◌, ◌++◌, count_by, Option, Some, None, is_none, refl, sym, ap, ◌∙◌, subst}
use Rattle.std.proofs.lemmas.Bool.{and_parts}
use Rattle.mr_ids.specs.Attempt.{Attempt}
use Rattle.mr_ids.specs.declared.id.TaskId.{TaskId}
use Rattle.mr_ids.specs.declared.id.TaskKind.{TaskKind}
use Rattle.mr_ids.specs.declared.id.TaskKind.TheVariants.{Map, Reduce}
use Rattle.mr_ids.specs.Same.{same_task}
use Rattle.mr_ids.proofs.Same.{task-is}
use Rattle.mr_attempt.specs.declared.state.AttemptEvent.TheVariants as event
use Rattle.mr_attempt.specs.Table as table
use Rattle.mr_grant.specs.Attempts.{same_attempt, has, first_of}
use Rattle.mr_task.specs.declared.attempts.Entry.{Entry}
use Rattle.mr_task.specs.declared.fault.TaskFault.{TaskFault}
use Rattle.mr_task.specs.Calls.{TaskCall, Launches, Hears, Asks, Reports, Fails, Ends, Dies, Records, Recovers, Loses}
use Rattle.mr_task.specs.Readings.{Seen, seen, next_seen, is_over, is_live, is_won, is_named, succeeded, failures, may_accept, may_accept_of, may_recover, launch_refusal, refusal_of, next_attempt, numbered_up_to, after_launch, waiting_in, only, events_by, events_of, state_of}
use Rattle.mr_task.specs.State.{StandsFor, entry_of, kept}
use Rattle.mr_task.specs.Steps.{Task, noted, ended, asked, done}
use Rattle.mr_task.proofs.Lists.{kept-same, first-is}
use Rattle.mr_task.proofs.Bits.{Bits, moved, unknown-is, unknown-new}
use Rattle.mr_task.proofs.Arrivals.{nothing-arrived}
use Rattle.mr_task.proofs.States.{one, fits}
use Rattle.mr_task.proofs.Keeps.{Parts, to_stands, entry-is, heard-keeps, recorded-keeps, lost-keeps, failed-keeps, ended-keeps, stopped-keeps, killed-keeps}
use Rattle.mr_task.proofs.Moves.{asked-keeps, done-keeps, any-won-is}
use Rattle.mr_task.proofs.Launches.{arrived-is, failures-are, live-is-counted, winner-is, new_attempt, assigned, launch-keeps, recovered-keeps}
use Rattle.mr_task.proofs.Launches as entered
use Rattle.mr_task.proofs.Telling.{live-told, over-told, winner-told}
use Rattle.mr_master_model.specs.Readings.{told_each}
use Rattle.mr_world_alike.specs.Masters.{OneTask}

-- ---- a call that changes nothing

still : (m : Task) (t : TaskId) (k : ℕ) (h : List TaskCall) (c : TaskCall) → StandsFor m t k h → seen t k (c ∷ h) ≡ seen t k h → ((x : Attempt) → state_of t k (c ∷ h) x ≡ state_of t k h x) → StandsFor m t k (c ∷ h)
still m t k h c st is states =
    let same : (x : Attempt) → entry_of t k (c ∷ h) x ≡ entry_of t k h x = λ x. λ i. record { machine = record { attempt = x; state = states x i }; accepted = has (is i).accepted x } in
    let parts : Parts m t k (entry_of t k (c ∷ h)) (seen t k h) = record {
      task = st.task;
      app = st.app;
      attempts = st.attempts ∙ kept-same (entry_of t k h) (entry_of t k (c ∷ h)) (seen t k h).arrived (λ x there. sym (same x));
      askers = st.askers;
      first = st.first;
      fixed = st.fixed;
      numbered = st.numbered;
    } in
    let P : Seen → Type 0 = λ s. Parts m t k (entry_of t k (c ∷ h)) s in
    to_stands m t k (c ∷ h) (subst P (sym is) parts)

refused-seen : (t : TaskId) (k : ℕ) (h : List TaskCall) → is_none (launch_refusal (seen t k h)) ≡ false → seen t k (Launches ∷ h) ≡ seen t k h
unfolding seen next_seen
refused-seen t k h stuck = ap (λ b. cond b (after_launch t k (seen t k h)) (seen t k h)) stuck

refused-states : (t : TaskId) (k : ℕ) (h : List TaskCall) (x : Attempt) → is_none (launch_refusal (seen t k h)) ≡ false → state_of t k (Launches ∷ h) x ≡ state_of t k h x
unfolding seen next_seen state_of events_of events_by
refused-states t k h x stuck =
    one x.task.kind (is_none (launch_refusal (seen t k h)) && same_attempt x (next_attempt t k (seen t k h))) event.Launch (events_of t k h x)
    ∙ ap (λ b. moved x.task.kind event.Launch (b && same_attempt x (next_attempt t k (seen t k h))) (state_of t k h x)) stuck

and-false : (b : Bool) → (b && false) ≡ false
and-false true = refl
and-false false = refl

unrecovered-seen : (t : TaskId) (k : ℕ) (h : List TaskCall) (a : Attempt) → may_recover t (seen t k h) a ≡ false → seen t k (Recovers a ∷ h) ≡ seen t k h
unfolding seen next_seen
unrecovered-seen t k h a stuck = ap (λ b. cond b (record (seen t k h) { arrived = a ∷ []; accepted = a ∷ []; recorded = a ∷ []; numbered = numbered_up_to k a }) (seen t k h)) stuck

unrecovered-states : (t : TaskId) (k : ℕ) (h : List TaskCall) (a x : Attempt) → may_recover t (seen t k h) a ≡ false → state_of t k (Recovers a ∷ h) x ≡ state_of t k h x
unfolding seen next_seen state_of events_of events_by
unrecovered-states t k h a x stuck =
    ap (λ b. table.state_after x.task.kind (only (same_attempt x a && b) (event.Recorded ∷ event.Done ∷ event.Launch ∷ []) ++ events_of t k h x)) stuck
    ∙ ap (λ b. table.state_after x.task.kind (only b (event.Recorded ∷ event.Done ∷ event.Launch ∷ []) ++ events_of t k h x)) (and-false (same_attempt x a))

-- ---- what is read

-- what a master reads of a task is the same
pub record SameReads (r s : Seen) : Type 0 where
  pub arrived : r.arrived ≡ s.arrived
  pub numbered : r.numbered ≡ s.numbered
  pub accepted : (a : Attempt) → has r.accepted a ≡ has s.accepted a
  pub live : (a : Attempt) → is_live r a ≡ is_live s a
  pub won : is_won r ≡ is_won s
  pub succeeded : succeeded r ≡ succeeded s
  pub failures : failures r ≡ failures s
  pub refusal : launch_refusal r ≡ launch_refusal s
  pub named : (a : Attempt) → is_named r a ≡ is_named s a
  pub accepts : (a : Attempt) → may_accept r a ≡ may_accept s a

abbrev or_this : Entry → Option Entry → Entry
or_this d None = d
or_this d (Some x) = x

module _ (t : TaskId) (k : ℕ) (g h : List TaskCall) (o : OneTask t k g h) where
  arrived-same : (seen t k g).arrived ≡ (seen t k h).arrived
  arrived-same = sym (arrived-is o.machine t k g o.one) ∙ arrived-is o.machine t k h o.other

  numbered-same : (seen t k g).numbered ≡ (seen t k h).numbered
  numbered-same = sym o.one.numbered ∙ o.other.numbered

  there-same : (a : Attempt) → has (seen t k g).arrived a ≡ has (seen t k h).arrived a
  there-same a = ap (λ (l : List Attempt). has l a) arrived-same

  entry-same : (a : Attempt) → entry_of t k g a ≡ entry_of t k h a
  entry-same a = by (has (seen t k g).arrived a) refl
    where
      entries : cond (has (seen t k g).arrived a) (Some (entry_of t k g a)) None ≡ cond (has (seen t k h).arrived a) (Some (entry_of t k h a)) None
      entries = sym (entry-is o.machine t k g a o.one) ∙ entry-is o.machine t k h a o.other

      by : (b : Bool) → has (seen t k g).arrived a ≡ b → entry_of t k g a ≡ entry_of t k h a
      by true e =
          let now : Some (entry_of t k g a) ≡ Some (entry_of t k h a) =
          ap (λ b. cond b (Some (entry_of t k g a)) None) (sym e) ∙ (entries ∙ ap (λ b. cond b (Some (entry_of t k h a)) None) (sym (there-same a) ∙ e)) in
          ap (or_this (entry_of t k g a)) now
      by false e =
          let f = sym (there-same a) ∙ e in
          let states : state_of t k g a ≡ state_of t k h a = unknown-new _ _ (fits t k g a) e ∙ sym (unknown-new _ _ (fits t k h a) f) in
          let accepted : has (seen t k g).accepted a ≡ has (seen t k h).accepted a =
          ap (λ (b : Bits). b.accepted) (unknown-is _ _ (fits t k g a) e) ∙ sym (ap (λ (b : Bits). b.accepted) (unknown-is _ _ (fits t k h a) f)) in
          λ i. record { machine = record { attempt = a; state = states i }; accepted = accepted i }

  accepted-same : (a : Attempt) → has (seen t k g).accepted a ≡ has (seen t k h).accepted a
  accepted-same a = ap (λ (e : Entry). e.accepted) (entry-same a)

  live-same : (a : Attempt) → is_live (seen t k g) a ≡ is_live (seen t k h) a
  live-same a = live-told t k g a ∙ (ap (λ (e : Entry). table.is_live e.machine.state) (entry-same a) ∙ sym (live-told t k h a))

  over-same : (a : Attempt) → is_over (seen t k g).ended a ≡ is_over (seen t k h).ended a
  over-same a = over-told t k g a ∙ (ap (λ (e : Entry). table.is_over e.machine.state && not e.accepted) (entry-same a) ∙ sym (over-told t k h a))

  won-same : is_won (seen t k g) ≡ is_won (seen t k h)
  won-same = sym (any-won-is o.machine t k g o.one) ∙ any-won-is o.machine t k h o.other

  succeeded-same : succeeded (seen t k g) ≡ succeeded (seen t k h)
  succeeded-same = sym (winner-told t k g) ∙ ((sym (winner-is o.machine t k g o.one) ∙ winner-is o.machine t k h o.other) ∙ winner-told t k h)

  count-same : count_by (is_live (seen t k g)) (seen t k g).arrived ≡ count_by (is_live (seen t k h)) (seen t k h).arrived
  count-same = sym (live-is-counted o.machine t k g o.one) ∙ live-is-counted o.machine t k h o.other

  refusal-same : launch_refusal (seen t k g) ≡ launch_refusal (seen t k h)
  refusal-same = λ i. refusal_of (won-same i) (count-same i) (numbered-same i)

  named-same : (a : Attempt) → is_named (seen t k g) a ≡ is_named (seen t k h) a
  named-same a = first-is (waiting_in (seen t k g).asked (seen t k g).ended) (waiting_in (seen t k h).asked (seen t k h).ended) a (sym o.one.first ∙ o.other.first)

  accepts-same : (a : Attempt) → may_accept (seen t k g) a ≡ may_accept (seen t k h) a
  accepts-same a = λ i. there-same a i && (not (accepted-same a i) && of a.task.kind i)
    where
      of : (kind : TaskKind) → may_accept_of kind (seen t k g) a ≡ may_accept_of kind (seen t k h) a
      of Map = λ i. not (over-same a i) && not (won-same i)
      of Reduce = named-same a

  pub reads : SameReads (seen t k g) (seen t k h)
  reads = record {
    arrived = arrived-same;
    numbered = numbered-same;
    accepted = accepted-same;
    live = live-same;
    won = won-same;
    succeeded = succeeded-same;
    failures = sym (failures-are o.machine t k g o.one) ∙ failures-are o.machine t k h o.other;
    refusal = refusal-same;
    named = named-same;
    accepts = accepts-same;
  }

  -- ---- one call more

  launched : OneTask t k (Launches ∷ g) (Launches ∷ h)
  launched = by (launch_refusal (seen t k g)) refl
    where
      by : (x : Option TaskFault) → launch_refusal (seen t k g) ≡ x → OneTask t k (Launches ∷ g) (Launches ∷ h)
      by None e = record {
        machine = record o.machine { attempts = o.machine.attempts ++ (new_attempt o.machine, assigned (new_attempt o.machine)) ∷ []; numbered = o.machine.numbered + 1 };
        one = launch-keeps o.machine t k g o.one e;
        other = launch-keeps o.machine t k h o.other (sym refusal-same ∙ e);
      }
      by (Some f) e =
          let here : is_none (launch_refusal (seen t k g)) ≡ false = ap is_none e in
          let too : is_none (launch_refusal (seen t k h)) ≡ false = ap is_none (sym refusal-same ∙ e) in
          record {
            machine = o.machine;
            one = still o.machine t k g Launches o.one (refused-seen t k g here) (λ x. refused-states t k g x here);
            other = still o.machine t k h Launches o.other (refused-seen t k h too) (λ x. refused-states t k h x too);
          }

  recovered : (a : Attempt) → OneTask t k (Recovers a ∷ g) (Recovers a ∷ h)
  recovered a = by (may_recover t (seen t k g) a) refl
    where
      may-same : may_recover t (seen t k g) a ≡ may_recover t (seen t k h) a
      may-same = ap (λ (l : List Attempt). is_none (first_of l) && same_task a.task t) arrived-same

      by : (b : Bool) → may_recover t (seen t k g) a ≡ b → OneTask t k (Recovers a ∷ g) (Recovers a ∷ h)
      by true e =
          let both = and_parts (is_none (first_of (seen t k g).arrived)) (same_task a.task t) e in
          let empty : o.machine.attempts ≡ [] = o.one.attempts ∙ ap (λ (l : List Attempt). kept (entry_of t k g) l) (nothing-arrived (seen t k g).arrived both.0) in
          let own : a.task ≡ o.machine.task = task-is a.task t both.1 ∙ sym o.one.task in
          record {
            machine = record o.machine { attempts = (a, entered.succeeded a) ∷ []; numbered = numbered_up_to o.machine.app a };
            one = recovered-keeps o.machine t k g a o.one own empty;
            other = recovered-keeps o.machine t k h a o.other own empty;
          }
      by false e =
          let too = sym may-same ∙ e in
          record {
            machine = o.machine;
            one = still o.machine t k g (Recovers a) o.one (unrecovered-seen t k g a e) (λ x. unrecovered-states t k g a x e);
            other = still o.machine t k h (Recovers a) o.other (unrecovered-seen t k h a too) (λ x. unrecovered-states t k h a x too);
          }

pub next-one : (t : TaskId) (k : ℕ) (g h : List TaskCall) (o : OneTask t k g h) (c : TaskCall) → OneTask t k (c ∷ g) (c ∷ h)
next-one t k g h o Launches = launched t k g h o
next-one t k g h o (Hears a) = record { machine = noted o.machine a event.Heard; one = heard-keeps o.machine t k g a o.one; other = heard-keeps o.machine t k h a o.other }
next-one t k g h o (Asks a) = record { machine = asked o.machine a; one = asked-keeps o.machine t k g a o.one; other = asked-keeps o.machine t k h a o.other }
next-one t k g h o (Reports a) = record { machine = (done o.machine a).1; one = done-keeps o.machine t k g a o.one; other = done-keeps o.machine t k h a o.other }
next-one t k g h o (Fails a) = record { machine = ended o.machine a event.Fail; one = failed-keeps o.machine t k g a o.one; other = failed-keeps o.machine t k h a o.other }
next-one t k g h o (Ends a true) = record { machine = ended o.machine a event.Kill; one = stopped-keeps o.machine t k g a o.one; other = stopped-keeps o.machine t k h a o.other }
next-one t k g h o (Ends a false) = record { machine = ended o.machine a event.Fail; one = ended-keeps o.machine t k g a o.one; other = ended-keeps o.machine t k h a o.other }
next-one t k g h o (Dies a) = record { machine = ended o.machine a event.Kill; one = killed-keeps o.machine t k g a o.one; other = killed-keeps o.machine t k h a o.other }
next-one t k g h o (Records a) = record { machine = noted o.machine a event.Recorded; one = recorded-keeps o.machine t k g a o.one; other = recorded-keeps o.machine t k h a o.other }
next-one t k g h o (Recovers a) = recovered t k g h o a
next-one t k g h o (Loses a) = record { machine = noted o.machine a event.Lost; one = lost-keeps o.machine t k g a o.one; other = lost-keeps o.machine t k h a o.other }

-- the same after several
pub told-one : (t : TaskId) (k : ℕ) (g h : List TaskCall) (o : OneTask t k g h) (call : Attempt → TaskCall) (as' : List Attempt)
    → OneTask t k (told_each call as' g) (told_each call as' h)
told-one t k g h o call [] = o
told-one t k g h o call (a ∷ as') = told-one t k (call a ∷ g) (call a ∷ h) (next-one t k g h o (call a)) call as'
