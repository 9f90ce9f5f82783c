-- What is read off a map's calls is what is read off the master's past.
use Rattle.std.proofs.Common.{ℕ, ◌+◌, ◌-◌, ◌*◌, ◌≡◌, refl, sym, ◌∙◌, ap, subst, Bool, true, false, ◌&&◌, ◌||◌, not, List, [], ◌∷◌, ◌++◌, Option, Some, None, if◌then◌else◌, is_some, is_none, nat_eq, nat_lt, inl, inr, true≢false}
use Rattle.std.proofs.lemmas.Bool.{and_parts, false≢true, not-true, eqb-true}
use Rattle.mr_grant.specs.Attempts as grant
use Rattle.mr_grant.specs.Attempts.{same_attempt, first_of}
use Rattle.mr_task.specs.Calls as task_call
use Rattle.mr_task.specs.Calls.{TaskCall}
use Rattle.mr_task.specs.Readings as task
use Rattle.mr_task.proofs.Arrivals.{arrivals}
use Rattle.mr_task.proofs.Growth.{accepted-arrived}
use Rattle.mr_world_model.specs.Ids.{Attempt, ContainerId, TaskId, TaskKind, Map, Reduce, task_eq, attempt_eq, is_reduce, of_reduces}
use Rattle.mr_world_model.specs.Content.{bar_of}
use Rattle.mr_world_model.specs.Packets.{Config, Packet, Pending, Poll, Done, Failed, Ended, NodeUp, FetchLost, Store, Names, Append_record, Flush, Read_history, Reply}
use Rattle.mr_world_model.specs.Hearing.{Seen, Phase, Placed, Launched, containers_of, live_on, more_bars, in_task_order, stands, know, still_there, lose_there, without_placed, find_launched, find_container, has, has_container, is_over, is_won, is_named, may_accept, is_running, heard, only_known, after_ask, after_end, after_ended, after_bar, end_there, expired, placed, success_record}
use Rattle.mr_world_model.specs.Duties.{Master_step, Came, Launches, Expires, Asks, seen, next_seen, is_fine, is_read, told, worked, with_phase, with_read, phase_told, successes, success_of, newest_maps, attempts_of, rest_of}
use Rattle.mr_world_model.specs.Records.{Record, AttemptStarted, MapSucceeded, ReduceSucceeded}
use Rattle.mr_world_model.specs.Calls.{TakenHere, AppendsDue, IsOfJob, AllOfJob, MapCallsAgree, TakenEarlier, Fits, AllFit, Calls, tell, tell_each, tell_launched, tell_ended, tell_barred, is_launched, below, maps_on, lost_below, lost_on, calls_heard, calls_worked, calls_phased, calls_told, next_calls, calls, of_task, winning}
use Rattle.mr_world_model.specs.Effect.{task_fault}
use Rattle.mr_world_model.specs.Claims.{In}
use Rattle.mr_world_model.proofs.Masters.{is_early, told-early}
use Rattle.mr_world_model.proofs.Basic.{if_cases}
use Rattle.mr_world_model.proofs.Names.{task_eq-true}
use Rattle.mr_world_model.proofs.Lists.{attempt_eq-true}
use Rattle.mr_world_model.proofs.Failures.{failed_in, failures-are}
use Rattle.mr_world_model.proofs.Wins.{starts-early}
use Rattle.mr_world_model.proofs.Agree.{AgreesOf, over-agrees, live-agrees, live-counts, failures-in, eq-same, apart, map-accepts, refusal-agrees, next-agrees, nothing-agrees, if_both}
use Rattle.mr_world_model.proofs.Standing.{keep, gone, is_below, is_on, still-keep, lose-keep, below-gone, on-gone, none-there, Stood, Loses, loses-tell, loses-each, lose-kept, lose-heard, lose-nothing, won-stands}
pub use Rattle.mr_world_model.proofs.Map_steps.{Within, or-more, or-here, end-within, within, has-both, or-none, or-assoc, successes-both, no-more, without-task-keep, none-without, once-newest, Maps, MapsOf, Keeps, same-keeps, Quiets, Quiet, still, running-late, calm, quiet-end, quiet-ended, quiet-there, quiet-maps, quiet-ask, quiet-known, quiet-bar, worked-phase, keep-end, keep-asks, keep-fails, keep-ends, keep-dies, keep-tell, keep-each, each-other, Taken, recovered, taken-each, Stored, stored-tell, stored-each}

module _ (t : TaskId) (k : ℕ) (cfg : Config) (map : of_reduces t.kind ≡ false) (job : t.job ≡ cfg.job) (s : Seen) (c : Calls) (o : MapsOf t s (task.seen t k (c t))) where
  abbrev R : task.Seen
  R = task.seen t k (c t)

  abbrev T : Calls → task.Seen
  T d = task.seen t k (d t)

  map-kind : (z : TaskKind) → of_reduces z ≡ false → z ≡ Map
  map-kind Map e = refl
  map-kind Reduce e = absurd (true≢false e)

  -- a map of the job with the number is the task
  is-task : (a : Attempt) → a.task.job ≡ cfg.job → is_reduce a ≡ false → nat_eq a.task.number t.number ≡ true → a.task ≡ t
  is-task a j m e = λ i. record { job = (j ∙ sym job) i; kind = (map-kind a.task.kind m ∙ sym (map-kind t.kind map)) i; number = eqb-true a.task.number t.number e i }

  -- what is lost
  losing : (f : Placed → Bool) (qs : List Placed) (xs : List Attempt) → qs ≡ keep f s.standing → xs ≡ gone f s.standing → ((p : Placed) → f p ≡ true → has s.recorded p.attempt ≡ true) →
      MapsOf t (record s { standing = qs }) (T (tell_each (λ a. task_call.Loses a) xs c))
  losing f qs xs p q h =
      let l = loses-each t k map xs c in
      record {
        early = λ e. l.arrived ∙ o.early e;
        stood = subst (λ z. Stood t z s.recorded (T (tell_each (λ a. task_call.Loses a) xs c)).accepted (T (tell_each (λ a. task_call.Loses a) xs c)).recorded (T (tell_each (λ a. task_call.Loses a) xs c)).lost) (sym p)
            (lose-kept t k map R (T (tell_each (λ a. task_call.Loses a) xs c)) f s.recorded s.standing h (subst (λ z. Loses t z R (T (tell_each (λ a. task_call.Loses a) xs c))) q l) o.stood);
        dues = λ a u e. ap (λ z. grant.has z a) l.accepted ∙ o.dues a u e;
        tails = λ a u e. ap (λ z. grant.has z a) l.accepted ∙ o.tails a u e;
        runs = o.runs;
      }

  node-heard : (n i : ℕ) → MapsOf t (heard cfg s (NodeUp n i)) (T (calls_heard s (NodeUp n i) c))
  unfolding heard calls_heard
  node-heard n i = by (nat_lt (s.known n) i)
    where
      by : (b : Bool) → MapsOf t
          (if b then end_there n i s.launched (record s { known = know s.known n i; standing = still_there s.recorded n i s.standing }) else s)
          (T (if b then tell_each (λ a. task_call.Dies a) (below n i s.launched) (tell_each (λ a. task_call.Loses a) (lost_below s.recorded n i s.standing) c) else c))
      by true = calm t (record s { known = know s.known n i; standing = still_there s.recorded n i s.standing }) _ _ _
          (quiet-there n i s.launched (record s { known = know s.known n i; standing = still_there s.recorded n i s.standing }))
          (keep-each t k (λ a. task_call.Dies a) (keep-dies t k) (below n i s.launched) (tell_each (λ a. task_call.Loses a) (lost_below s.recorded n i s.standing) c))
          (losing (is_below s.recorded n i) (still_there s.recorded n i s.standing) (lost_below s.recorded n i s.standing) (still-keep s.recorded n i s.standing) (below-gone s.recorded n i s.standing) (λ p e. (and_parts (has s.recorded p.attempt) _ e).0))
      by false = o

  lost-heard : (d : ContainerId) (a : Attempt) → MapsOf t (heard cfg s (FetchLost d a)) (T (calls_heard s (FetchLost d a) c))
  unfolding heard calls_heard
  lost-heard d a = by (is_some (find_container s.launched d))
    where
      with_stood : (qs : List Placed) → Stood t qs s.recorded (T (tell a.task (task_call.Loses a) c)).accepted (T (tell a.task (task_call.Loses a) c)).recorded (T (tell a.task (task_call.Loses a) c)).lost → MapsOf t (record s { standing = qs }) (T (tell a.task (task_call.Loses a) c))
      with_stood qs w = let l = loses-tell t k map c a in
          record { early = λ e. l.arrived ∙ o.early e; stood = w; dues = λ b u e. ap (λ z. grant.has z b) l.accepted ∙ o.dues b u e; tails = λ b u e. ap (λ z. grant.has z b) l.accepted ∙ o.tails b u e; runs = o.runs }

      by : (b : Bool) → MapsOf t (if b && has s.recorded a then record s { standing = without_placed s.standing a } else s) (T (if b then tell a.task (task_call.Loses a) c else c))
      by true = if_cases (λ z. MapsOf t z (T (tell a.task (task_call.Loses a) c))) (has s.recorded a) _ _
          (λ e. with_stood (without_placed s.standing a) (lose-heard t k map R (T (tell a.task (task_call.Loses a) c)) a s.recorded s.standing e (loses-tell t k map c a) o.stood))
          (λ e. with_stood s.standing (lose-nothing t k map R (T (tell a.task (task_call.Loses a) c)) a s.recorded s.standing e (loses-tell t k map c a) o.stood))
      by false = o

  keep-launched : (a : Attempt) (call : TaskCall) → Keeps R (task.next_seen t k R call) → Keeps R (T (tell_launched s a call c))
  keep-launched a call p = if_cases (λ (x : Calls). Keeps R (T x)) (is_launched s a) _ _ (λ l. keep-tell t k c a.task call p) (λ l. same-keeps R)

  keep-ended : (l : Option Launched) (b : Bool) → Keeps R (T (tell_ended l b c))
  keep-ended None b = same-keeps R
  keep-ended (Some l) b = keep-tell t k c l.attempt.task (task_call.Ends l.attempt b) (keep-ends t k R l.attempt b)

  launched-with : is_running s.phase ≡ true → (l : Launched) → l.attempt.task.job ≡ cfg.job →
      MapsOf t (record s { launched = l ∷ s.launched; due = s.due ++ AttemptStarted l.attempt l.node ∷ [] }) (T (tell l.attempt.task task_call.Launches c))
  unfolding task.seen task.next_seen
  launched-with run l j = by (task_eq l.attempt.task t)
    where
      runs : (a : Attempt) (b : Bool) → attempt_eq a l.attempt ≡ b → is_some (if b then Some l else find_launched s.launched a) ≡ true → is_reduce a ≡ false → nat_eq a.task.number t.number ≡ true → a.task ≡ t
      runs a true e h m n = is-task a (subst (λ (x : Attempt). x.task.job ≡ cfg.job) (sym (attempt_eq-true a l.attempt e)) j) m n
      runs a false e h m n = o.runs a h m n

      after : (x : task.Seen) → x.accepted ≡ R.accepted → x.recorded ≡ R.recorded → x.lost ≡ R.lost → MapsOf t (record s { launched = l ∷ s.launched; due = s.due ++ AttemptStarted l.attempt l.node ∷ [] }) x
      after x p q u = let w = o.stood in record {
        early = λ e. absurd (running-late s.phase run e);
        stood = record { stand = λ a v. (λ i. grant.has (p i) a && not (grant.has (u i) a)) ∙ w.stand a v; recs = λ a v. ap (λ z. grant.has z a) q ∙ w.recs a v; once = w.once; ours = w.ours };
        dues = λ a v e. ap (λ z. grant.has z a) p ∙ o.dues a v (sym (no-more s.due (AttemptStarted l.attempt l.node ∷ []) a refl) ∙ e);
        tails = λ a v e. ap (λ z. grant.has z a) p ∙ o.tails a v e;
        runs = λ a h m n. runs a (attempt_eq a l.attempt) refl h m n;
      }

      by : (b : Bool) → MapsOf t (record s { launched = l ∷ s.launched; due = s.due ++ AttemptStarted l.attempt l.node ∷ [] }) (task.seen t k (if b then task_call.Launches ∷ c t else c t))
      by true = if_cases (λ x. MapsOf t (record s { launched = l ∷ s.launched; due = s.due ++ AttemptStarted l.attempt l.node ∷ [] }) x) (is_none (task.launch_refusal R)) _ _
          (λ e. after (task.after_launch t k R) refl refl refl) (λ e. after R refl refl refl)
      by false = after R refl refl refl

  expires : (n : ℕ) → MapsOf t (expired n s) (T (next_calls cfg k s (Expires n) c))
  unfolding expired next_calls
  expires n = calm t (record s { standing = lose_there s.recorded n s.standing; killed = containers_of (live_on s false n s.launched) ++ s.killed; bars = more_bars s.bars (in_task_order (live_on s true n s.launched)) }) _ _ _
      (quiet-maps n s.launched (record s { standing = lose_there s.recorded n s.standing; killed = containers_of (live_on s false n s.launched) ++ s.killed; bars = more_bars s.bars (in_task_order (live_on s true n s.launched)) }))
      (keep-each t k (λ a. task_call.Dies a) (keep-dies t k) (maps_on n s.launched) (tell_each (λ a. task_call.Loses a) (lost_on s.recorded n s.standing) c))
      (losing (is_on s.recorded n) (lose_there s.recorded n s.standing) (lost_on s.recorded n s.standing) (lose-keep s.recorded n s.standing) (on-gone s.recorded n s.standing) (λ p e. (and_parts (has s.recorded p.attempt) _ e).0))

  flushed : MapsOf t (worked s Flush) (T (tell_each (λ a. task_call.Records a) (successes s.tail) c))
  flushed =
      let l = stored-each t k (successes s.tail) c in let w = o.stood in
      record {
        early = λ e. l.arrived ∙ o.early e;
        stood = record {
          stand = λ a q. (λ i. grant.has (l.accepted i) a && not (grant.has (l.lost i) a)) ∙ w.stand a q;
          recs = λ a q. l.recorded a q ∙ ((λ i. taken (has (successes s.tail) a) (grant.has R.accepted a) (o.tails a q) i || w.recs a q i) ∙ sym (has-both (successes s.tail) s.recorded a));
          once = w.once;
          ours = w.ours;
        };
        dues = λ a q e. ap (λ z. grant.has z a) l.accepted ∙ o.dues a q e;
        tails = λ a q e. absurd (false≢true e);
        runs = o.runs;
      }
    where
      taken : (x y : Bool) → (x ≡ true → y ≡ true) → (x && y) ≡ x
      taken true y e = e refl
      taken false y e = refl

  appended : (r : Record) → s.due ≡ r ∷ rest_of s.due → MapsOf t (worked s (Append_record r)) R
  appended r e = record {
    early = o.early;
    stood = o.stood;
    dues = λ a q h. o.dues a q (ap (λ l. has (successes l) a) e ∙ (has-both (success_of r) (successes (rest_of s.due)) a ∙ right (has (success_of r) a) _ h));
    tails = λ a q h. by a q (has (successes s.tail) a) refl (sym (successes-both s.tail (r ∷ []) a) ∙ h);
    runs = o.runs;
  }
    where
      right : (x y : Bool) → y ≡ true → (x || y) ≡ true
      right true y e = refl
      right false y e = e

      left : (x y : Bool) → x ≡ true → (x || y) ≡ true
      left x y e = ap (λ z. z || y) e

      by : (a : Attempt) → a.task ≡ t → (x : Bool) → has (successes s.tail) a ≡ x → (has (successes s.tail) a || has (successes (r ∷ [])) a) ≡ true → grant.has R.accepted a ≡ true
      by a q true u h = o.tails a q u
      by a q false u h =
          let here : has (successes (r ∷ [])) a ≡ true = ap (λ z. z || has (successes (r ∷ [])) a) (sym u) ∙ h in
          let there : has (success_of r) a ≡ true = sym (has-both (success_of r) [] a ∙ or-none (has (success_of r) a)) ∙ here in
          o.dues a q (ap (λ l. has (successes l) a) e ∙ (has-both (success_of r) (successes (rest_of s.due)) a ∙ left (has (success_of r) a) _ there))

  worked-fits : (call : Store) → AppendsDue s.due call → MapsOf t (worked s call) (T (calls_worked s call c))
  worked-fits (Append_record r) e = appended r e
  worked-fits Flush e = flushed
  worked-fits Read_history e = o
  worked-fits (Names op) e = calm t s (after_bar s (bar_of op)) R _ (quiet-bar s (bar_of op)) (barred (bar_of op)) o
    where
      barred : (a : Option Attempt) → Keeps R (T (tell_barred a c))
      barred None = same-keeps R
      barred (Some a) = keep-tell t k c a.task (task_call.Dies a) (keep-dies t k R a)

  -- ---- a success

  abbrev done_seen : Attempt → Option ℕ → Seen
  done_seen a bytes = record s { accepted = a ∷ s.accepted; standing = placed a (find_launched s.launched a) ++ s.standing; due = s.due ++ success_record a bytes (find_launched s.launched a) ∷ [] }

  -- of another task
  done-other : (a : Attempt) (bytes : Option ℕ) (l : Option Launched) → find_launched s.launched a ≡ l → task_eq a.task t ≡ false →
      MapsOf t (record s { accepted = a ∷ s.accepted; standing = placed a l ++ s.standing; due = s.due ++ success_record a bytes l ∷ [] }) R
  done-other a bytes None q f = record { early = o.early; stood = o.stood; dues = λ b u e. o.dues b u (sym (no-more s.due (success_record a bytes None ∷ []) b refl) ∙ e); tails = o.tails; runs = o.runs }
  done-other a bytes (Some l) q f = by (is_reduce a) refl
    where
      dues : (r : Record) → success_of r ≡ a ∷ [] → (b : Attempt) → b.task ≡ t → has (successes (s.due ++ r ∷ [])) b ≡ true → grant.has R.accepted b ≡ true
      dues r e b u h = o.dues b u (sym (successes-both s.due (r ∷ []) b
          ∙ ((λ i. has (successes s.due) b || has (e i ++ []) b) ∙ ((λ i. has (successes s.due) b || (apart t b a u f i || false)) ∙ or-none (has (successes s.due) b)))) ∙ h)

      by : (z : Bool) → is_reduce a ≡ z → MapsOf t (record s { accepted = a ∷ s.accepted; standing = (if z then [] else record { attempt = a; node = l.node; incarnation = l.incarnation } ∷ []) ++ s.standing; due = s.due ++ (if z then ReduceSucceeded a bytes else MapSucceeded a l.node l.incarnation) ∷ [] }) R
      by true e = record { early = o.early; stood = o.stood; dues = dues (ReduceSucceeded a bytes) refl; tails = o.tails; runs = o.runs }
      by false e = let w = o.stood in record {
        early = o.early;
        stood = record {
          stand = λ b u. w.stand b u ∙ ap (λ z. z || has (attempts_of s.standing) b) (sym (apart t b a u f));
          recs = w.recs;
          once = ((λ y. absurd (false≢true (sym f ∙ y))), w.once);
          ours = ours;
        };
        dues = dues (MapSucceeded a l.node l.incarnation) refl;
        tails = o.tails;
        runs = o.runs;
      }
        where
          ours : (p : Placed) → In p (record { attempt = a; node = l.node; incarnation = l.incarnation } ∷ s.standing) → nat_eq p.attempt.task.number t.number ≡ true → p.attempt.task ≡ t
          ours p (inl y) n = subst (λ (x : Placed). nat_eq x.attempt.task.number t.number ≡ true → x.attempt.task ≡ t) y (o.runs a (ap (λ x. is_some x) q) e) n
          ours p (inr i) n = o.stood.ours p i n

  -- of the task
  done-own : (a : Attempt) (bytes : Option ℕ) (l : Option Launched) → find_launched s.launched a ≡ l → is_some l ≡ true → a.task ≡ t → is_running s.phase ≡ true →
      grant.has R.accepted a ≡ false → is_none (stands s.standing a.task.number) ≡ true →
      Maps t s.phase s.launched (placed a l ++ s.standing) s.recorded (s.due ++ success_record a bytes l ∷ []) s.tail R.arrived (a ∷ R.accepted) R.recorded R.lost
  done-own a bytes None q there u run new free = absurd (false≢true there)
  done-own a bytes (Some l) q there u run new free = by (is_reduce a) (ap (λ (x : TaskId). of_reduces x.kind) u ∙ map)
    where
      unlost : (z : Bool) → grant.has R.lost a ≡ z → grant.has R.lost a ≡ false
      unlost false e = e
      unlost true e = absurd (false≢true (sym new ∙ (within t k (c t)).lost a e))

      none : (b : Attempt) → b.task ≡ t → has (attempts_of s.standing) b ≡ false
      none b v = none-there s.standing a.task.number b (ap (λ (x : TaskId). x.number) (v ∙ sym u)) free

      or-true : (x : Bool) → (x || true) ≡ true
      or-true true = refl
      or-true false = refl

      stand : (b : Attempt) → b.task ≡ t → (z : Bool) → attempt_eq b a ≡ z → ((same_attempt b a || grant.has R.accepted b) && not (grant.has R.lost b)) ≡ (attempt_eq b a || has (attempts_of s.standing) b)
      stand b v true e = let free' = subst (λ x. grant.has R.lost x ≡ false) (sym (attempt_eq-true b a e)) (unlost (grant.has R.lost a) refl) in
          (λ i. ((sym (eq-same b a) ∙ e) i || grant.has R.accepted b) && not (free' i)) ∙ ap (λ z. z || has (attempts_of s.standing) b) (sym e)
      stand b v false e = (λ i. ((sym (eq-same b a) ∙ e) i || grant.has R.accepted b) && not (grant.has R.lost b)) ∙ (o.stood.stand b v ∙ ap (λ z. z || has (attempts_of s.standing) b) (sym e))

      dues : (b : Attempt) → b.task ≡ t → (z : Bool) → has (successes s.due) b ≡ z → (has (successes s.due) b || (attempt_eq b a || false)) ≡ true → (same_attempt b a || grant.has R.accepted b) ≡ true
      dues b v true e h = ap (λ z. same_attempt b a || z) (o.dues b v e) ∙ or-true (same_attempt b a)
      dues b v false e h = ap (λ z. z || grant.has R.accepted b) (sym (eq-same b a) ∙ (sym (or-none (attempt_eq b a)) ∙ (ap (λ z. z || (attempt_eq b a || false)) (sym e) ∙ h)))

      ours : (p : Placed) → In p (record { attempt = a; node = l.node; incarnation = l.incarnation } ∷ s.standing) → nat_eq p.attempt.task.number t.number ≡ true → p.attempt.task ≡ t
      ours p (inl y) n = subst (λ (x : Placed). x.attempt.task ≡ t) y u
      ours p (inr i) n = o.stood.ours p i n

      by : (z : Bool) → z ≡ false → Maps t s.phase s.launched ((if z then [] else record { attempt = a; node = l.node; incarnation = l.incarnation } ∷ []) ++ s.standing) s.recorded
          (s.due ++ (if z then ReduceSucceeded a bytes else MapSucceeded a l.node l.incarnation) ∷ []) s.tail R.arrived (a ∷ R.accepted) R.recorded R.lost
      by true e = absurd (true≢false e)
      by false e = record {
        early = λ h. absurd (running-late s.phase run h);
        stood = record { stand = λ b v. stand b v (attempt_eq b a) refl; recs = o.stood.recs; once = ((λ y. none), o.stood.once); ours = ours };
        dues = λ b v h. dues b v (has (successes s.due) b) refl (sym (successes-both s.due (MapSucceeded a l.node l.incarnation ∷ []) b) ∙ h);
        tails = λ b v h. ap (λ z. same_attempt b a || z) (o.tails b v h) ∙ or-true (same_attempt b a);
        runs = o.runs;
      }

  module _ (g : AgreesOf t s (task.seen t k (c t))) where
    won-agrees : task.is_won R ≡ is_won s false t
    won-agrees = won-stands t k map R s.recorded s.standing (λ a e. accepted-arrived t k (c t) a e) (λ a e. (arrivals t k (c t)).of_task a e) o.stood

    accepts : (a : Attempt) → a.task ≡ t → task.may_accept R a ≡ may_accept s a
    accepts = map-accepts t s R g map won-agrees

    done-heard : is_running s.phase ≡ true → (a : Attempt) (bytes : Option ℕ) → MapsOf t (heard cfg s (Done a bytes)) (T (tell_launched s a (task_call.Reports a) c))
    unfolding heard task.seen task.next_seen
    done-heard run a bytes = if_cases (λ (x : Calls). MapsOf t (heard cfg s (Done a bytes)) (T x)) (is_launched s a) _ _ (λ l. told (task_eq a.task t) refl l) (λ n. off n)
      where
        told : (b : Bool) → task_eq a.task t ≡ b → is_launched s a ≡ true → MapsOf t (heard cfg s (Done a bytes)) (task.seen t k (if b then task_call.Reports a ∷ c t else c t))
        told true e l =
            let u = task_eq-true a.task t e in
            let m : is_reduce a ≡ false = ap (λ (x : TaskId). of_reduces x.kind) u ∙ map in
            if_both (MapsOf t) (may_accept s a) (task.may_accept R a) (done_seen a bytes) s
            (record R { accepted = a ∷ R.accepted; is_fixed = task.is_reduce a.task.kind || R.is_fixed }) R
            (sym (accepts a u))
            (λ h. done-own a bytes (find_launched s.launched a) refl l u run
            (not-true (grant.has R.accepted a) (and_parts (not (grant.has R.accepted a)) (task.may_accept_of a.task.kind R a) (and_parts (grant.has R.arrived a) _ (accepts a u ∙ h)).1).0)
            (free (is_reduce a) m (and_parts (not (has s.accepted a)) _ (and_parts (is_launched s a) _ h).1).1)) o
          where
            free : (z : Bool) → z ≡ false → (if z then is_named s a else (not (is_over s.ended a) && is_none (stands s.standing a.task.number))) ≡ true → is_none (stands s.standing a.task.number) ≡ true
            free false q h = (and_parts (not (is_over s.ended a)) _ h).1
            free true q h = absurd (true≢false q)
        told false e l = if_cases (λ x. MapsOf t x R) (may_accept s a) (done_seen a bytes) s (λ h. done-other a bytes (find_launched s.launched a) refl e) (λ h. o)

        off : is_launched s a ≡ false → MapsOf t (heard cfg s (Done a bytes)) R
        off n = if_cases (λ x. MapsOf t x R) (may_accept s a) (done_seen a bytes) s
            (λ h. absurd (false≢true (sym n ∙ (and_parts (is_launched s a) (not (has s.accepted a) && (if is_reduce a then is_named s a else (not (is_over s.ended a) && is_none (stands s.standing a.task.number)))) h).0))) (λ h. o)

    heard-fits : is_running s.phase ≡ true → (p : Packet) → MapsOf t (heard cfg s p) (T (calls_heard s p c))
    unfolding heard calls_heard
    heard-fits run (Pending a) = calm t s (after_ask s a) R _ (quiet-ask s a) (keep-launched a (task_call.Asks a) (keep-asks t k R a)) o
    heard-fits run (Poll a) = calm t s (after_ask s a) R _ (quiet-ask s a) (keep-launched a (task_call.Asks a) (keep-asks t k R a)) o
    heard-fits run (Done a bytes) = done-heard run a bytes
    heard-fits run (Failed a) = calm t s (after_end cfg s a true) R _ (quiet-end cfg s a true) (keep-tell t k c a.task (task_call.Fails a) (keep-fails t k R a)) o
    heard-fits run (Ended d) = calm t s (after_ended cfg s d (find_container s.launched d)) R _ (quiet-ended cfg s d (find_container s.launched d)) (keep-ended (find_container s.launched d) (has_container s.killed d)) o
    heard-fits run (NodeUp n i) = node-heard n i
    heard-fits run (FetchLost d a) = lost-heard d a
    heard-fits run _ = o

-- ---- Running starts

no-winner : (t : TaskId) → of_reduces t.kind ≡ false → (xs : List Attempt) → ((a : Attempt) → In a xs → is_reduce a ≡ true) → (b : Attempt) → b.task ≡ t → has xs b ≡ false
no-winner t map [] h b q = refl
no-winner t map (x ∷ xs) h b q = by (attempt_eq b x) refl (no-winner t map xs (λ a i. h a (inr i)) b q)
  where
    by : (z : Bool) → attempt_eq b x ≡ z → has xs b ≡ false → (z || has xs b) ≡ false
    by false e rest = rest
    by true e rest = absurd (true≢false (sym (h x (inl refl)) ∙ (ap (λ (y : Attempt). is_reduce y) (sym (attempt_eq-true b x e)) ∙ (ap (λ (y : TaskId). of_reduces y.kind) q ∙ map))))

In-attempts : (ps : List Placed) (p : Placed) → In p ps → In p.attempt (attempts_of ps)
In-attempts [] p i = i
In-attempts (x ∷ ps) p (inl e) = inl (ap (λ (y : Placed). y.attempt) e)
In-attempts (x ∷ ps) p (inr i) = inr (In-attempts ps p i)

module _ (t : TaskId) (k : ℕ) (cfg : Config) (map : of_reduces t.kind ≡ false) (job : t.job ≡ cfg.job) where
  phased-fits : (p : Phase) (x : Seen) (d : Calls) → MapsOf t x (task.seen t k (d t)) → (is_early p ≡ true → is_early x.phase ≡ true) → (is_running p ≡ true → is_running x.phase ≡ false → is_early x.phase ≡ true) →
      TakenEarlier k x → TakenHere cfg x → MapsOf t (with_phase p x) (task.seen t k (calls_phased p x d t))
  phased-fits p x d o earlier starts fits here = by (is_running p && not (is_running x.phase)) refl
    where
      none : (y z : Bool) → (y ≡ true → z ≡ true) → z ≡ false → y ≡ false
      none false z h e = refl
      none true z h e = absurd (true≢false (sym (h refl) ∙ e))

      by : (b : Bool) → (is_running p && not (is_running x.phase)) ≡ b → MapsOf t
          (if b then record x { phase = p; standing = newest_maps x.known x.history []; recorded = attempts_of (newest_maps x.known x.history []) } else record x { phase = p })
          (task.seen t k ((if b then tell_each (λ a. task_call.Recovers a) (attempts_of (newest_maps x.known x.history [])) (tell_each (λ a. task_call.Recovers a) (winning x.winners) d) else d) t))
      by false e = record { early = λ h. o.early (earlier h); stood = o.stood; dues = o.dues; tails = o.tails; runs = o.runs }
      by true e =
          let both = and_parts (is_running p) (not (is_running x.phase)) e in
          let empty = o.early (starts both.0 (not-true (is_running x.phase) both.1)) in
          let d' = tell_each (λ a. task_call.Recovers a) (winning x.winners) d in
          let same = each-other t k (λ a. task_call.Recovers a) (winning x.winners) d (no-winner t map (winning x.winners) here.winners) in
          let unaccepted : (a : Attempt) → grant.has (task.seen t k (d t)).accepted a ≡ false = λ a. none (grant.has (task.seen t k (d t)).accepted a) (grant.has (task.seen t k (d t)).arrived a) (accepted-arrived t k (d t) a) (ap (λ l. grant.has l a) empty) in
          let w = within t k (d t) in
          let fresh : Taken t k [] (task.seen t k (d t)) = record {
            accepted = λ a q. unaccepted a;
            recorded = λ a q. none (grant.has (task.seen t k (d t)).recorded a) (grant.has (task.seen t k (d t)).accepted a) (w.recorded a) (unaccepted a);
            lost = λ a q. none (grant.has (task.seen t k (d t)).lost a) (grant.has (task.seen t k (d t)).accepted a) (w.lost a) (unaccepted a);
          } in
          let once = once-newest t x.known x.history [] tt in
          let u = taken-each t k (newest_maps x.known x.history []) d' once (ap (λ h. (task.seen t k h).arrived) same ∙ empty) (subst (λ h. Taken t k [] (task.seen t k h)) (sym same) fresh) in
          record {
            early = λ h. absurd (running-late p both.0 h);
            stood = record {
              stand = λ a q. (λ i. u.accepted a q i && not (u.lost a q i)) ∙ and-true (has (attempts_of (newest_maps x.known x.history [])) a);
              recs = u.recorded;
              once = once;
              ours = λ y i n. is-map y (In-attempts (newest_maps x.known x.history []) y i) n;
            };
            dues = λ a q h. absurd (true≢false (sym (o.dues a q h) ∙ unaccepted a));
            tails = λ a q h. absurd (true≢false (sym (o.tails a q h) ∙ unaccepted a));
            runs = o.runs;
          }
        where
          and-true : (z : Bool) → (z && true) ≡ z
          and-true true = refl
          and-true false = refl

          map-kind' : (z : TaskKind) → of_reduces z ≡ false → z ≡ Map
          map-kind' Map e = refl
          map-kind' Reduce e = absurd (true≢false e)

          is-map : (y : Placed) → In y.attempt (attempts_of (newest_maps x.known x.history [])) → nat_eq y.attempt.task.number t.number ≡ true → y.attempt.task ≡ t
          is-map y i n = λ j. record { job = (here.maps y.attempt i ∙ sym job) j; kind = (map-kind' y.attempt.task.kind (fits.are_maps y.attempt i) ∙ sym (map-kind' t.kind map)) j; number = eqb-true y.attempt.task.number t.number n j }

  told-fits : (s : Seen) (c : Calls) (call : Store) (r : Reply) → MapsOf t s (task.seen t k (c t)) → TakenEarlier k (with_read cfg (if is_fine r then worked s call else s) call r) → IsOfJob cfg k s (Asks call r) →
      MapsOf t (told cfg k s call r) (task.seen t k (calls_told cfg k s call r c t))
  unfolding told
  told-fits s c call r o fits here =
      phased-fits (phase_told k s s.phase call r) (with_read cfg (if is_fine r then worked s call else s) call r) (if is_fine r then calls_worked s call c else c)
      (if_cases (λ z. MapsOf t z (task.seen t k ((if is_fine r then calls_worked s call c else c) t))) (is_read call) _ _ (λ e. fine (is_fine r)) (λ e. fine (is_fine r)))
      (λ h. ap (λ z. is_early z) phase ∙ told-early k s s.phase call r h)
      (λ h n. ap (λ z. is_early z) phase ∙ starts-early k s s.phase call r h (ap (λ z. is_running z) (sym phase) ∙ n)) fits here.1
    where
      fine : (b : Bool) → MapsOf t (if b then worked s call else s) (task.seen t k ((if b then calls_worked s call c else c) t))
      fine true = worked-fits t k cfg map job s c o call here.0
      fine false = o

      fine-phase : (b : Bool) → (if b then worked s call else s).phase ≡ s.phase
      fine-phase true = worked-phase s call
      fine-phase false = refl

      phase : (with_read cfg (if is_fine r then worked s call else s) call r).phase ≡ s.phase
      phase = if_cases (λ (z : Seen). z.phase ≡ s.phase) (is_read call) _ _ (λ e. fine-phase (is_fine r)) (λ e. fine-phase (is_fine r))

  next-fits : (s : Seen) (c : Calls) (x : Master_step) → AgreesOf t s (task.seen t k (c t)) → MapsOf t s (task.seen t k (c t)) → Fits cfg k s c x → IsOfJob cfg k s x →
      MapsOf t (next_seen cfg k s x) (task.seen t k (next_calls cfg k s x c t))
  unfolding next_seen next_calls expired
  next-fits s c (Came p) g o fits here = by (is_running s.phase) refl
    where
      by : (b : Bool) → is_running s.phase ≡ b → MapsOf t (if b then heard cfg s p else only_known s p) (task.seen t k ((if b then calls_heard s p c else c) t))
      by true e = heard-fits t k cfg map job s c o g e p
      by false e = calm t s (only_known s p) (task.seen t k (c t)) (task.seen t k (c t)) (quiet-known s p) (same-keeps (task.seen t k (c t))) o
  next-fits s c (Launches l) g o fits here = launched-with t k cfg map job s c o fits.1.0 l here
  next-fits s c (Expires n) g o fits here = expires t k cfg map job s c o n
  next-fits s c (Asks call r) g o fits here = told-fits s c call r o fits here

-- ---- over every past

pub record Both (t : TaskId) (s : Seen) (r : task.Seen) : Type 0 where
  pub agrees : AgreesOf t s r
  pub maps : MapsOf t s r

pub both : (cfg : Config) (k : ℕ) (h : List Master_step) (t : TaskId) → of_reduces t.kind ≡ false → t.job ≡ cfg.job → AllFit cfg k h → AllOfJob cfg k h → Both t (seen cfg k h) (of_task cfg k h t)
unfolding seen calls task.seen
both cfg k [] t map job fit here = record {
  agrees = nothing-agrees t k cfg;
  maps = record {
    early = λ e. refl;
    stood = record { stand = λ a q. refl; recs = λ a q. refl; once = tt; ours = λ p i n. absurd i };
    dues = λ a q e. absurd (false≢true e);
    tails = λ a q e. absurd (false≢true e);
    runs = λ a e. absurd (false≢true e);
  };
}
both cfg k (x ∷ h) t map job fit here =
    let o = both cfg k h t map job fit.1 here.1 in
    let s = seen cfg k h in let c = calls cfg k h in
    let won = won-agrees t k cfg map job s c o.maps o.agrees in
    record {
      agrees = next-agrees t k cfg s c x fit.0 o.agrees (accepts t k cfg map job s c o.maps o.agrees)
          (λ l run fault q. refusal-agrees t s (of_task cfg k h t) o.agrees (won ∙ ap (λ b. is_won s b t) (sym map)) (subst (λ u. task_fault s u ≡ None) q fault));
      maps = next-fits t k cfg map job s c x o.agrees o.maps fit.0 here.0;
    }

pub map_calls_agree : MapCallsAgree
map_calls_agree cfg k h t map job fit here =
    let b = both cfg k h t map job fit here in let s = seen cfg k h in let c = calls cfg k h in let r = of_task cfg k h t in
    let o = b.agrees in let w = b.maps in
    record {
      over = over-agrees t s r o;
      live = live-agrees t s r o;
      accepted = o.accepted;
      accepts = accepts t k cfg map job s c w o;
      next = λ i. record { task = t; number = 1000 * (k - 1) + o.numbered i };
      live_ones = live-counts t s r o;
      won = won-agrees t k cfg map job s c w o;
      failures = λ a q. failures-are t k (calls cfg k h t) ∙ (ap failed_in o.ends ∙ failures-in t s.ended a q);
      stands = w.stood.stand;
      recorded = w.stood.recs;
    }
