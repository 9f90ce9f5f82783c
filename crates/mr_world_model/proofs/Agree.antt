-- What is read off a reduce's calls is what is read off the master's past.
use Rattle.std.proofs.Common.{ℕ, ◌+◌, ◌-◌, ◌*◌, inl, inr, ◌≡◌, refl, sym, ◌∙◌, ap, subst, Bool, true, false, ◌&&◌, not, List, [], ◌∷◌, ◌++◌, Option, Some, None, if◌then◌else◌, is_some, is_none, nat_eq, nat_lt}
use Rattle.std.proofs.lemmas.Bool.{and_parts, false≢true}
use Rattle.mr_grant.specs.Attempts as grant
use Rattle.mr_grant.specs.Attempts.{same_attempt, first_of, is_first}
use Rattle.mr_task.specs.Calls as task_call
use Rattle.mr_task.specs.Calls.{TaskCall}
use Rattle.mr_task.specs.Readings as task
use Rattle.mr_task.proofs.Arrivals.{fresh, arrivals}
use Rattle.mr_task.proofs.Growth.{accepted-arrived}
use Rattle.mr_world_model.specs.Ids.{Attempt, ContainerId, TaskId, task_eq, is_reduce, of_reduces}
use Rattle.mr_world_model.specs.Content.{bar_of}
use Rattle.mr_world_model.specs.Packets.{Config, Packet, Pending, Poll, Done, Failed, Ended, NodeUp, FetchLost, Store, Names, Append_record, Flush, Read_history, Reply}
use Rattle.mr_world_model.specs.Hearing.{Seen, Phase, placed, success_record, know, still_there, Launched, find_launched, find_container, has, has_container, is_live, may_accept, is_running, heard, only_known, after_ask, after_end, over_with, is_won, after_ended, after_bar, end_there, end_maps, expired, can_hear, without_placed}
use Rattle.mr_world_model.specs.Duties.{Master_step, Came, Launches, Expires, Asks, seen, next_seen, is_fine, is_read, told, worked, with_phase, with_read, phase_told, successes, newest_maps, attempts_of}
use Rattle.mr_world_model.specs.Records.{AttemptStarted}
use Rattle.mr_world_model.specs.Calls.{Calls, tell, tell_each, tell_launched, tell_ended, tell_barred, is_launched, below, maps_on, lost_below, lost_on, calls_heard, calls_worked, calls_phased, calls_told, next_calls, calls, of_task, winning, TakenEarlier, Fits, ReduceAgrees}
use Rattle.mr_world_model.proofs.Basic.{if_cases}
use Rattle.mr_world_model.proofs.Failures.{failed_in, failures-are}
use Rattle.mr_world_model.specs.Claims.{In}
use Rattle.mr_world_model.specs.World.{count_of}
use Rattle.mr_world_model.specs.Effect.{task_fault}
use Rattle.mr_world_model.proofs.Names.{task_eq-true}
pub use Rattle.mr_world_model.proofs.Agree_steps.{if_both, eq-same, has-same, attempts_in, endings_in, count_on, no-and, all-count, no-count, apart, has-in, over-in, failures-in, named-in, in-same, in-other, Agrees, AgreesOf, over-agrees, foreign, own, live-agrees, named-agrees, is-first, by-kind, accepts-agrees, ask-agrees, ask-other, ends-one, ends-other, ended_by-agrees, ended_by-other, end-agrees, end-other, live-ends, dead-stays, or-right, done-agrees, done-other, launch-agrees, launch-other, records-agree, loses-agree, recovers-agree, live-count, live-counts, is-none, by-map, map-accepts, refusal-agrees}

module _ (t : TaskId) (k : ℕ) where
  abbrev T : Calls → task.Seen
  T c = task.seen t k (c t)

  tell-agrees : (c : Calls) (s : Seen) (u : TaskId) (call : TaskCall) → (u ≡ t → AgreesOf t s (task.next_seen t k (T c) call)) → (task_eq u t ≡ false → AgreesOf t s (T c)) →
      AgreesOf t s (T (tell u call c))
  unfolding task.seen
  tell-agrees c s u call p n = by (task_eq u t) refl
    where
      by : (b : Bool) → task_eq u t ≡ b → AgreesOf t s (task.seen t k (if b then call ∷ c t else c t))
      by true e = p (task_eq-true u t e)
      by false e = n e

  each-agrees : (f : Attempt → TaskCall) (xs : List Attempt) → ((s : Seen) (r : task.Seen) (a : Attempt) → In a xs → AgreesOf t s r → AgreesOf t s (task.next_seen t k r (f a))) →
      (s : Seen) (c : Calls) → AgreesOf t s (T c) → AgreesOf t s (T (tell_each f xs c))
  each-agrees f [] quiet s c o = o
  each-agrees f (a ∷ xs) quiet s c o = each-agrees f xs (λ s r b i. quiet s r b (inr i)) s (tell a.task (f a) c) (tell-agrees c s a.task (f a) (λ q. quiet s (T c) a (inl refl) o) (λ n. o))

  quiet-record : (s : Seen) (r : task.Seen) (a : Attempt) → AgreesOf t s r → AgreesOf t s (task.next_seen t k r (task_call.Records a))
  unfolding task.next_seen
  quiet-record s r a o = records-agree t s r o a

  quiet-loss : (s : Seen) (r : task.Seen) (a : Attempt) → AgreesOf t s r → AgreesOf t s (task.next_seen t k r (task_call.Loses a))
  unfolding task.next_seen
  quiet-loss s r a o = loses-agree t s r o a

  quiet-recovery : (s : Seen) (r : task.Seen) (a : Attempt) → task.numbered_up_to k a ≡ 0 → AgreesOf t s r → AgreesOf t s (task.next_seen t k r (task_call.Recovers a))
  unfolding task.next_seen
  quiet-recovery s r a early o = recovers-agree t s r o k a early

  -- an attempt dies if it lives
  dies-live : (s : Seen) (c : Calls) (a : Attempt) → AgreesOf t s (T c) → is_live s a ≡ true → AgreesOf t (record s { ended = over_with s a false }) (T (tell a.task (task_call.Dies a) c))
  unfolding task.next_seen
  dies-live s c a o e = tell-agrees c (record s { ended = over_with s a false }) a.task (task_call.Dies a) (λ q. live-ends t s (T c) o a q e) (λ n. ends-other t s (T c) o a false n)

  dies-dead : (s : Seen) (c : Calls) (a : Attempt) → AgreesOf t s (T c) → is_live s a ≡ false → AgreesOf t s (T (tell a.task (task_call.Dies a) c))
  unfolding task.next_seen
  dies-dead s c a o e = tell-agrees c s a.task (task_call.Dies a) (λ q. dead-stays t s (T c) o a q e) (λ n. o)

  there-agrees : (n i : ℕ) (ls : List Launched) (s : Seen) (c : Calls) → AgreesOf t s (T c) → AgreesOf t (end_there n i ls s) (T (tell_each (λ a. task_call.Dies a) (below n i ls) c))
  there-agrees n i [] s c o = o
  there-agrees n i (l ∷ ls) s c o = by (λ s' c' o'. there-agrees n i ls s' c' o') (nat_eq l.node n) (nat_lt l.incarnation i)
    where
      by : ((s : Seen) (c : Calls) → AgreesOf t s (T c) → AgreesOf t (end_there n i ls s) (T (tell_each (λ a. task_call.Dies a) (below n i ls) c))) → (x y : Bool) → AgreesOf t
          (if x && (y && is_live s l.attempt) then end_there n i ls (record s { ended = record { attempt = l.attempt; is_failure = false } ∷ s.ended }) else end_there n i ls s)
          (T (tell_each (λ a. task_call.Dies a) (if x && y then l.attempt ∷ below n i ls else below n i ls) c))
      by go true true = if_cases (λ z. AgreesOf t z (T (tell_each (λ a. task_call.Dies a) (l.attempt ∷ below n i ls) c))) (is_live s l.attempt) _ _
          (λ e. go (record s { ended = over_with s l.attempt false }) (tell l.attempt.task (task_call.Dies l.attempt) c) (dies-live s c l.attempt o e))
          (λ e. go s (tell l.attempt.task (task_call.Dies l.attempt) c) (dies-dead s c l.attempt o e))
      by go true false = go s c o
      by go false y = go s c o

  maps-agree : (n : ℕ) (ls : List Launched) (s : Seen) (c : Calls) → AgreesOf t s (T c) → AgreesOf t (end_maps n ls s) (T (tell_each (λ a. task_call.Dies a) (maps_on n ls) c))
  maps-agree n [] s c o = o
  maps-agree n (l ∷ ls) s c o = by (λ s' c' o'. maps-agree n ls s' c' o') (nat_eq l.node n) (not (is_reduce l.attempt))
    where
      by : ((s : Seen) (c : Calls) → AgreesOf t s (T c) → AgreesOf t (end_maps n ls s) (T (tell_each (λ a. task_call.Dies a) (maps_on n ls) c))) → (x y : Bool) → AgreesOf t
          (if x && (y && is_live s l.attempt) then end_maps n ls (record s { ended = over_with s l.attempt false }) else end_maps n ls s)
          (T (tell_each (λ a. task_call.Dies a) (if x && y then l.attempt ∷ maps_on n ls else maps_on n ls) c))
      by go true true = if_cases (λ z. AgreesOf t z (T (tell_each (λ a. task_call.Dies a) (l.attempt ∷ maps_on n ls) c))) (is_live s l.attempt) _ _
          (λ e. go (record s { ended = over_with s l.attempt false }) (tell l.attempt.task (task_call.Dies l.attempt) c) (dies-live s c l.attempt o e))
          (λ e. go s (tell l.attempt.task (task_call.Dies l.attempt) c) (dies-dead s c l.attempt o e))
      by go true false = go s c o
      by go false y = go s c o

  module _ (cfg : Config) (s : Seen) (c : Calls) (o : AgreesOf t s (T c)) (accepts : (a : Attempt) → a.task ≡ t → task.may_accept (T c) a ≡ may_accept s a) where
    guarded : (s' : Seen) (a : Attempt) (call : TaskCall) → (is_launched s a ≡ true → AgreesOf t s' (T (tell a.task call c))) → (is_launched s a ≡ false → AgreesOf t s' (T c)) →
        AgreesOf t s' (T (tell_launched s a call c))
    guarded s' a call p n = if_cases (λ (x : Calls). AgreesOf t s' (T x)) (is_launched s a) _ _ p n

    asks-heard : (a : Attempt) → AgreesOf t (after_ask s a) (T (tell_launched s a (task_call.Asks a) c))
    unfolding task.next_seen
    asks-heard a = guarded (after_ask s a) a (task_call.Asks a)
        (λ l. tell-agrees c (after_ask s a) a.task (task_call.Asks a) (λ q. ask-agrees t s (T c) o a q l) (λ n. ask-other t s (T c) o a n))
        (λ l. if_cases (λ x. AgreesOf t x (T c)) (is_launched s a && not (has s.asked a)) (record s { asked = s.asked ++ a ∷ [] }) s
        (λ e. absurd (false≢true (sym l ∙ (and_parts (is_launched s a) (not (has s.asked a)) e).0))) (λ e. o))

    done-heard : (a : Attempt) (bytes : Option ℕ) → AgreesOf t (heard cfg s (Done a bytes)) (T (tell_launched s a (task_call.Reports a) c))
    unfolding task.next_seen heard
    done-heard a bytes = guarded (heard cfg s (Done a bytes)) a (task_call.Reports a)
        (λ l. tell-agrees c (heard cfg s (Done a bytes)) a.task (task_call.Reports a) (λ q. done-agrees t s (T c) o cfg a bytes (accepts a q) q l) (λ n. done-other t s (T c) o cfg a bytes n))
        (λ l. if_cases (λ x. AgreesOf t x (T c)) (may_accept s a)
        (record s { accepted = a ∷ s.accepted; standing = placed a (find_launched s.launched a) ++ s.standing; due = s.due ++ success_record a bytes (find_launched s.launched a) ∷ [] }) s
        (λ e. absurd (false≢true (sym l ∙ (and_parts (is_launched s a) _ e).0))) (λ e. o))

    failed-heard : (a : Attempt) → AgreesOf t (after_end cfg s a true) (T (tell a.task (task_call.Fails a) c))
    unfolding task.next_seen
    failed-heard a = tell-agrees c (after_end cfg s a true) a.task (task_call.Fails a) (λ q. end-agrees t s (T c) o cfg a true q) (λ n. end-other t s (T c) o cfg a true n)

    ended-heard : (d : ContainerId) (l : Option Launched) → AgreesOf t (after_ended cfg s d l) (T (tell_ended l (has_container s.killed d) c))
    unfolding task.next_seen
    ended-heard d None = o
    ended-heard d (Some l) = tell-agrees c (after_ended cfg s d (Some l)) l.attempt.task (task_call.Ends l.attempt (has_container s.killed d))
        (λ q. end-agrees t s (T c) o cfg l.attempt (not (has_container s.killed d)) q) (λ n. end-other t s (T c) o cfg l.attempt (not (has_container s.killed d)) n)

    node-heard : (n i : ℕ) → AgreesOf t (heard cfg s (NodeUp n i)) (T (calls_heard s (NodeUp n i) c))
    unfolding heard calls_heard
    node-heard n i = by (nat_lt (s.known n) i)
      where
        by : (b : Bool) → AgreesOf t
            (if b then end_there n i s.launched (record s { known = know s.known n i; standing = still_there s.recorded n i s.standing }) else s)
            (T (if b then tell_each (λ a. task_call.Dies a) (below n i s.launched) (tell_each (λ a. task_call.Loses a) (lost_below s.recorded n i s.standing) c) else c))
        by true = there-agrees n i s.launched _ _ (each-agrees (λ a. task_call.Loses a) (lost_below s.recorded n i s.standing) (λ s r a in'. quiet-loss s r a) s c o)
        by false = o

    lost-heard : (d : ContainerId) (a : Attempt) → AgreesOf t (heard cfg s (FetchLost d a)) (T (calls_heard s (FetchLost d a) c))
    unfolding heard calls_heard
    lost-heard d a = by (is_some (find_container s.launched d))
      where
        quiet : AgreesOf t s (T (tell a.task (task_call.Loses a) c))
        quiet = tell-agrees c s a.task (task_call.Loses a) (λ q. quiet-loss s (T c) a o) (λ n. o)

        by : (b : Bool) → AgreesOf t (if b && has s.recorded a then record s { standing = without_placed s.standing a } else s) (T (if b then tell a.task (task_call.Loses a) c else c))
        by true = if_cases (λ x. AgreesOf t x (T (tell a.task (task_call.Loses a) c))) (has s.recorded a) _ _ (λ e. quiet) (λ e. quiet)
        by false = o

    heard-agrees : (p : Packet) → AgreesOf t (heard cfg s p) (T (calls_heard s p c))
    unfolding heard calls_heard
    heard-agrees (Pending a) = asks-heard a
    heard-agrees (Poll a) = asks-heard a
    heard-agrees (Done a bytes) = done-heard a bytes
    heard-agrees (Failed a) = failed-heard a
    heard-agrees (Ended d) = ended-heard d (find_container s.launched d)
    heard-agrees (NodeUp n i) = node-heard n i
    heard-agrees (FetchLost d a) = lost-heard d a
    heard-agrees _ = o

    only-agrees : (p : Packet) → AgreesOf t (only_known s p) (T c)
    only-agrees (NodeUp n i) = if_cases (λ x. AgreesOf t x (T c)) (can_hear s.phase && nat_lt (s.known n) i) _ _ (λ e. o) (λ e. o)
    only-agrees _ = o

    barred-agrees : (a : Option Attempt) → AgreesOf t (after_bar s a) (T (tell_barred a c))
    barred-agrees None = o
    barred-agrees (Some a) = if_cases (λ x. AgreesOf t x (T (tell a.task (task_call.Dies a) c))) (is_live s a) _ _ (λ e. dies-live s c a o e) (λ e. dies-dead s c a o e)

    worked-agrees : (call : Store) → AgreesOf t (worked s call) (T (calls_worked s call c))
    worked-agrees (Append_record r) = o
    worked-agrees Flush = each-agrees (λ a. task_call.Records a) (successes s.tail) (λ s r a in'. quiet-record s r a) s c o
    worked-agrees (Names op) = barred-agrees (bar_of op)
    worked-agrees Read_history = o

    abbrev with_launch : Launched → Seen
    with_launch l = record s { launched = l ∷ s.launched; due = s.due ++ AttemptStarted l.attempt l.node ∷ [] }

    launches-agree : (l : Launched) → l.attempt.number ≡ 1000 * (k - 1) + count_of s.launched l.attempt.task → (l.attempt.task ≡ t → task.launch_refusal (T c) ≡ None) → AgreesOf t (with_launch l) (T (tell l.attempt.task task_call.Launches c))
    unfolding task.next_seen
    launches-agree l fits may' = tell-agrees c (with_launch l) l.attempt.task task_call.Launches same (λ n. launch-other t s (T c) o l n)
      where
        same : l.attempt.task ≡ t → AgreesOf t (with_launch l) (task.next_seen t k (T c) task_call.Launches)
        same q =
            let there = subst (λ u. l.attempt.number ≡ 1000 * (k - 1) + count_of s.launched u) q fits in
            let number = there ∙ ap (λ n. 1000 * (k - 1) + n) (sym o.numbered) in
            let it : l.attempt ≡ task.next_attempt t k (T c) = λ i. record { task = q i; number = number i } in
            let here : (l.attempt ≡ task.next_attempt t k (T c)) × (task.launch_refusal (T c) ≡ None) = (it, may' q) in
            let may : is_none (task.launch_refusal (T c)) ≡ true = ap (λ x. is_none x) here.1 in
            let new : grant.has (T c).arrived l.attempt ≡ false = ap (λ x. grant.has (T c).arrived x) here.0 ∙ fresh t k (T c) (arrivals t k (c t)) may in
            if_cases (λ y. AgreesOf t (with_launch l) y) (is_none (task.launch_refusal (T c))) _ _
            (λ e. subst (λ x. Agrees t (l ∷ s.launched) s.asked s.ended s.accepted ((T c).arrived ++ x ∷ []) (T c).accepted (T c).asked (T c).ended ((T c).numbered + 1)) here.0
            (launch-agrees t s (T c) o l q new (free new (grant.has (T c).accepted l.attempt) refl)))
            (λ e. absurd (false≢true (sym e ∙ may)))
          where
            free : grant.has (T c).arrived l.attempt ≡ false → (b : Bool) → grant.has (T c).accepted l.attempt ≡ b → grant.has (T c).accepted l.attempt ≡ false
            free new false e = e
            free new true e = absurd (false≢true (sym new ∙ accepted-arrived t k (c t) l.attempt e))

  phased-agrees : (p : Phase) (s : Seen) (c : Calls) → TakenEarlier k s → AgreesOf t s (T c) → AgreesOf t (with_phase p s) (T (calls_phased p s c))
  phased-agrees p s c early o = by (is_running p && not (is_running s.phase))
    where
      by : (b : Bool) → AgreesOf t
          (if b then record s { phase = p; standing = newest_maps s.known s.history []; recorded = attempts_of (newest_maps s.known s.history []) } else record s { phase = p })
          (T (if b then tell_each (λ a. task_call.Recovers a) (attempts_of (newest_maps s.known s.history [])) (tell_each (λ a. task_call.Recovers a) (winning s.winners) c) else c))
      by true = each-agrees (λ a. task_call.Recovers a) (attempts_of (newest_maps s.known s.history [])) (λ s r a in'. quiet-recovery s r a (early.maps a in')) s _
          (each-agrees (λ a. task_call.Recovers a) (winning s.winners) (λ s r a in'. quiet-recovery s r a (early.winners a in')) s c o)
      by false = o

  read-agrees : (cfg : Config) (s : Seen) (call : Store) (r : Reply) (x : task.Seen) → AgreesOf t s x → AgreesOf t (with_read cfg s call r) x
  read-agrees cfg s call r x o = if_cases (λ z. AgreesOf t z x) (is_read call) _ _ (λ e. o) (λ e. o)

  told-agrees : (cfg : Config) (s : Seen) (c : Calls) (call : Store) (r : Reply) → TakenEarlier k (with_read cfg (if is_fine r then worked s call else s) call r) → AgreesOf t s (T c) → ((a : Attempt) → a.task ≡ t → task.may_accept (T c) a ≡ may_accept s a) → AgreesOf t (told cfg k s call r) (T (calls_told cfg k s call r c))
  unfolding told
  told-agrees cfg s c call r early o accepts =
      let c' = if is_fine r then calls_worked s call c else c in
      let s' = if is_fine r then worked s call else s in
      phased-agrees (phase_told k s s.phase call r) (with_read cfg s' call r) c' early (read-agrees cfg s' call r (T c') (fine (is_fine r)))
    where
      fine : (b : Bool) → AgreesOf t (if b then worked s call else s) (T (if b then calls_worked s call c else c))
      fine true = worked-agrees cfg s c o accepts call
      fine false = o

  pub next-agrees : (cfg : Config) (s : Seen) (c : Calls) (x : Master_step) → Fits cfg k s c x → AgreesOf t s (T c) → ((a : Attempt) → a.task ≡ t → task.may_accept (T c) a ≡ may_accept s a) →
      ((l : Launched) → is_running s.phase ≡ true → task_fault s l.attempt.task ≡ None → l.attempt.task ≡ t → task.launch_refusal (T c) ≡ None) → AgreesOf t (next_seen cfg k s x) (T (next_calls cfg k s x c))
  unfolding next_seen next_calls expired
  next-agrees cfg s c (Came p) fits o accepts may = by (is_running s.phase)
    where
      by : (b : Bool) → AgreesOf t (if b then heard cfg s p else only_known s p) (T (if b then calls_heard s p c else c))
      by true = heard-agrees cfg s c o accepts p
      by false = only-agrees cfg s c o accepts p
  next-agrees cfg s c (Launches l) fits o accepts may = launches-agree cfg s c o accepts l fits.0 (λ q. may l fits.1.0 fits.1.1 q)
  next-agrees cfg s c (Expires n) fits o accepts may = maps-agree n s.launched _ _ (each-agrees (λ a. task_call.Loses a) (lost_on s.recorded n s.standing) (λ s r a in'. quiet-loss s r a) s c o)
  next-agrees cfg s c (Asks call r) fits o accepts may = told-agrees cfg s c call r fits o accepts

pub nothing-agrees : (t : TaskId) (k : ℕ) (cfg : Config) → AgreesOf t (seen cfg k []) (task.seen t k [])
unfolding seen task.seen
nothing-agrees t k cfg = record {
  arrived = λ a q e. absurd (false≢true e);
  took = λ a q e n. absurd (false≢true e);
  accepted = λ a q e. absurd (false≢true e);
  known = λ a e. absurd (false≢true e);
  asks = refl;
  ends = refl;
  counts = λ p h. refl;
  numbered = refl;
}

pub reduce-agrees : (cfg : Config) (k : ℕ) (h : List Master_step) (t : TaskId) → of_reduces t.kind ≡ true → AgreesOf t (seen cfg k h) (of_task cfg k h t) →
    (is_running (seen cfg k h).phase ≡ true → task.is_won (of_task cfg k h t) ≡ is_won (seen cfg k h) (of_reduces t.kind) t) → ReduceAgrees k (seen cfg k h) t (of_task cfg k h t)
reduce-agrees cfg k h t reduces o won = let s = seen cfg k h in let r = of_task cfg k h t in record {
  over = over-agrees t s r o;
  live = live-agrees t s r o;
  named = named-agrees t s r o reduces;
  accepted = o.accepted;
  accepts = accepts-agrees t s r o reduces;
  next = λ i. record { task = t; number = 1000 * (k - 1) + o.numbered i };
  live_ones = live-counts t s r o;
  won = λ run. won run ∙ ap (λ b. is_won s b t) reduces;
  failures = λ a q. failures-are t k (calls cfg k h t) ∙ (ap failed_in o.ends ∙ failures-in t s.ended a q);
}
