-- Steps at which a machine stays with its master: launches, and packets that tell one task the same on both sides.
use Rattle.std.proofs.Common.{ℕ, count_by, nat_le, nat_eq, ◌≡◌, refl, sym, ◌∙◌, ap, subst, Bool, true, false, ◌&&◌, ◌||◌, not, List, [], ◌∷◌, ◌++◌, Option, Some, None, if◌then◌else◌, is_some, is_none, length}
use Rattle.std.specs.Option.{option_map}
use Rattle.std.proofs.lemmas.Bool.{false≢true, and_parts, eqb-true}
use Rattle.mr_ids.specs.Attempt.{Attempt}
use Rattle.mr_ids.specs.Same.{same_task}
use Rattle.mr_ids.specs.declared.id.TaskId.{TaskId}
use Rattle.mr_ids.specs.declared.id.TaskKind.{TaskKind}
use Rattle.mr_ids.specs.declared.id.TaskKind.TheVariants.{Map, Reduce}
use Rattle.mr_packet.specs.declared.packet.ContainerId.{ContainerId}
use Rattle.mr_packet.specs.Sends.{to_node}
use Rattle.mr_grant.specs.Attempts as grant
use Rattle.mr_packet.specs.declared.packet.Packet.{Packet}
use Rattle.mr_packet.specs.declared.packet.Packet.TheVariants as packet
use Rattle.mr_history.specs.declared.record.Record.TheVariants.{AttemptStarted, AttemptFailed, JobUnsuccessful, MapSucceeded, ReduceSucceeded}
use Rattle.mr_task.specs.Calls as task_call
use Rattle.mr_task.specs.Calls.{TaskCall}
use Rattle.mr_task.specs.Readings as task
use Rattle.mr_master_model.specs.declared.launch.Launch.{Launch}
use Rattle.mr_master_model.specs.declared.setting.Setting.{Setting}
use Rattle.mr_master_model.specs.Job as job
use Rattle.mr_master_model.specs.Readings as read
use Rattle.mr_master_model.specs.Hearing as hears
use Rattle.mr_master_model.specs.Sends as sends
use Rattle.mr_master_model.specs.Sends.{killed_by}
use Rattle.mr_master_model.specs.Next as next
use Rattle.mr_world_model.specs.Ids.{of_reduces, is_reduce, task_eq, container_eq}
use Rattle.mr_world_model.specs.Packets.{Config}
use Rattle.mr_world_model.specs.Hearing.{Seen, Launched, Failing, is_live, is_won, failures, over_with, ended_by, after_end, after_ended, is_running, is_named, is_over, stands, find_launched, find_container, has_container, has, may_accept, heard, only_known, after_ask, success_record, placed}
use Rattle.mr_world_model.specs.Duties.{Master_step, Came, Launches, seen, next_seen}
use Rattle.mr_world_model.specs.Effect as cluster
use Rattle.mr_world_model.specs.Effect.{unless, NotRunning, NoTask, NoNode}
use Rattle.mr_world_model.specs.Calls.{Calls, calls, next_calls, calls_heard, tell, tell_launched, tell_ended, of_task}
use Rattle.mr_world_model.specs.Made.{IsMade, AllMade, BelongsTo}
use Rattle.mr_world_model.proofs.Lists.{found_launched}
use Rattle.mr_world_model.proofs.Names.{task_eq-refl, task_eq-true}
use Rattle.mr_world_model.proofs.Closed.{found_container}
use Rattle.mr_world_model.specs.Claims.{In}
use Rattle.mr_master_model.specs.Past.{Fails}
use Rattle.mr_world_model.proofs.Made.{fitted}
use Rattle.mr_master_refinement.specs.Steps.{setting, step_of}
use Rattle.mr_master_refinement.specs.Works.{work_at}
use Rattle.mr_master_refinement.specs.Points.{View, view, Alike, launch_as, launch_why, refusal_as}
use Rattle.mr_master_refinement.specs.Holds.{Holds, Kept, LaunchesFound, pair_of}
use Rattle.mr_master_refinement.proofs.Works.{runs-is}
use Rattle.mr_master_refinement.proofs.Turn.{if_cases}
use Rattle.mr_master_refinement.proofs.Points.{point, tells, task-test, job-is}
use Rattle.mr_master_refinement.proofs.Alike.{tasks_stay_alike, next_in, next-is, live_in, won_in, ended_in, accepts_in, accepts-is}
use Rattle.mr_master_refinement.proofs.Launches.{places, found, order-length}
use Rattle.mr_master_refinement.proofs.Held.{At, at-of, of-at, tell-at, came-at, asked-at}

-- packets that tell of no restart and no lost output
abbrev pub IsPlain : Packet → Type 0
IsPlain (packet.NodeUp n i) = ⊥
IsPlain (packet.FetchLost c a) = ⊥
IsPlain _ = Unit {0}

module _ (cfg : Config) (k : ℕ) (h : List Master_step) (m : read.Seen) (made : AllMade cfg k h) (o : Holds cfg k h m) (run : is_running (seen cfg k h).phase ≡ true) where
  abbrev W : Setting
  W = setting cfg k

  abbrev S : Seen
  S = seen cfg k h

  abbrev C : Calls
  C = calls cfg k h

  here : At cfg k S C m
  here = at-of cfg k h m o

  finds : LaunchesFound cfg k S m
  finds = found cfg k h m made o run

  pub of-job : (a : Attempt) (l : Launched) → find_launched S.launched a ≡ Some l → cluster.is_task cfg a.task ≡ true
  of-job a l e = let f = found_launched S.launched a (ap (λ x. is_some x) e) in (subst (BelongsTo cfg k) f.2 ((fitted cfg k h made).launches f.0 f.1)).1

  alike : (t : TaskId) → cluster.is_task cfg t ≡ true → Alike (of_task cfg k h t) (read.of_task W m t)
  alike t e = o.stands.tasks run t (task-test cfg k t ∙ e)

  -- ---- Pending, Poll

  asks-at : (a : Attempt) → At cfg k (after_ask S a) (tell_launched S a (task_call.Asks a) C) (hears.after_ask m a (read.launch_of W m a))
  asks-at a = subst (λ f. At cfg k (after_ask S a) (tell_launched S a (task_call.Asks a) C) (hears.after_ask m a f)) (sym (finds.launch a)) (by (find_launched S.launched a))
    where
      base : At cfg k (after_ask S a) C m
      base = asked-at cfg k S C m (is_some (find_launched S.launched a) && not (has S.asked a)) (S.asked ++ a ∷ []) here

      by : (f : Option Launched) → At cfg k (after_ask S a) (if is_some f then tell a.task (task_call.Asks a) C else C) (hears.after_ask m a (option_map launch_as f))
      by None = base
      by (Some l) = tell-at cfg k (after_ask S a) C m a.task (task_call.Asks a) base

  -- ---- Done

  pub may-is : (t : TaskId) (a : Attempt) → a.task ≡ t → cluster.is_task cfg t ≡ true → task.may_accept (read.of_task W m t) a ≡ may_accept S a
  may-is t a q e = as-view (read.of_task W m t) ∙ (ap (λ v. accepts_in v a) (alike t e) ∙ (sym (as-view (of_task cfg k h t)) ∙ (tells cfg k h t made (job-is cfg t e)).accepts a q))
    where
      as-view : (r : task.Seen) → task.may_accept r a ≡ accepts_in (view r) a
      as-view r = ap (λ b. grant.has r.arrived a && (not (grant.has r.accepted a) && b)) (accepts-is a.task.kind r a)

  module _ (a : Attempt) (bytes : Option ℕ) where
    abbrev Accepted : Option Launched → Seen
    Accepted f = record S { accepted = a ∷ S.accepted; standing = placed a f ++ S.standing; due = S.due ++ success_record a bytes f ∷ [] }

    success-is : (l : Launched) (x : TaskKind) → hears.success_of x a (launch_as l) bytes ≡ (if of_reduces x then ReduceSucceeded a bytes else MapSucceeded a l.node l.incarnation)
    success-is l Map = refl
    success-is l Reduce = refl

    reports-at : At cfg k (heard cfg S (packet.Done a bytes)) (calls_heard S (packet.Done a bytes) C) (hears.heard W m (packet.Done a bytes))
    unfolding heard calls_heard hears.heard
    reports-at = subst (λ f. At cfg k (if may_accept S a then Accepted (find_launched S.launched a) else S) (tell_launched S a (task_call.Reports a) C) (hears.after_done W m a bytes f)) (sym (finds.launch a))
        (by (find_launched S.launched a) refl)
      where
        T : read.Seen
        T = read.tell m a.task (task_call.Reports a)

        same : At cfg k S (tell a.task (task_call.Reports a) C) (read.tell m a.task (task_call.Reports a))
        same = tell-at cfg k S C m a.task (task_call.Reports a) here

        choice : (l : Launched) (b : Bool) → At cfg k (if b then Accepted (Some l) else S) (tell a.task (task_call.Reports a) C)
            (if b then read.with_due (read.tell m a.task (task_call.Reports a)) (hears.success_of a.task.kind a (launch_as l) bytes ∷ []) else read.tell m a.task (task_call.Reports a))
        choice l true = record {
          work = same.work;
          can = same.can;
          due = λ i. same.due i ++ success-is l a.task.kind i ∷ [];
          tail = same.tail;
          bars = same.bars;
          tasks = same.tasks;
          launched = same.launched;
          known = same.known;
          earlier = same.earlier;
          killed = same.killed;
        }
        choice l false = same

        by : (f : Option Launched) → find_launched S.launched a ≡ f →
            At cfg k (if may_accept S a then Accepted f else S) (if is_some f then tell a.task (task_call.Reports a) C else C) (hears.after_done W m a bytes (option_map launch_as f))
        by None e = subst (λ (b : Bool). At cfg k (if b then Accepted None else S) C m) (sym none) here
          where
            none : may_accept S a ≡ false
            none = ap (λ (f : Option Launched). is_some f && (not (has S.accepted a) && (if is_reduce a then is_named S a else (not (is_over S.ended a) && is_none (stands S.standing a.task.number))))) e
        by (Some l) e = subst (λ (b : Bool). At cfg k (if may_accept S a then Accepted (Some l) else S) (tell a.task (task_call.Reports a) C)
            (if b then read.with_due (read.tell m a.task (task_call.Reports a)) (hears.success_of a.task.kind a (launch_as l) bytes ∷ []) else read.tell m a.task (task_call.Reports a)))
            (sym (may-is a.task a refl (of-job a l e))) (choice l (may_accept S a))

  -- ---- Where

  heard-of : (t u : TaskId) (a : Attempt) (c d : List TaskCall) → Alike (task.seen u k c) (task.seen u k d) → Alike (task.seen u k c) (task.seen u k (if same_task u t then task_call.Hears a ∷ d else d))
  unfolding task.seen task.next_seen
  heard-of t u a c d o = by (same_task u t)
    where
      by : (b : Bool) → Alike (task.seen u k c) (task.seen u k (if b then task_call.Hears a ∷ d else d))
      by true = o
      by false = o

  where-at : (c : ContainerId) → At cfg k S C (hears.after_where m (read.launched_in W m c))
  where-at c = subst (λ f. At cfg k S C (hears.after_where m f)) (sym (finds.container c)) (by (find_container S.launched c))
    where
      by : (f : Option Launched) → At cfg k S C (hears.after_where m (option_map pair_of f))
      by None = here
      by (Some l) = record {
        work = here.work;
        can = here.can;
        due = here.due;
        tail = here.tail;
        bars = here.bars;
        tasks = λ run u e. heard-of l.attempt.task u l.attempt (C u) (m.calls u) (here.tasks run u e);
        launched = here.launched;
        known = here.known;
        earlier = here.earlier;
        killed = here.killed;
      }

  -- ---- what is sent for them

  answer-quiet : (a : Attempt) (f : Option Launch) (b : Bool) (g : ℕ → Bool) → killed_by (sends.answer_to a f b) g ≡ g
  unfolding killed_by
  answer-quiet a None b g = refl
  answer-quiet a (Some l) b g = refl

  ack-quiet : (a : Attempt) (f : Option Launch) (g : ℕ → Bool) → killed_by (sends.ack_to W m a f) g ≡ g
  unfolding killed_by
  ack-quiet a None g = refl
  ack-quiet a (Some l) g = if_cases (λ es. killed_by es g ≡ g) (grant.has (read.of_task W m a.task).accepted a || task.may_accept (read.of_task W m a.task) a) _ _ (λ t. refl) (λ t. refl)

  ready-quiet : (c : ContainerId) (n : ℕ) (f : Option (Attempt × Launch)) (g : ℕ → Bool) → killed_by (sends.ready_to W m c n f) g ≡ g
  unfolding killed_by
  ready-quiet c n None g = refl
  ready-quiet c n (Some p) g = by (read.succeeded W m (job.task_of W Map n))
    where
      at : (a : Attempt) (p : Option read.Place) → killed_by (sends.ready_at c n a p) g ≡ g
      at a None = refl
      at a (Some p) = refl

      by : (o : Option Attempt) → killed_by (sends.ready_by W m c n o) g ≡ g
      by None = refl
      by (Some a) = at a (read.place_of W m a)

  -- ---- the end of an attempt that was launched

  module _ (a : Attempt) (call : TaskCall) (f : Bool) (ends : (v : View) → next_in a.task k v call ≡ ended_in v a f) (own : cluster.is_task cfg a.task ≡ true) (x : Master_step) (more : AllMade cfg k (x ∷ h))
      (told' : next_calls cfg k S x C ≡ tell a.task call C) (seen' : next_seen cfg k S x ≡ after_end cfg S a f) where
    abbrev T : read.Seen
    T = read.tell m a.task call

    same-end : At cfg k S (tell a.task call C) T
    same-end = tell-at cfg k S C m a.task call here

    alike-end : Alike (task.seen a.task k (tell a.task call C a.task)) (read.of_task W T a.task)
    alike-end = same-end.tasks run a.task (task-test cfg k a.task ∙ own)

    live-is : read.is_live W m a ≡ is_live S a
    live-is = ap (λ v. live_in v a) (alike a.task own) ∙ (tells cfg k h a.task made (job-is cfg a.task own)).live a refl

    won-kept : (v : View) → won_in (ended_in v a f) ≡ won_in v
    won-kept v = if_cases (λ u. won_in u ≡ won_in v) (live_in v a) _ _ (λ t. refl) (λ t. refl)

    won-is : task.is_won (read.of_task W T a.task) ≡ is_won S (is_reduce a) a.task
    unfolding task.seen
    won-is = ap (λ v. won_in v) alike-end ∙ ((λ i. won_in (view (task.seen a.task k (if task_eq-refl a.task i then call ∷ C a.task else C a.task))))
        ∙ (ap (λ v. won_in v) (next-is a.task k (of_task cfg k h a.task) call ∙ ends (view (of_task cfg k h a.task))) ∙ (won-kept (view (of_task cfg k h a.task))
        ∙ (tells cfg k h a.task made (job-is cfg a.task own)).won run)))

    ended-is : is_live S a ≡ true → f ≡ true → (next_seen cfg k S x).ended ≡ over_with S a true
    ended-is e q = ap (λ (s : Seen). s.ended) seen' ∙ ((λ i. (if e i then ended_by cfg S a (q i) else S).ended) ∙ if_cases (λ (u : Seen). u.ended ≡ over_with S a true)
        (nat_le cfg.limit (failures (over_with S a true) a) && not (is_won S (is_reduce a) a.task)) _ _ (λ t. refl) (λ t. refl))

    failures-is : is_live S a ≡ true → f ≡ true → task.failures (read.of_task W T a.task) ≡ failures (over_with S a true) a
    unfolding seen calls
    failures-is e q = ap (λ (v : View). count_by v.failed v.arrived) alike-end ∙ (ap (λ (c : Calls). task.failures (task.seen a.task k (c a.task))) (sym told')
        ∙ ((tells cfg k (x ∷ h) a.task more (job-is cfg a.task own)).failures a refl ∙ ap (λ es. failures es a) (ended-is e q)))

    spent-is : is_live S a ≡ true → f ≡ true → hears.is_spent W T a.task ≡ (nat_le cfg.limit (failures (over_with S a true) a) && not (is_won S (is_reduce a) a.task))
    spent-is e q = (λ i. not (won-is i) && nat_le cfg.limit (failures-is e q i)) ∙ swap (not (is_won S (is_reduce a) a.task)) (nat_le cfg.limit (failures (over_with S a true) a))
      where
        swap : (x y : Bool) → (x && y) ≡ (y && x)
        swap true true = refl
        swap true false = refl
        swap false true = refl
        swap false false = refl

    -- where it became Failed
    failing-at : (b : Bool) → At cfg k (if b then record S { ended = over_with S a true; due = S.due ++ AttemptFailed a ∷ JobUnsuccessful ∷ []; phase = Failing false } else record S { ended = over_with S a true; due = S.due ++ AttemptFailed a ∷ [] })
        (tell a.task call C) (if b then record T { due = T.due ++ AttemptFailed a ∷ JobUnsuccessful ∷ []; work = Fails false } else record T { due = T.due ++ AttemptFailed a ∷ [] })
    unfolding work_at
    failing-at true = record {
      work = refl;
      can = tt;
      due = λ i. same-end.due i ++ AttemptFailed a ∷ JobUnsuccessful ∷ [];
      tail = same-end.tail;
      bars = same-end.bars;
      tasks = λ e. absurd (false≢true e);
      launched = same-end.launched;
      known = same-end.known;
      earlier = same-end.earlier;
      killed = λ e. absurd (false≢true e);
    }
    failing-at false = record {
      work = same-end.work;
      can = same-end.can;
      due = λ i. same-end.due i ++ AttemptFailed a ∷ [];
      tail = same-end.tail;
      bars = same-end.bars;
      tasks = same-end.tasks;
      launched = same-end.launched;
      known = same-end.known;
      earlier = same-end.earlier;
      killed = same-end.killed;
    }

    end-at : At cfg k (after_end cfg S a f) (tell a.task call C) (hears.after_end W m a call f)
    end-at = subst (λ (b : Bool). At cfg k (after_end cfg S a f) (tell a.task call C) (if f && b then hears.after_failure W T a else T)) (sym live-is) (by (is_live S a) refl f refl)
      where
        by : (b : Bool) → is_live S a ≡ b → (g : Bool) → f ≡ g → At cfg k (if b then ended_by cfg S a g else S) (tell a.task call C)
            (if g && b then hears.after_failure W (read.tell m a.task call) a else read.tell m a.task call)
        by true e true q = subst (λ (b : Bool). At cfg k (ended_by cfg S a true) (tell a.task call C) (if b then record T { due = T.due ++ AttemptFailed a ∷ JobUnsuccessful ∷ []; work = Fails false } else record T { due = T.due ++ AttemptFailed a ∷ [] }))
            (sym (spent-is e q)) (failing-at (nat_le cfg.limit (failures (over_with S a true) a) && not (is_won S (is_reduce a) a.task)))
        by true e false q = record {
          work = same-end.work;
          can = same-end.can;
          due = same-end.due;
          tail = same-end.tail;
          bars = same-end.bars;
          tasks = same-end.tasks;
          launched = same-end.launched;
          known = same-end.known;
          earlier = same-end.earlier;
          killed = same-end.killed;
        }
        by false e true q = same-end
        by false e false q = same-end

  -- ---- Failed

  -- of an attempt that is not live it changes nothing
  dead-at : (a : Attempt) → is_live S a ≡ false → At cfg k S (tell a.task (task_call.Fails a) C) m
  unfolding task.seen
  dead-at a dead = record {
    work = here.work;
    can = here.can;
    due = here.due;
    tail = here.tail;
    bars = here.bars;
    tasks = λ run u e. still u e (task_eq a.task u) refl;
    launched = here.launched;
    known = here.known;
    earlier = here.earlier;
    killed = here.killed;
  }
    where
      still : (u : TaskId) → job.is_task W u ≡ true → (b : Bool) → task_eq a.task u ≡ b → Alike (task.seen u k (if b then task_call.Fails a ∷ C u else C u)) (task.seen u k (m.calls u))
      still u e true q = here.tasks run u e ∙ sym (tasks_stay_alike.failed u k (of_task cfg k h u) a ((tells cfg k h u made (job-is cfg u (sym (task-test cfg k u) ∙ e))).live a (task_eq-true a.task u q) ∙ dead))
      still u e false q = here.tasks run u e

  failed-at : (a : Attempt) → AllMade cfg k (Came (packet.Failed a) ∷ h) → At cfg k (heard cfg S (packet.Failed a)) (calls_heard S (packet.Failed a) C) (hears.heard W m (packet.Failed a))
  unfolding heard calls_heard hears.heard next_in next_calls next_seen
  failed-at a more = subst (λ f. At cfg k (after_end cfg S a true) (tell a.task (task_call.Fails a) C) (hears.after_failed W m a f)) (sym (finds.launch a)) (by (find_launched S.launched a) refl)
    where
      by : (f : Option Launched) → find_launched S.launched a ≡ f → At cfg k (after_end cfg S a true) (tell a.task (task_call.Fails a) C) (hears.after_failed W m a (option_map launch_as f))
      by None e = subst (λ (b : Bool). At cfg k (if b then ended_by cfg S a true else S) (tell a.task (task_call.Fails a) C) m) (sym dead) (dead-at a dead)
        where
          dead : is_live S a ≡ false
          dead = ap (λ (f : Option Launched). is_some f && (not (has S.accepted a) && not (is_over S.ended a))) e
      by (Some l) e = end-at a (task_call.Fails a) true (λ v. fails-is v) (of-job a l e) (Came (packet.Failed a)) more told-is seen-is
        where
          fails-is : (v : View) → next_in a.task k v (task_call.Fails a) ≡ ended_in v a true
          fails-is v = refl

          told-is : next_calls cfg k S (Came (packet.Failed a)) C ≡ tell a.task (task_call.Fails a) C
          told-is = λ i. if run i then tell a.task (task_call.Fails a) C else C

          seen-is : next_seen cfg k S (Came (packet.Failed a)) ≡ after_end cfg S a true
          seen-is = λ i. if run i then after_end cfg S a true else S

  -- ---- Ended

  ended-at : (c : ContainerId) → AllMade cfg k (Came (packet.Ended c) ∷ h) → At cfg k (heard cfg S (packet.Ended c)) (calls_heard S (packet.Ended c) C) (hears.heard W m (packet.Ended c))
  unfolding heard calls_heard hears.heard next_in next_calls next_seen
  ended-at c more = subst (λ f. At cfg k (after_ended cfg S c (find_container S.launched c)) (tell_ended (find_container S.launched c) (has_container S.killed c) C) (hears.after_ended W m c f)) (sym (finds.container c))
      (by (find_container S.launched c) refl)
    where
      by : (f : Option Launched) → find_container S.launched c ≡ f → At cfg k (after_ended cfg S c f) (tell_ended f (has_container S.killed c) C) (hears.after_ended W m c (option_map pair_of f))
      by None e = here
      by (Some l) e = subst (λ b. At cfg k (after_end cfg S l.attempt (not (has_container S.killed c))) (tell l.attempt.task (task_call.Ends l.attempt (has_container S.killed c)) C) (hears.after_end W m l.attempt (task_call.Ends l.attempt b) (not b)))
          (sym was) (end-at l.attempt (task_call.Ends l.attempt (has_container S.killed c)) (not (has_container S.killed c)) ends-is own (Came (packet.Ended c)) more told-is seen-is)
        where
          found-there : In l S.launched × (container_eq c l.container ≡ true)
          found-there = found_container S.launched c l e

          own : cluster.is_task cfg l.attempt.task ≡ true
          own = ((fitted cfg k h made).launches l found-there.0).1

          app-is : c.app ≡ k
          app-is = eqb-true c.app l.container.app (and_parts (nat_eq c.app l.container.app) (nat_eq c.number l.container.number) found-there.1).0 ∙ (places cfg k h made).0.apps l found-there.0

          was : m.killed c.number ≡ has_container S.killed c
          was = o.killed run c.number ∙ (λ i. has_container S.killed (record { app = sym app-is i; number = c.number }))

          ends-is : (v : View) → next_in l.attempt.task k v (task_call.Ends l.attempt (has_container S.killed c)) ≡ ended_in v l.attempt (not (has_container S.killed c))
          ends-is v = refl

          told-is : next_calls cfg k S (Came (packet.Ended c)) C ≡ tell l.attempt.task (task_call.Ends l.attempt (has_container S.killed c)) C
          told-is = λ i. if run i then tell_ended (e i) (has_container S.killed c) C else C

          seen-is : next_seen cfg k S (Came (packet.Ended c)) ≡ after_end cfg S l.attempt (not (has_container S.killed c))
          seen-is = λ i. if run i then after_ended cfg S c (e i) else only_known S (packet.Ended c)

  -- ---- each packet

  kept-by : (p : Packet) → hears.delivered W m p ≡ (if read.is_running m.work then hears.heard W m p else m) →
      (is_running (heard cfg S p).phase ≡ true → (g : ℕ → Bool) → killed_by (sends.replies W m (hears.heard W m p) p) g ≡ g) →
      At cfg k (heard cfg S p) (calls_heard S p C) (hears.heard W m p) → Holds cfg k (Came p ∷ h) (next.next_seen W m (step_of (Came p)))
  kept-by p d quiet x = of-at cfg k h (Came p) _ (came-at cfg k S C m p run o.stands.work o.stands.can d quiet x)

  -- where it runs on, its machine does
  goes : {s : Seen} {c : Calls} {x : read.Seen} → At cfg k s c x → is_running s.phase ≡ true → read.is_running x.work ≡ true
  goes {s = s} a go = ap read.is_running a.work ∙ (runs-is k s.phase a.can ∙ go)

  packets-keep : (p : Packet) → IsPlain p → AllMade cfg k (Came p ∷ h) → Holds cfg k (Came p ∷ h) (next.next_seen W m (step_of (Came p)))
  unfolding heard calls_heard hears.heard hears.delivered sends.replies killed_by
  packets-keep (packet.Pending a) plain more = kept-by (packet.Pending a) refl (λ go g. answer-quiet a (read.launch_of W m a) _ g) (asks-at a)
  packets-keep (packet.Poll a) plain more = kept-by (packet.Poll a) refl (λ go g. answer-quiet a (read.launch_of W m a) _ g) (asks-at a)
  packets-keep (packet.Done a bytes) plain more = kept-by (packet.Done a bytes) refl (λ go g. ack-quiet a (read.launch_of W m a) g) (reports-at a bytes)
  packets-keep (packet.Where c n) plain more = kept-by (packet.Where c n) refl (λ go g. ready-quiet c n (read.launched_in W m c) g) (where-at c)
  packets-keep (packet.Failed a) plain more = let x = failed-at a more in kept-by (packet.Failed a) refl (λ go g. (λ i. killed_by (if goes x go i then [] else sends.kill_all W (hears.heard W m (packet.Failed a))) g)) x
  packets-keep (packet.Ended c) plain more = let x = ended-at c more in kept-by (packet.Ended c) refl (λ go g. (λ i. killed_by (if goes x go i then [] else sends.kill_all W (hears.heard W m (packet.Ended c))) g)) x
  packets-keep (packet.NodeUp n i) plain more = absurd plain
  packets-keep (packet.FetchLost c a) plain more = absurd plain
  packets-keep (packet.Launch c a i) plain more = kept-by (packet.Launch c a i) refl (λ go g. refl) here
  packets-keep (packet.Kill c) plain more = kept-by (packet.Kill c) refl (λ go g. refl) here
  packets-keep (packet.Fetch c a x y z) plain more = kept-by (packet.Fetch c a x y z) refl (λ go g. refl) here
  packets-keep (packet.Won t a) plain more = kept-by (packet.Won t a) refl (λ go g. refl) here
  packets-keep (packet.Outcome b) plain more = kept-by (packet.Outcome b) refl (λ go g. refl) here
  packets-keep (packet.Answer a b) plain more = kept-by (packet.Answer a b) refl (λ go g. refl) here
  packets-keep (packet.DoneAck a) plain more = kept-by (packet.DoneAck a) refl (λ go g. refl) here
  packets-keep (packet.MapReady n a x y) plain more = kept-by (packet.MapReady n a x y) refl (λ go g. refl) here
  packets-keep (packet.Piece a x y z bs) plain more = kept-by (packet.Piece a x y z bs) refl (λ go g. refl) here

  -- ---- a launch

  module _ (l : Launched) (u : IsMade cfg k S (Launches l)) where
    why-none : launch_why cfg S l.attempt.task l.node ≡ None
    why-none = λ i. unless (u.2 i) NotRunning (unless (u.3 i) NoTask (unless (u.4 i) NoNode (u.5 i)))

    pub refused-none : read.launch_refusal W m l.attempt.task l.node ≡ None
    refused-none = (point cfg k h m made o.stands).launch l.attempt.task l.node ∙ ap refusal_as why-none

    pub attempt-is : read.next_attempt W m l.attempt.task ≡ l.attempt
    attempt-is = (point cfg k h m made o.stands).next l.attempt.task l.node why-none ∙ ap (λ (x : Launched). x.attempt) (sym u.0)

    pub launched-is : read.launched_as W m l.node ≡ launch_as l
    launched-is = (let n = ap length o.launched ∙ order-length S.launched in let q = o.known in λ i. record { container = record { app = k; number = n i }; node = l.node; incarnation = q i l.node })
        ∙ ap launch_as (sym u.0)

    abbrev Launched_now : Attempt → Launch → read.Seen
    Launched_now a x = next.with_kills (to_node l.node (packet.Launch (read.launched_as W m l.node).container (read.next_attempt W m l.attempt.task) (read.launched_as W m l.node).incarnation) ∷ [])
        (hears.with_launch (read.tell m l.attempt.task task_call.Launches) a x)

    launch-keeps : Holds cfg k (Launches l ∷ h) (next.next_seen W m (step_of (Launches l)))
    unfolding next_seen next_calls next.next_seen next.moved next.sent_by killed_by
    launch-keeps = of-at cfg k h (Launches l) _ (subst (λ z. At cfg k (next_seen cfg k S (Launches l)) (next_calls cfg k S (Launches l) C) z)
        (sym ((λ i. next.with_kills (if is_none (refused-none i) then to_node l.node (packet.Launch (read.launched_as W m l.node).container (read.next_attempt W m l.attempt.task) (read.launched_as W m l.node).incarnation) ∷ [] else [])
        (if is_none (refused-none i) then hears.with_launch (read.tell m l.attempt.task task_call.Launches) (read.next_attempt W m l.attempt.task) (read.launched_as W m l.node) else m))
        ∙ (λ i. Launched_now (attempt-is i) (launched-is i)))) at)
      where
        same : At cfg k S (tell l.attempt.task task_call.Launches C) (read.tell m l.attempt.task task_call.Launches)
        same = tell-at cfg k S C m l.attempt.task task_call.Launches here

        at : At cfg k (next_seen cfg k S (Launches l)) (next_calls cfg k S (Launches l) C) (Launched_now l.attempt (launch_as l))
        at = record {
          work = same.work;
          can = same.can;
          due = λ i. same.due i ++ AttemptStarted l.attempt l.node ∷ [];
          tail = same.tail;
          bars = same.bars;
          tasks = same.tasks;
          launched = λ i. same.launched i ++ (l.attempt, launch_as l) ∷ [];
          known = same.known;
          earlier = same.earlier;
          killed = same.killed;
        }

pub launches_keep : (cfg : Config) (k : ℕ) (h : List Master_step) (m : read.Seen) (l : Launched) → Kept cfg k h m (Launches l)
launches_keep cfg k h m l made o run = launch-keeps cfg k h m made.1 o run l made.0

pub plain_keep : (cfg : Config) (k : ℕ) (h : List Master_step) (m : read.Seen) (p : Packet) → IsPlain p → Kept cfg k h m (Came p)
plain_keep cfg k h m p plain made o run = packets-keep cfg k h m made.1 o run p plain made
