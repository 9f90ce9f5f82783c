-- Two masters that are alike stay so where the same packet comes, the same task is launched, or the same node is given up.
use Rattle.std.proofs.Common.{◌≡◌, ℕ, Bool, true, false, ◌&&◌, not, List, [], ◌∷◌, ◌++◌, nat_lt, Option, Some, None, is_none, ap, subst}
use Rattle.mr_ids.specs.Attempt.{Attempt}
use Rattle.mr_ids.specs.declared.id.TaskId.{TaskId}
use Rattle.mr_task.specs.Calls.{TaskCall}
use Rattle.mr_task.specs.Calls as task_call
use Rattle.mr_task.specs.Readings as task
use Rattle.mr_packet.specs.declared.packet.ContainerId.{ContainerId}
use Rattle.mr_packet.specs.declared.packet.Packet.{Packet}
use Rattle.mr_packet.specs.declared.packet.Packet.TheVariants as packet
use Rattle.mr_history.specs.declared.record.Record.{Record}
use Rattle.mr_history.specs.declared.record.Record.TheVariants.{AttemptStarted, AttemptFailed, JobUnsuccessful}
use Rattle.mr_master_model.specs.declared.launch.Launch.{Launch}
use Rattle.mr_master_model.specs.declared.setting.Setting.{Setting}
use Rattle.mr_master_model.specs.Past.{Fails}
use Rattle.mr_master_model.specs.Readings.{Seen, is_running, is_over, is_live, launch_of, launched_in, of_task, tell, tell_each, launch_refusal, expire_refusal, launched_as, next_attempt}
use Rattle.mr_master_model.specs.Hearing.{after_ask, success_of, after_done, is_spent, after_failure, after_end, after_failed, after_ended, dead_below, lost_below, after_restart, after_node_up, after_where, is_lost_map, after_fetch_lost, heard, delivered, with_launch, after_launch, given_up_of_maps, lost_on, new_bars, expired, after_expiry}
use Rattle.mr_world_alike.specs.Masters.{SameMasters}
use Rattle.mr_world_alike.proofs.Shown.{reads-at, launch-same, in-same, live-same, spent-same, dead-same, lost-same, lost-map-same, given-maps-same, lost-on-same, bars-same, refusal-same, expire-same, next-same, as-same}
use Rattle.mr_world_alike.proofs.Moving.{if-same, with-due, with-failing, with-bars, known-on, told-same, each-same}

-- ---- what is heard of one attempt

module _ (w : Setting) (r s : Seen) (e : SameMasters w r s) where
  pub ask-same : (a : Attempt) → SameMasters w (after_ask r a (launch_of w r a)) (after_ask s a (launch_of w s a))
  ask-same a = subst (λ (o : Option Launch). SameMasters w (after_ask r a (launch_of w r a)) (after_ask s a o)) (launch-same w r s e a) (by (launch_of w r a))
    where
      by : (o : Option Launch) → SameMasters w (after_ask r a o) (after_ask s a o)
      by None = e
      by (Some l) = told-same w r s e a.task (task_call.Asks a)

  done-same : (a : Attempt) (bytes : Option ℕ) → SameMasters w (after_done w r a bytes (launch_of w r a)) (after_done w s a bytes (launch_of w s a))
  done-same a bytes = subst (λ (o : Option Launch). SameMasters w (after_done w r a bytes (launch_of w r a)) (after_done w s a bytes o)) (launch-same w r s e a) (by (launch_of w r a))
    where
      told : SameMasters w (tell r a.task (task_call.Reports a)) (tell s a.task (task_call.Reports a))
      told = told-same w r s e a.task (task_call.Reports a)

      accepts : task.may_accept (of_task w r a.task) a ≡ task.may_accept (of_task w s a.task) a
      accepts = let q = reads-at w r s e a.task in q.accepts a

      by : (o : Option Launch) → SameMasters w (after_done w r a bytes o) (after_done w s a bytes o)
      by None = e
      by (Some l) =
          if-same (task.may_accept (of_task w r a.task) a) (task.may_accept (of_task w s a.task) a) accepts
          (with-due w (tell r a.task (task_call.Reports a)) (tell s a.task (task_call.Reports a)) told
          (r.due ++ success_of a.task.kind a l bytes ∷ []) (s.due ++ success_of a.task.kind a l bytes ∷ []) (ap (λ (l' : List Record). l' ++ success_of a.task.kind a l bytes ∷ []) e.due))
          told

  failure-same : (a : Attempt) → SameMasters w (after_failure w r a) (after_failure w s a)
  failure-same a =
      if-same (is_spent w r a.task) (is_spent w s a.task) (spent-same w r s e a.task)
      (with-failing w r s e (r.due ++ AttemptFailed a ∷ JobUnsuccessful ∷ []) (s.due ++ AttemptFailed a ∷ JobUnsuccessful ∷ []) (ap (λ (l : List Record). l ++ AttemptFailed a ∷ JobUnsuccessful ∷ []) e.due) (Fails false))
      (with-due w r s e (r.due ++ AttemptFailed a ∷ []) (s.due ++ AttemptFailed a ∷ []) (ap (λ (l : List Record). l ++ AttemptFailed a ∷ []) e.due))

module _ (w : Setting) (r s : Seen) (e : SameMasters w r s) where
  end-same : (a : Attempt) (c : TaskCall) (b : Bool) → SameMasters w (after_end w r a c b) (after_end w s a c b)
  end-same a c b =
      let told = told-same w r s e a.task c in
      let live = live-same w r s e a in
      if-same (b && is_live w r a) (b && is_live w s a) (λ i. b && live i) (failure-same w (tell r a.task c) (tell s a.task c) told a) told

  failed-same : (a : Attempt) → SameMasters w (after_failed w r a (launch_of w r a)) (after_failed w s a (launch_of w s a))
  failed-same a = subst (λ (o : Option Launch). SameMasters w (after_failed w r a (launch_of w r a)) (after_failed w s a o)) (launch-same w r s e a) (by (launch_of w r a))
    where
      by : (o : Option Launch) → SameMasters w (after_failed w r a o) (after_failed w s a o)
      by None = e
      by (Some l) = end-same a (task_call.Fails a) true

  ended-same : (c : ContainerId) → SameMasters w (after_ended w r c (launched_in w r c)) (after_ended w s c (launched_in w s c))
  ended-same c = subst (λ (o : Option (Attempt × Launch)). SameMasters w (after_ended w r c (launched_in w r c)) (after_ended w s c o)) (in-same w r s e c) (by (launched_in w r c))
    where
      by : (o : Option (Attempt × Launch)) → SameMasters w (after_ended w r c o) (after_ended w s c o)
      by None = e
      by (Some p) =
          let P : Bool → Type 0 = λ b. SameMasters w (after_end w r p.0 (task_call.Ends p.0 (r.killed c.number)) (not (r.killed c.number))) (after_end w s p.0 (task_call.Ends p.0 b) (not b)) in
          subst P (e.killed c.number) (end-same p.0 (task_call.Ends p.0 (r.killed c.number)) (not (r.killed c.number)))

  where-same : (c : ContainerId) → SameMasters w (after_where r (launched_in w r c)) (after_where s (launched_in w s c))
  where-same c = subst (λ (o : Option (Attempt × Launch)). SameMasters w (after_where r (launched_in w r c)) (after_where s o)) (in-same w r s e c) (by (launched_in w r c))
    where
      by : (o : Option (Attempt × Launch)) → SameMasters w (after_where r o) (after_where s o)
      by None = e
      by (Some p) = told-same w r s e p.0.task (task_call.Hears p.0)

  fetch-lost-same : (c : ContainerId) (a : Attempt) → SameMasters w (after_fetch_lost w r a (launched_in w r c)) (after_fetch_lost w s a (launched_in w s c))
  fetch-lost-same c a = subst (λ (o : Option (Attempt × Launch)). SameMasters w (after_fetch_lost w r a (launched_in w r c)) (after_fetch_lost w s a o)) (in-same w r s e c) (by (launched_in w r c))
    where
      by : (o : Option (Attempt × Launch)) → SameMasters w (after_fetch_lost w r a o) (after_fetch_lost w s a o)
      by None = e
      by (Some p) = if-same (is_lost_map w r a a.task.kind) (is_lost_map w s a a.task.kind) (lost-map-same w r s e a a.task.kind) (told-same w r s e a.task (task_call.Loses a)) e

  -- ---- a node that is up, or given up

  restart-same : (n i : ℕ) → SameMasters w (after_restart w r n i) (after_restart w s n i)
  restart-same n i =
      each-same w (tell_each w r (λ a. task_call.Dies a) (dead_below w r n i)) (tell_each w s (λ a. task_call.Dies a) (dead_below w s n i))
      (each-same w r s e (λ a. task_call.Dies a) (dead_below w r n i) (dead_below w s n i) (dead-same w r s e n i))
      (λ a. task_call.Loses a) (lost_below w r n i) (lost_below w s n i) (lost-same w r s e n i)

  node-up-same : (n i : ℕ) → SameMasters w (after_node_up w r n i) (after_node_up w s n i)
  node-up-same n i =
      let known = e.known n in
      if-same (not (nat_lt (r.known n) i)) (not (nat_lt (s.known n) i)) (λ j. not (nat_lt (known j) i)) e
      (if-same (is_running r.work) (is_running s.work) (ap is_running e.work)
      (known-on w (after_restart w r n i) (after_restart w s n i) (restart-same n i) n i)
      (known-on w r s e n i))

  expired-same : (n : ℕ) → SameMasters w (expired w r n) (expired w s n)
  expired-same n =
      let dead = each-same w r s e (λ a. task_call.Dies a) (given_up_of_maps w r n) (given_up_of_maps w s n) (given-maps-same w r s e n) in
      let lost = each-same w (tell_each w r (λ a. task_call.Dies a) (given_up_of_maps w r n)) (tell_each w s (λ a. task_call.Dies a) (given_up_of_maps w s n)) dead
      (λ a. task_call.Loses a) (lost_on w r n) (lost_on w s n) (lost-on-same w r s e n) in
      let bars = bars-same w r s e n in
      with-bars w (tell_each w (tell_each w r (λ a. task_call.Dies a) (given_up_of_maps w r n)) (λ a. task_call.Loses a) (lost_on w r n))
      (tell_each w (tell_each w s (λ a. task_call.Dies a) (given_up_of_maps w s n)) (λ a. task_call.Loses a) (lost_on w s n)) lost
      (r.bars ++ new_bars w r n) (s.bars ++ new_bars w s n) (λ i. e.bars i ++ bars i)

  pub expiry-same : (n : ℕ) → SameMasters w (after_expiry w r n) (after_expiry w s n)
  expiry-same n = if-same (is_none (expire_refusal w r n)) (is_none (expire_refusal w s n)) (ap is_none (expire-same w r s e n)) (expired-same n) e

  -- ---- packets

  pub heard-same : (p : Packet) → SameMasters w (heard w r p) (heard w s p)
  unfolding heard
  heard-same (packet.Pending a) = ask-same w r s e a
  heard-same (packet.Poll a) = ask-same w r s e a
  heard-same (packet.Done a bytes) = done-same w r s e a bytes
  heard-same (packet.Failed a) = failed-same a
  heard-same (packet.Ended c) = ended-same c
  heard-same (packet.Where c m) = where-same c
  heard-same (packet.FetchLost c a) = fetch-lost-same c a
  heard-same _ = e

  pub delivered-same : (p : Packet) → SameMasters w (delivered w r p) (delivered w s p)
  unfolding delivered
  delivered-same (packet.NodeUp n i) = if-same (is_over r.work) (is_over s.work) (ap is_over e.work) e (node-up-same n i)
  delivered-same p = if-same (is_running r.work) (is_running s.work) (ap is_running e.work) (heard-same p) e

  -- ---- a launch

  launch-on : (t : TaskId) (n : ℕ) → SameMasters w (with_launch (tell r t task_call.Launches) (next_attempt w r t) (launched_as w r n)) (with_launch (tell s t task_call.Launches) (next_attempt w s t) (launched_as w s n))
  launch-on t n =
      let told = told-same w r s e t task_call.Launches in
      let next = next-same w r s e t in
      let as' = as-same w r s e n in
      record {
        work = e.work;
        tasks = told.tasks;
        launched = λ i. e.launched i ++ (next i, as' i) ∷ [];
        killed = e.killed;
        known = e.known;
        earlier = e.earlier;
        due = λ i. e.due i ++ AttemptStarted (next i) n ∷ [];
        tail = e.tail;
        bars = e.bars;
      }

  pub launched-same : (t : TaskId) (n : ℕ) → SameMasters w (after_launch w r t n) (after_launch w s t n)
  launched-same t n = if-same (is_none (launch_refusal w r t n)) (is_none (launch_refusal w s t n)) (ap is_none (refusal-same w r s e t n)) (launch-on t n) e
