-- Two masters that are alike send the same at each step, and stay so. What is read of each is a path over what is read of its tasks (`Tasks.reads`), with the
-- body of the definition.
use Rattle.std.proofs.Common.{◌≡◌, ℕ, ◌||◌, List, [], ◌∷◌, ◌++◌, flat_map, Option, Some, None, is_none, is_some, refl, ap, ◌∙◌, if◌then◌else◌}
use Rattle.std.specs.List.{find}
use Rattle.mr_ids.specs.Attempt.{Attempt}
use Rattle.mr_ids.specs.declared.id.TaskId.{TaskId}
use Rattle.mr_ids.specs.declared.id.TaskKind.TheVariants.{Map}
use Rattle.mr_packet.specs.declared.packet.ContainerId.{ContainerId}
use Rattle.mr_packet.specs.declared.packet.Packet.{Packet}
use Rattle.mr_packet.specs.declared.packet.Packet.TheVariants as packet
use Rattle.mr_packet.specs.Sends.{to_node, to_container}
use Rattle.mr_master_model.specs.declared.launch.Launch.{Launch}
use Rattle.mr_master_model.specs.declared.phase.DutyName.{DutyName}
use Rattle.mr_master_model.specs.declared.phase.DutyName.TheVariants as name
use Rattle.mr_master_model.specs.declared.setting.Setting.{Setting}
use Rattle.mr_master_model.specs.declared.store.StoreAnswer.{StoreAnswer}
use Rattle.mr_master_model.specs.Job.{is_task, task_of, all_maps, all_tasks}
use Rattle.mr_master_model.specs.Past.{Step, Hears, Launches, Expires, Answered, Work, TakesOver, Runs, Fails}
use Rattle.mr_master_model.specs.Readings.{Seen, is_running, launch_of, launched_in, is_live, succeeded}
use Rattle.mr_master_model.specs.Hearing.{after_ask, heard}
use Rattle.mr_master_model.specs.Duty.{Duty, duty}
use Rattle.mr_master_model.specs.Answered.{is_fine, success_in, work_after}
use Rattle.mr_master_model.specs.Sends.{kill_at, kill_of, kills_of, kill_all, answer_to, pending_answer, ack_to, ready_at, ready_by, ready_to, replies, wins, kills_beside, flush_sends, bar_sends, duty_sends, due_sends, work_sends, outcome_of, answer_sends, launch_sends, expiry_sends, killed_by}
use Rattle.mr_master_model.specs.Next.{moved, sent_by, next_seen, seen}
use Rattle.mr_world_alike.specs.Masters.{SameMasters}
use Rattle.mr_world_alike.proofs.Shown.{reads-at, launch-same, in-same, lives-same, succeeded-same, place-same, refusal-same, expire-same, next-same, as-same, given-maps-same, first-bar-same, duty-same}
use Rattle.mr_world_alike.proofs.Heard.{ask-same, heard-same, delivered-same, launched-same, expiry-same}
use Rattle.mr_world_alike.proofs.Answering.{work-same, answered-same}

module _ (w : Setting) (r s : Seen) (e : SameMasters w r s) where
  kill-same : (a : Attempt) → kill_of w r a ≡ kill_of w s a
  kill-same a = let l = launch-same w r s e a in λ i. kill_at (l i)

  kills-same : (t : TaskId) → kills_of w r t ≡ kills_of w s t
  kills-same t = let l = lives-same w r s e t in λ i. if is_task w t then flat_map (λ a. kill-same a i) (l i) else []

  pub kill-all-same : kill_all w r ≡ kill_all w s
  kill-all-same = λ i. flat_map (λ t. kills-same t i) (all_tasks w)

  -- ---- answers to what is heard

  ack-same : (a : Attempt) (o : Option Launch) → ack_to w r a o ≡ ack_to w s a o
  ack-same a None = refl
  ack-same a (Some l) = let q = reads-at w r s e a.task in λ i. if q.accepted a i || q.accepts a i then to_container l.container (packet.DoneAck a) ∷ [] else []

  acks-same : (a : Attempt) → ack_to w r a (launch_of w r a) ≡ ack_to w s a (launch_of w s a)
  acks-same a = ack-same a (launch_of w r a) ∙ ap (λ (o : Option Launch). ack_to w s a o) (launch-same w r s e a)

  ready-by-same : (c : ContainerId) (m : ℕ) (o : Option Attempt) → ready_by w r c m o ≡ ready_by w s c m o
  ready-by-same c m None = refl
  ready-by-same c m (Some a) = let q = place-same w r s e a in λ i. ready_at c m a (q i)

  ready-same : (c : ContainerId) (m : ℕ) (o : Option (Attempt × Launch)) → ready_to w r c m o ≡ ready_to w s c m o
  ready-same c m None = refl
  ready-same c m (Some p) = ready-by-same c m (succeeded w r (task_of w Map m)) ∙ ap (λ (o : Option Attempt). ready_by w s c m o) (succeeded-same w r s e (task_of w Map m))

  readies-same : (c : ContainerId) (m : ℕ) → ready_to w r c m (launched_in w r c) ≡ ready_to w s c m (launched_in w s c)
  readies-same c m = ready-same c m (launched_in w r c) ∙ ap (λ (o : Option (Attempt × Launch)). ready_to w s c m o) (in-same w r s e c)

  pending-same : (a : Attempt) → pending_answer w r a ≡ pending_answer w s a
  pending-same a =
      let l = launch-same w r s e a in
      let q = reads-at w (after_ask r a (launch_of w r a)) (after_ask s a (launch_of w s a)) (ask-same w r s e a) a.task in
      λ i. answer_to a (l i) (q.named a i)

  -- ---- answers of store calls

  beside-same : (o : Option Attempt) → kills_beside w r o ≡ kills_beside w s o
  beside-same None = refl
  beside-same (Some a) = kills-same a.task

  flush-same : flush_sends w r r.tail ≡ flush_sends w s s.tail
  flush-same = λ i. flat_map (λ x. wins w x ++ beside-same (success_in x) i) (e.tail i)

  bar-same : (o : Option Attempt) → bar_sends w r o ≡ bar_sends w s o
  bar-same None = refl
  bar-same (Some a) = kill-same a

  duty-sends-same : (n : DutyName) → duty_sends w r n ≡ duty_sends w s n
  duty-sends-same name.Bar = bar-same (find (is_live w r) r.bars) ∙ ap (λ (o : Option Attempt). bar_sends w s o) (first-bar-same w r s e)
  duty-sends-same name.Flush = flush-same
  duty-sends-same _ = refl

  due-at : (o : Option Duty) → due_sends w r o ≡ due_sends w s o
  due-at None = refl
  due-at (Some d) = duty-sends-same d.name

  due-same : due_sends w r (duty w r) ≡ due_sends w s (duty w s)
  due-same = due-at (duty w r) ∙ ap (λ (o : Option Duty). due_sends w s o) (duty-same w r s e)

  work-sends-same : (a : StoreAnswer) (x : Work) → work_sends w r a x ≡ work_sends w s a x
  unfolding work_sends
  work-sends-same a (TakesOver x left others) = refl
  work-sends-same a Runs = let q = due-same in λ i. if is_fine a then q i else []
  work-sends-same a (Fails is_stable) = let q = due-same in λ i. if is_fine a then q i else []
  work-sends-same a _ = refl

  answer-same : (a : StoreAnswer) → answer_sends w r a ≡ answer_sends w s a
  answer-same a =
      let d = duty-same w r s e in
      let x : work_sends w r a r.work ≡ work_sends w s a s.work = work-sends-same a r.work ∙ ap (λ (v : Work). work_sends w s a v) e.work in
      let y : work_after w r a r.work ≡ work_after w s a s.work = work-same w r s e a r.work ∙ ap (λ (v : Work). work_after w s a v) e.work in
      λ i. if is_some (d i) then x i ++ outcome_of w (y i) else []

  -- ---- launches and expiries

  launch-sends-same : (t : TaskId) (n : ℕ) → launch_sends w r t n ≡ launch_sends w s t n
  launch-sends-same t n =
      let f = refusal-same w r s e t n in
      let l = as-same w r s e n in
      let a = next-same w r s e t in
      λ i. if is_none (f i) then to_node n (packet.Launch (l i).container (a i) (l i).incarnation) ∷ [] else []

  expiry-sends-same : (n : ℕ) → expiry_sends w r n ≡ expiry_sends w s n
  expiry-sends-same n =
      let f = expire-same w r s e n in
      λ i. if is_none (f i) then flat_map (λ a. kill-same a i) (flat_map (λ t. given-maps-same w r s e n t i) (all_maps w)) else []

module _ (w : Setting) (r s : Seen) (e : SameMasters w r s) where
  failed-sends : (p : Packet) → (if is_running (heard w r p).work then [] else kill_all w (heard w r p)) ≡ (if is_running (heard w s p).work then [] else kill_all w (heard w s p))
  failed-sends p =
      let h = heard-same w r s e p in
      let k = kill-all-same w (heard w r p) (heard w s p) h in
      λ i. if is_running (h.work i) then [] else k i

  replies-same : (p : Packet) → replies w r (heard w r p) p ≡ replies w s (heard w s p) p
  unfolding replies
  replies-same (packet.Pending a) = pending-same w r s e a
  replies-same (packet.Poll a) = pending-same w r s e a
  replies-same (packet.Done a bytes) = acks-same w r s e a
  replies-same (packet.Failed a) = failed-sends (packet.Failed a)
  replies-same (packet.Ended c) = failed-sends (packet.Ended c)
  replies-same (packet.Where c m) = readies-same w r s e c m
  replies-same _ = refl

  pub sent-same : (x : Step) → sent_by w r x ≡ sent_by w s x
  unfolding sent_by
  sent-same (Hears p) = let q = replies-same p in λ i. if is_running (e.work i) then q i else []
  sent-same (Launches t n) = launch-sends-same w r s e t n
  sent-same (Expires n) = expiry-sends-same w r s e n
  sent-same (Answered a) = answer-same w r s e a

  moved-same : (x : Step) → SameMasters w (moved w r x) (moved w s x)
  unfolding moved
  moved-same (Hears p) = delivered-same w r s e p
  moved-same (Launches t n) = launched-same w r s e t n
  moved-same (Expires n) = expiry-same w r s e n
  moved-same (Answered a) = answered-same w r s e a

  pub next-step : (x : Step) → SameMasters w (next_seen w r x) (next_seen w s x)
  unfolding next_seen
  next-step x =
      let q = sent-same x in
      let m = moved-same x in
      record {
        work = m.work;
        tasks = m.tasks;
        launched = m.launched;
        killed = λ n. λ i. killed_by (q i) (λ k. m.killed k i) n;
        known = m.known;
        earlier = m.earlier;
        due = m.due;
        tail = m.tail;
        bars = m.bars;
      }

pub step-same : (w : Setting) (g h : List Step) (x : Step) → SameMasters w (seen w g) (seen w h) → SameMasters w (seen w (x ∷ g)) (seen w (x ∷ h))
unfolding seen
step-same w g h x e = next-step w (seen w g) (seen w h) e x
