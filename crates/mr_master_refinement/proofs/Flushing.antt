-- A flush that was done: what it sends, which containers were then sent a Kill, and what tasks hear.
use Rattle.std.proofs.Common.{ℕ, ◌≡◌, refl, sym, ◌∙◌, ap, subst, Bool, true, false, ◌&&◌, ◌||◌, not, List, [], ◌∷◌, ◌++◌, append-nil, Option, Some, None, if◌then◌else◌, is_some, ◌⊎◌, inl, inr}
use Rattle.std.proofs.lemmas.List.Concat.{flat_map-cons}
use Rattle.mr_ids.specs.Attempt.{Attempt}
use Rattle.mr_ids.specs.declared.id.TaskId.{TaskId}
use Rattle.mr_grant.specs.Attempts as grant
use Rattle.mr_history.specs.declared.record.Record.{Record}
use Rattle.mr_history.specs.declared.record.Record.TheVariants.{AttemptStarted, MapSucceeded, ReduceSucceeded, AttemptFailed, JobUnsuccessful}
use Rattle.mr_packet.specs.declared.packet.Packet.TheVariants as packet
use Rattle.mr_packet.specs.declared.packet.ContainerId.{ContainerId}
use Rattle.mr_task.specs.Calls as task_call
use Rattle.mr_task.specs.Calls.{TaskCall}
use Rattle.mr_task.specs.Readings as task
use Rattle.mr_master_model.specs.declared.setting.Setting.{Setting}
use Rattle.mr_master_model.specs.Job as job
use Rattle.mr_master_model.specs.Readings as read
use Rattle.mr_master_model.specs.Answered.{recorded, tell_recorded, success_in}
use Rattle.mr_master_model.specs.Sends as sends
use Rattle.mr_master_model.specs.Sends.{killed_by}
use Rattle.mr_world_model.specs.Ids.{is_reduce, attempt_eq, task_eq, container_eq}
use Rattle.mr_world_model.specs.Packets.{Config}
use Rattle.mr_world_model.specs.Hearing.{Seen, Launched, is_live, is_over, find_launched, has_container}
use Rattle.mr_world_model.specs.Duties.{Master_step, seen, success_of, successes, rivals, all_rivals}
use Rattle.mr_world_model.specs.Sending.{to_all, kills_of, wins, flush_each}
use Rattle.mr_world_model.specs.Effect as cluster
use Rattle.mr_world_model.specs.Claims.{In}
use Rattle.mr_world_model.specs.Calls.{Calls, tell, tell_each, of_task}
use Rattle.mr_world_model.specs.Made.{AllMade, TellsOf}
use Rattle.mr_world_model.proofs.Lists.{Each, Each-In, In-has, In-left, In-right, In-parts}
use Rattle.mr_world_model.proofs.Made.{all-fit, all-of-job}
use Rattle.mr_world_model.proofs.Maps as maps
use Rattle.mr_master_refinement.specs.Steps.{setting}
use Rattle.mr_master_refinement.specs.Points.{Alike, in_order}
use Rattle.mr_master_refinement.proofs.Answering.{to-all-is}
use Rattle.mr_master_refinement.proofs.Held.{told-same}
use Rattle.mr_master_refinement.proofs.Points.{tells, task-test, job-is}
use Rattle.mr_master_refinement.proofs.Still.{steady, tails}
use Rattle.mr_master_refinement.proofs.Launches.{AllAlike, places}
use Rattle.mr_master_refinement.proofs.Kills.{Sent_to, or-turn, kills-note, killed-append, all-quiet, sent-append, rivals-append, rival-kills}

-- ---- what a success makes of the tasks

abbrev pub SameCalls : Config → ℕ → Calls → Calls → Type 0
SameCalls cfg k c d = (u : TaskId) → job.is_task (setting cfg k) u ≡ true → Alike (task.seen u k (c u)) (task.seen u k (d u))

told-one : (w : Setting) (x : read.Seen) (o : Option Attempt) (c : TaskId → List TaskCall) → record (tell_recorded w x o) { calls = c } ≡ record x { calls = c }
told-one w x None c = refl
told-one w x (Some a) c = by (job.is_task w a.task)
  where
    by : (b : Bool) → record (if b then read.tell x a.task (task_call.Records a) else x) { calls = c } ≡ record x { calls = c }
    by true = refl
    by false = refl

-- what is recorded changes nothing but what tasks hear
pub recorded-is : (w : Setting) (x : read.Seen) (rs : List Record) → recorded w x rs ≡ record x { calls = (recorded w x rs).calls }
unfolding recorded
recorded-is w x [] = refl
recorded-is w x (r ∷ rs) = recorded-is w (tell_recorded w x (success_in r)) rs ∙ told-one w x (success_in r) (recorded w (tell_recorded w x (success_in r)) rs).calls

pub recorded-alike : (cfg : Config) (k : ℕ) (rs : List Record) → Each (TellsOf cfg k) rs → (c : Calls) (x : read.Seen) → SameCalls cfg k c x.calls →
    SameCalls cfg k (tell_each (λ a. task_call.Records a) (successes rs) c) (recorded (setting cfg k) x rs).calls
unfolding recorded
recorded-alike cfg k [] e c x o = o
recorded-alike cfg k (MapSucceeded a n i ∷ rs) e c x o =
    subst (λ (b : Bool). SameCalls cfg k (tell_each (λ a. task_call.Records a) (successes rs) (tell a.task (task_call.Records a) c)) (recorded (setting cfg k) (if b then read.tell x a.task (task_call.Records a) else x) rs).calls)
    (sym (task-test cfg k a.task ∙ e.0.0.1))
    (recorded-alike cfg k rs e.1 (tell a.task (task_call.Records a) c) (read.tell x a.task (task_call.Records a)) (λ u t. told-same k a.task u (task_call.Records a) (c u) (x.calls u) (o u t)))
recorded-alike cfg k (ReduceSucceeded a z ∷ rs) e c x o =
    subst (λ (b : Bool). SameCalls cfg k (tell_each (λ a. task_call.Records a) (successes rs) (tell a.task (task_call.Records a) c)) (recorded (setting cfg k) (if b then read.tell x a.task (task_call.Records a) else x) rs).calls)
    (sym (task-test cfg k a.task ∙ e.0.0.1))
    (recorded-alike cfg k rs e.1 (tell a.task (task_call.Records a) c) (read.tell x a.task (task_call.Records a)) (λ u t. told-same k a.task u (task_call.Records a) (c u) (x.calls u) (o u t)))
recorded-alike cfg k (AttemptStarted a n ∷ rs) e c x o = recorded-alike cfg k rs e.1 c x o
recorded-alike cfg k (AttemptFailed a ∷ rs) e c x o = recorded-alike cfg k rs e.1 c x o
recorded-alike cfg k (JobUnsuccessful ∷ rs) e c x o = recorded-alike cfg k rs e.1 c x o

-- ---- lists

success-in : (rs : List Record) (r : Record) (a : Attempt) → In r rs → In a (success_of r) → In a (successes rs)
success-in [] r a i j = absurd i
success-in (x ∷ rs) r a (inl e) j = In-left a (success_of x) (successes rs) (subst (λ y. In a (success_of y)) (sym e) j)
success-in (x ∷ rs) r a (inr i) j = In-right a (success_of x) (successes rs) (success-in rs r a i j)

in-rivals : (s : Seen) (a : Attempt) (ls : List Launched) (l : Launched) → In l (rivals s a ls) → In l ls
in-rivals s a [] l i = i
in-rivals s a (x ∷ ls) l i = by (is_live s x.attempt && (not (attempt_eq a x.attempt) && task_eq a.task x.attempt.task)) i (in-rivals s a ls l)
  where
    last : In l (rivals s a ls) ⊎ In l (x ∷ []) → (In l (rivals s a ls) → In l ls) → In l (x ∷ ls)
    last (inl j) go = inr (go j)
    last (inr (inl e)) go = inl e
    last (inr (inr j)) go = absurd j

    by : (b : Bool) → In l (if b then rivals s a ls ++ x ∷ [] else rivals s a ls) → (In l (rivals s a ls) → In l ls) → In l (x ∷ ls)
    by true j go = last (In-parts l (rivals s a ls) (x ∷ []) j) go
    by false j go = inr (go j)

in-all-rivals : (s : Seen) (as' : List Attempt) (l : Launched) → In l (all_rivals s as') → In l s.launched
in-all-rivals s [] l i = absurd i
in-all-rivals s (a ∷ as') l i = by (In-parts l (rivals s a s.launched) (all_rivals s as') i) (in-all-rivals s as' l)
  where
    by : In l (rivals s a s.launched) ⊎ In l (all_rivals s as') → (In l (all_rivals s as') → In l s.launched) → In l s.launched
    by (inl j) go = in-rivals s a s.launched l j
    by (inr j) go = go j

pub has-both : (xs ys : List ContainerId) (c : ContainerId) → has_container (xs ++ ys) c ≡ (has_container xs c || has_container ys c)
has-both [] ys c = refl
has-both (x ∷ xs) ys c = ap (λ b. container_eq c x || b) (has-both xs ys c) ∙ assoc (container_eq c x) (has_container xs c) (has_container ys c)
  where
    assoc : (x y z : Bool) → (x || (y || z)) ≡ ((x || y) || z)
    assoc true y z = refl
    assoc false y z = refl

wins-quiet : (n : ℕ) (r : Record) (g : ℕ → Bool) → killed_by (wins n (r ∷ [])) g ≡ g
unfolding killed_by
wins-quiet n (ReduceSucceeded a z) g = killed-append (to_all n (packet.Won a.task a)) [] g ∙ all-quiet n a.task a g
wins-quiet n (MapSucceeded a m i) g = refl
wins-quiet n (AttemptStarted a m) g = refl
wins-quiet n (AttemptFailed a) g = refl
wins-quiet n JobUnsuccessful g = refl

and-never : (x y : Bool) → (x && (false && y)) ≡ false
and-never true y = refl
and-never false y = refl

-- ---- what it sends

module _ (cfg : Config) (k : ℕ) (h : List Master_step) (m : read.Seen) (made : AllMade cfg k h) (order : m.launched ≡ in_order (seen cfg k h).launched) (alike : AllAlike cfg k h m) where
  abbrev W : Setting
  W = setting cfg k

  abbrev S : Seen
  S = seen cfg k h

  map-dead : (a : Attempt) → cluster.is_task cfg a.task ≡ true → is_reduce a ≡ false → In a (successes S.tail) → is_live S a ≡ false
  map-dead a e q i =
      let j = job-is cfg a.task e in
      let there = (maps.both cfg k h a.task q j (all-fit cfg k h made) (all-of-job cfg k h made)).maps.tails a refl (In-has (successes S.tail) a i) in
      sym ((tells cfg k h a.task made j).live a refl)
      ∙ (ap (λ b. grant.has (of_task cfg k h a.task).arrived a && (not b && not (task.is_over (of_task cfg k h a.task).ended a))) there ∙ and-never (grant.has (of_task cfg k h a.task).arrived a) (not (task.is_over (of_task cfg k h a.task).ended a)))

  reduce-dead : (a : Attempt) (z : Option ℕ) → In (ReduceSucceeded a z) S.tail → is_live S a ≡ false
  reduce-dead a z i = ap (λ b. is_some (find_launched S.launched a) && (not b && not (is_over S.ended a))) (In-has S.accepted a ((steady cfg k h made).tails a z i).0) ∙ and-never (is_some (find_launched S.launched a)) (not (is_over S.ended a))

  record-sent : (r : Record) → In r S.tail → sends.wins W r ++ sends.kills_beside W m (success_in r) ≡ wins cfg.nodes (r ∷ []) ++ kills_of (all_rivals S (success_of r))
  record-sent (MapSucceeded a n i) u =
      let o = Each-In (TellsOf cfg k) S.tail (tails cfg k h made) (MapSucceeded a n i) u in
      rival-kills cfg k h m made order alike a o.0.1 (map-dead a o.0.1 o.1 (success-in S.tail (MapSucceeded a n i) a u (inl refl))) ∙ ap kills_of (sym (append-nil (rivals S a S.launched)))
  record-sent (ReduceSucceeded a z) u =
      let o = Each-In (TellsOf cfg k) S.tail (tails cfg k h made) (ReduceSucceeded a z) u in
      let all = to-all-is cfg.nodes (packet.Won a.task a) ∙ sym (append-nil (to_all cfg.nodes (packet.Won a.task a))) in
      let kills = rival-kills cfg k h m made order alike a o.0.1 (reduce-dead a z u) ∙ ap kills_of (sym (append-nil (rivals S a S.launched))) in
      λ i. all i ++ kills i
  record-sent (AttemptStarted a n) u = refl
  record-sent (AttemptFailed a) u = refl
  record-sent JobUnsuccessful u = refl

  each-sent : (rs : List Record) → ((r : Record) → In r rs → In r S.tail) → sends.flush_sends W m rs ≡ flush_each cfg.nodes S rs
  each-sent [] o = refl
  each-sent (r ∷ rs) o = flat_map-cons (λ r. sends.wins W r ++ sends.kills_beside W m (success_in r)) r rs ∙ (let one = record-sent r (o r (inl refl)) in let rest = each-sent rs (λ x i. o x (inr i)) in λ i. one i ++ rest i)

  pub flush-sent : m.tail ≡ S.tail → sends.flush_sends W m m.tail ≡ flush_each cfg.nodes S S.tail
  flush-sent t = ap (λ rs. sends.flush_sends W m rs) t ∙ each-sent S.tail (λ r i. i)

  -- ---- which containers were then sent a Kill

  each-notes : (rs : List Record) (g : ℕ → Bool) (n : ℕ) → killed_by (flush_each cfg.nodes S rs) g n ≡ (Sent_to k (all_rivals S (successes rs)) n || g n)
  unfolding killed_by
  each-notes [] g n = refl
  each-notes (r ∷ rs) g n =
      let here = wins cfg.nodes (r ∷ []) ++ kills_of (all_rivals S (success_of r)) in
      ap (λ f. f n) (killed-append here (flush_each cfg.nodes S rs) g)
      ∙ (each-notes rs (killed_by here g) n
      ∙ (ap (λ b. Sent_to k (all_rivals S (successes rs)) n || b) one
      ∙ (or-turn (Sent_to k (all_rivals S (successes rs)) n) (Sent_to k (all_rivals S (success_of r)) n) (g n)
      ∙ ap (λ b. b || g n) (sym (ap (λ ls. Sent_to k ls n) (rivals-append S (success_of r) (successes rs)) ∙ sent-append k (all_rivals S (success_of r)) (all_rivals S (successes rs)) n)))))
    where
      one : killed_by (wins cfg.nodes (r ∷ []) ++ kills_of (all_rivals S (success_of r))) g n ≡ (Sent_to k (all_rivals S (success_of r)) n || g n)
      one = ap (λ f. f n) (killed-append (wins cfg.nodes (r ∷ [])) (kills_of (all_rivals S (success_of r))) g)
          ∙ (ap (λ f. killed_by (kills_of (all_rivals S (success_of r))) f n) (wins-quiet cfg.nodes r g)
          ∙ kills-note k (all_rivals S (success_of r)) g n (λ l i. (places cfg k h made).0.apps l (in-all-rivals S (success_of r) l i)))

  pub flush-notes : (g : ℕ → Bool) (n : ℕ) → killed_by (flush_each cfg.nodes S S.tail) g n ≡ (Sent_to k (all_rivals S (successes S.tail)) n || g n)
  flush-notes g n = each-notes S.tail g n
