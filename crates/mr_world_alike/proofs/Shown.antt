-- What is read off two masters that are alike is the same.
use Rattle.std.proofs.Common.{◌≡◌, ℕ, ◌+◌, ◌&&◌, not, nat_eq, nat_le, nat_lt, List, [], ◌∷◌, filter, flat_map, length, slice_get, Option, Some, None, is_some, refl, ap, ◌∙◌, if◌then◌else◌}
use Rattle.std.specs.Map.{lookup}
use Rattle.std.specs.List.{list_all, find}
use Rattle.std.specs.Option.{option_map}
use Rattle.mr_ids.specs.Attempt.{Attempt}
use Rattle.mr_ids.specs.declared.id.TaskId.{TaskId}
use Rattle.mr_ids.specs.declared.id.TaskKind.{TaskKind}
use Rattle.mr_ids.specs.declared.id.TaskKind.TheVariants.{Map, Reduce}
use Rattle.mr_grant.specs.Attempts.{same_attempt, has}
use Rattle.mr_task.specs.Readings as task
use Rattle.mr_packet.specs.declared.packet.ContainerId.{ContainerId}
use Rattle.mr_names.specs.declared.op.Op.TheVariants as op
use Rattle.mr_history.specs.declared.record.Record.{Record}
use Rattle.mr_recover.specs.Plan.{winners_among}
use Rattle.mr_master_model.specs.declared.launch.Launch.{Launch}
use Rattle.mr_master_model.specs.declared.phase.LaunchFault.TheVariants.{NotRunning, NoTask, NoNode}
use Rattle.mr_master_model.specs.declared.phase.DutyName.TheVariants as name
use Rattle.mr_master_model.specs.declared.setting.Setting.{Setting}
use Rattle.mr_master_model.specs.declared.store.StoreCall.TheVariants as call
use Rattle.mr_master_model.specs.Job.{is_task, all_reduces}
use Rattle.mr_master_model.specs.Past.{Work, LooksForSuccess, LooksForFail, LooksForStarted, Reads, SetsUp, TakesOver, Runs, CommitsJob, TellsSuccess, TellsFail, AbortsCommit, Fails, Ends, Stops}
use Rattle.mr_master_model.specs.Readings.{Seen, Place, is_running, of_task, is_known, launch_of, if_known, launched_in, is_live, succeeded, all_succeeded, place_in, place_by, place_of, newest_in, lies_below, lies_on, launched_below, launched_on, if_passes, by_task, launch_refusal, expire_refusal, launched_as, next_attempt, or_else}
use Rattle.mr_master_model.specs.Hearing.{dead_below, lost_below, of_maps, is_attempt, is_lost_map, is_spent, given_up, given_up_of_maps, lost_on, new_bars}
use Rattle.mr_master_model.specs.Duty.{bar_duty, record_duty, creates, started_mark, start_duty, abort_duty, duty_at, duty}
use Rattle.mr_master_model.specs.Answered.{taken, taken_of, winners}
use Rattle.mr_world_alike.specs.Masters.{SameMasters}
use Rattle.mr_world_alike.proofs.Tasks.{SameReads, reads}

module _ (w : Setting) (r s : Seen) (e : SameMasters w r s) where
  pub reads-at : (t : TaskId) → SameReads (of_task w r t) (of_task w s t)
  reads-at t = reads t w.app (r.calls t) (s.calls t) (e.tasks t)

  pub known-same : (a : Attempt) → is_known w r a ≡ is_known w s a
  known-same a = let q = reads-at a.task in λ i. is_task w a.task && has (q.arrived i) a

  pub launch-same : (a : Attempt) → launch_of w r a ≡ launch_of w s a
  launch-same a = let k = known-same a in λ i. if k i then lookup (same_attempt a) (e.launched i) else None

  if-known-same : (o : Option (Attempt × Launch)) → if_known w r o ≡ if_known w s o
  if-known-same None = refl
  if-known-same (Some p) = let k = known-same p.0 in λ i. if k i then Some p else None

  pub in-same : (c : ContainerId) → launched_in w r c ≡ launched_in w s c
  in-same c =
      let found : if_known w r (slice_get r.launched c.number) ≡ if_known w s (slice_get s.launched c.number) =
      if-known-same (slice_get r.launched c.number) ∙ ap (λ (l : List (Attempt × Launch)). if_known w s (slice_get l c.number)) e.launched in
      λ i. if nat_eq c.app w.app then found i else None

  pub live-same : (a : Attempt) → is_live w r a ≡ is_live w s a
  live-same a = let q = reads-at a.task in q.live a

  pub succeeded-same : (t : TaskId) → succeeded w r t ≡ succeeded w s t
  succeeded-same t = let q = reads-at t in q.succeeded

  pub lives-same : (t : TaskId) → task.live (of_task w r t) ≡ task.live (of_task w s t)
  lives-same t = let q = reads-at t in λ i. filter (λ a. q.live a i) (q.arrived i)

  pub all-same : (ts : List TaskId) → all_succeeded w r ts ≡ all_succeeded w s ts
  all-same ts = λ i. list_all (λ t. is_some (succeeded-same t i)) ts

  pub place-same : (a : Attempt) → place_of w r a ≡ place_of w s a
  place-same a = let l = launch-same a in λ i. place_by (l i) (place_in (e.earlier i) a)

  pub refusal-same : (t : TaskId) (n : ℕ) → launch_refusal w r t n ≡ launch_refusal w s t n
  refusal-same t n = let q = reads-at t in λ i.
      if not (is_running (e.work i)) then Some NotRunning else
      if not (is_task w t) then Some NoTask else
      if not (nat_lt n w.nodes) then Some NoNode else
      by_task (q.refusal i)

  pub expire-same : (n : ℕ) → expire_refusal w r n ≡ expire_refusal w s n
  expire-same n = λ i.
      if not (is_running (e.work i)) then Some NotRunning else
      if not (nat_lt n w.nodes) then Some NoNode else None

  pub next-same : (t : TaskId) → next_attempt w r t ≡ next_attempt w s t
  next-same t = let q = reads-at t in λ i. record { task = t; number = task.first_attempt_number w.app + q.numbered i }

  pub as-same : (n : ℕ) → launched_as w r n ≡ launched_as w s n
  as-same n = λ i. record { container = record { app = w.app; number = length (e.launched i) }; node = n; incarnation = e.known n i }

  pub spent-same : (t : TaskId) → is_spent w r t ≡ is_spent w s t
  spent-same t = let q = reads-at t in λ i. not (q.won i) && nat_le w.limit (q.failures i)

  pub dead-same : (n i : ℕ) (t : TaskId) → dead_below w r n i t ≡ dead_below w s n i t
  dead-same n i t = let q = lives-same t in λ j. filter (λ a. launched_below n i (launch-same a j)) (q j)

  pub lost-same : (n i : ℕ) (t : TaskId) → lost_below w r n i t ≡ lost_below w s n i t
  lost-same n i t = let q = succeeded-same t in λ j. of_maps t.kind (if_passes (λ a. lies_below n i (place-same a j)) (q j))

  pub lost-map-same : (a : Attempt) (k : TaskKind) → is_lost_map w r a k ≡ is_lost_map w s a k
  lost-map-same a Map = let q = succeeded-same a.task in λ i. is_task w a.task && is_attempt (q i) a
  lost-map-same a Reduce = refl

  pub given-same : (n : ℕ) (t : TaskId) → given_up w r n t ≡ given_up w s n t
  given-same n t = let q = lives-same t in λ j. filter (λ a. launched_on n (launch-same a j)) (q j)

  pub given-maps-same : (n : ℕ) (t : TaskId) → given_up_of_maps w r n t ≡ given_up_of_maps w s n t
  given-maps-same n t = let q = given-same n t in λ j. of_maps t.kind (q j)

  pub lost-on-same : (n : ℕ) (t : TaskId) → lost_on w r n t ≡ lost_on w s n t
  lost-on-same n t = let q = succeeded-same t in λ j. of_maps t.kind (if_passes (λ a. lies_on n (place-same a j)) (q j))

  pub bars-same : (n : ℕ) → new_bars w r n ≡ new_bars w s n
  bars-same n = λ j. filter (λ a. not (has (e.bars j) a)) (flat_map (λ t. given-same n t j) (all_reduces w))

  pub winners-same : winners w r ≡ winners w s
  winners-same = λ i. winners_among (e.earlier i) (all_reduces w)

  taken-at : (o : Option (Attempt × Place)) → taken r o ≡ taken s o
  taken-at None = refl
  taken-at (Some p) = let q = e.known p.1.node in λ i. if nat_lt p.1.incarnation (q i) then [] else p.0 ∷ []

  pub taken-same : (t : TaskId) → taken_of r t ≡ taken_of s t
  taken-same t =
      let q : taken r (newest_in r.earlier t) ≡ taken s (newest_in s.earlier t) =
      taken-at (newest_in r.earlier t) ∙ ap (λ (l : List Record). taken s (newest_in l t)) e.earlier in
      λ i. of_maps t.kind (q i)

  -- ---- the next store call

  pub first-bar-same : find (is_live w r) r.bars ≡ find (is_live w s) s.bars
  first-bar-same = λ i. find (λ a. live-same a i) (e.bars i)

  pub bar-duty-same : bar_duty w r ≡ bar_duty w s
  bar-duty-same = λ i. option_map (λ a. record { name = name.Bar; call = call.Names (op.Bar a) }) (first-bar-same i)

  start-same : start_duty w r ≡ start_duty w s
  start-same = let q = all-same (all_reduces w) in λ i. if q i then creates name.Started started_mark else None

  pub duty-at-same : (x : Work) → duty_at w r x ≡ duty_at w s x
  unfolding duty_at
  duty-at-same LooksForSuccess = refl
  duty-at-same LooksForFail = refl
  duty-at-same LooksForStarted = refl
  duty-at-same Reads = refl
  duty-at-same (SetsUp left) = refl
  duty-at-same (TakesOver winner left others) = refl
  duty-at-same Runs = λ i. or_else (bar-duty-same i) (or_else (record_duty (e.due i) (e.tail i)) (start-same i))
  duty-at-same (CommitsJob left) = refl
  duty-at-same TellsSuccess = refl
  duty-at-same TellsFail = refl
  duty-at-same AbortsCommit = refl
  duty-at-same (Fails is_stable) = λ i. or_else (record_duty (e.due i) (e.tail i)) (if is_stable then abort_duty w else None)
  duty-at-same (Ends succeeded) = refl
  duty-at-same Stops = refl

  pub duty-same : duty w r ≡ duty w s
  duty-same = duty-at-same r.work ∙ ap (λ (x : Work). duty_at w s x) e.work
