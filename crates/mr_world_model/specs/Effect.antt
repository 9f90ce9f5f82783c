-- What each part of the world is after an event, when an event is taken, and a run (our own profile).
use Rattle.std.specs.Prelude.{ℕ, suc, Bool, true, false, ◌&&◌, ◌||◌, not, nat_eq, nat_lt, nat_le, List, [], ◌∷◌, ◌++◌, Option, Some, None, if◌then◌else◌, is_some, is_none, length, slice_get}
use Rattle.mr_world_model.specs.Ids.{Attempt, ContainerId, TaskId, is_reduce, task_eq, container_eq, TaskKind, Map, Reduce, of_reduces, same_job}
use Rattle.mr_world_model.specs.Packets.{Config, Packet, Master, Node, Envelope, Address, Container}
use Rattle.mr_mapside.specs.Cutting.{cut}
use Rattle.mr_world_model.specs.Content.{Content}
use Rattle.mr_world_model.specs.Records.{History, with_segment, with_version, sealed_below, sealed}
use Rattle.mr_world_model.specs.Pasts.{Node_got, Node_step, Place, Restarted, Shelved, Step, To_compute, Wish}
use Rattle.mr_world_model.specs.Hearing.{Launched, Seen, is_live, is_running, is_won}
use Rattle.mr_world_model.specs.Duties.{Master_step}
use Rattle.mr_world_model.specs.World.{Calm, Compute, ContainerStep, Container_act, Crash, Deliver, Die, Duty, Event, Expire, LaunchOn, Made, Master_act, NodeRestart, Obeyed, Start, Weather, World, barred_left, call_of, container_act, count_of, duty, ends, is_applied, master_act, names_left, obeyed, op_of, seen_by, segment_left, wish_of}
use Rattle.mr_world_model.specs.Sending.{sent}
pub use Rattle.mr_world_events.specs.declared.why.Why.{Why}
pub use Rattle.mr_world_events.specs.declared.why.Why.TheVariants.{WrongGeneration, NoMaster, NoDuty, NotRunning, NoTask, NoNode, NoPacket, NoAddressee, NoContainer, WrongWish, NoStoreCall, NotBlocks, Task}
pub use Rattle.mr_task.specs.declared.fault.TaskFault.{TaskFault}
pub use Rattle.mr_task.specs.declared.fault.TaskFault.TheVariants.{AlreadyWon, TooManyLive, TooManyAttempts}

-- What each part of the world is after an event that is taken

abbrev pub content_after : World → Option Made → Content
content_after w None = w.content
content_after w (Some m) = if is_applied w m.app m.fault then names_left w.content m.call else w.content

abbrev pub barred_after : World → Option Made → List Attempt
barred_after w None = w.barred
barred_after w (Some m) = if is_applied w m.app m.fault then barred_left w.barred m.call else w.barred

abbrev pub history_called : World → Option Made → History
history_called w None = w.history
history_called w (Some m) = if is_applied w m.app m.fault then with_segment w.history m.app (segment_left (w.history m.app) m.call) else w.history

-- the version that a generation writes
abbrev pub version_of : Config → ℕ → ℕ
version_of cfg k = if nat_le cfg.v2_from k then 2 else 1

abbrev pub history_after : Config → World → Event → Option Made → History
history_after cfg w (Start k kept) m = with_version (version_of cfg k) k (sealed_below k kept w.history)
history_after cfg w (Crash k kept) m = with_segment w.history k (sealed kept (w.history k))
history_after cfg w _ m = history_called w m

abbrev pub fence_after : World → Event → ℕ
fence_after w (Start k kept) = k
fence_after w _ = w.fence

abbrev pub with_master_step : (ℕ → List Master_step) → Option Master_act → ℕ → List Master_step
with_master_step f None k = f k
with_master_step f (Some a) k = if nat_eq k a.who then a.step ∷ f k else f k

abbrev pub with_container_step : (ContainerId → List Step) → Option Container_act → ContainerId → List Step
with_container_step f None c = f c
with_container_step f (Some a) c = if container_eq c a.who then a.step ∷ f c else f c

abbrev pub with_place : (ContainerId → Option Place) → Option Obeyed → ContainerId → Option Place
with_place f None c = f c
with_place f (Some o) c = if container_eq c o.container then Some o.place else f c

abbrev pub is_master_after : World → Event → ℕ → Bool
is_master_after w (Start k kept) j = nat_eq j k || w.is_master j
is_master_after w (Crash k kept) j = not (nat_eq j k) && w.is_master j
is_master_after w _ j = w.is_master j

abbrev pub is_obeyed : Option Obeyed → ContainerId → Bool
is_obeyed None c = false
is_obeyed (Some o) c = container_eq c o.container

abbrev pub got_at_node : Option Envelope → ℕ → List Node_step → List Node_step
got_at_node None n h = h
got_at_node (Some e) n h = to e.to e.body
  where
    to : Address → Packet → List Node_step
    to (Master k) p = h
    to (Container c) p = h
    to (Node m) p = if nat_eq n m then Node_got p ∷ h else h

abbrev pub shelved : Option Place → List ℕ → ℕ → List Node_step → List Node_step
shelved None bytes n h = h
shelved (Some p) bytes n h = if not (is_reduce p.attempt) && nat_eq n p.node then Shelved p.attempt bytes ∷ h else h

unfoldable pub node_past_after : World → Event → ℕ → List Node_step
node_past_after w (Deliver i) n = got_at_node (slice_get w.bag i) n (w.node_past n)
node_past_after w (Compute c bytes) n = shelved (w.place c) bytes n (w.node_past n)
node_past_after w (NodeRestart m) n = if nat_eq n m then Restarted ∷ w.node_past n else w.node_past n
node_past_after w _ n = w.node_past n

abbrev pub effect : Config → World → Event → World
effect cfg w e = record {
  content = content_after w (call_of cfg w e);
  fence = fence_after w e;
  barred = barred_after w (call_of cfg w e);
  history = history_after cfg w e (call_of cfg w e);
  bag = w.bag ++ sent cfg w e;
  master_past = with_master_step w.master_past (master_act cfg w e);
  container_past = with_container_step w.container_past (container_act cfg w e);
  node_past = node_past_after w e;
  place = with_place w.place (obeyed w e);
  is_master = is_master_after w e;
  is_alive = λ c. (is_obeyed (obeyed w e) c || w.is_alive c) && not (ends cfg w e c);
}

-- Permission

abbrev pub unless : Bool → Why → Option Why → Option Why
unless true why rest = rest
unless false why rest = Some why

abbrev pub live_count : Seen → TaskId → List Launched → ℕ
live_count s t [] = 0
live_count s t (l ∷ ls) = if is_live s l.attempt && task_eq l.attempt.task t then suc (live_count s t ls) else live_count s t ls

abbrev pub tasks_of : Config → TaskKind → ℕ
tasks_of cfg Reduce = cfg.reduces
tasks_of cfg Map = length cfg.splits

-- a task of the cluster's job
abbrev pub is_task : Config → TaskId → Bool
is_task cfg t = same_job t.job cfg.job && nat_lt t.number (tasks_of cfg t.kind)

abbrev pub task_fault : Seen → TaskId → Option Why
task_fault s t =
    unless (not (is_won s (of_reduces t.kind) t)) (Task AlreadyWon)
    (unless (nat_lt (live_count s t s.launched) 2) (Task TooManyLive)
    (unless (nat_lt (count_of s.launched t) 1000) (Task TooManyAttempts) None))

abbrev pub addressee : World → Option Envelope → Option Why
addressee w None = Some NoPacket
addressee w (Some e) = to e.to
  where
    to : Address → Option Why
    to (Master k) = unless (w.is_master k) NoAddressee None
    to (Container c) = unless (w.is_alive c) NoAddressee None
    to (Node n) = None

abbrev pub wants_compute : Wish → Bool
wants_compute To_compute = true
wants_compute _ = false

abbrev pub is_calm : Weather → Bool
is_calm Calm = true
is_calm _ = false

abbrev pub is_blocks : Config → Option Place → List ℕ → Bool
is_blocks cfg None bytes = false
is_blocks cfg (Some p) bytes = (is_reduce p.attempt) || is_some (cut cfg.reduces bytes)

-- why an event is not taken now, or none
unfoldable pub not_now : Config → World → Event → Option Why
not_now cfg w (Start k kept) = unless (nat_eq k (suc w.fence)) WrongGeneration None
not_now cfg w (Crash k kept) = unless (w.is_master k) NoMaster None
not_now cfg w (Duty k f) = unless (w.is_master k) NoMaster (unless (is_some (duty cfg w k)) NoDuty None)
not_now cfg w (LaunchOn k t n) =
    unless (w.is_master k) NoMaster (unless (is_running (seen_by cfg w k).phase) NotRunning
    (unless (is_task cfg t) NoTask (unless (nat_lt n cfg.nodes) NoNode (task_fault (seen_by cfg w k) t))))
not_now cfg w (Deliver i) = addressee w (slice_get w.bag i)
not_now cfg w (ContainerStep c f) =
    unless (w.is_alive c) NoContainer (unless (not (wants_compute (wish_of cfg w c))) WrongWish
    (unless (is_calm f || is_some (op_of cfg w c)) NoStoreCall None))
not_now cfg w (Compute c bytes) =
    unless (w.is_alive c) NoContainer (unless (wants_compute (wish_of cfg w c)) WrongWish
    (unless (is_blocks cfg (w.place c) bytes) NotBlocks None))
not_now cfg w (Die c) = unless (w.is_alive c) NoContainer None
not_now cfg w (NodeRestart n) = unless (nat_lt n cfg.nodes) NoNode None
not_now cfg w (Expire k n) =
    unless (w.is_master k) NoMaster (unless (is_running (seen_by cfg w k).phase) NotRunning (unless (nat_lt n cfg.nodes) NoNode None))

-- an event that is not permitted, or would pass a limit, adds nothing. (Here limits are any test)
unfoldable pub happens : Config → (World → Event → Bool) → World → Event → World
happens cfg within w e = if is_none (not_now cfg w e) && within w e then effect cfg w e else w

-- the world after a list of events
unfoldable pub run : Config → (World → Event → Bool) → World → List Event → World
run cfg within w [] = w
run cfg within w (e ∷ es) = run cfg within (happens cfg within w e) es
