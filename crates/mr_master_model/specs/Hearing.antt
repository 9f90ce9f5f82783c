-- What each packet, a launch and an expiry change.
-- commitPending, canCommit and done restate Hadoop's task umbilical protocol, lost outputs Dean and Ghemawat 3.3. Expiry and bars are our own
-- profile.
use Rattle.std.specs.Prelude.{ℕ, Bool, true, false, ◌&&◌, not, nat_eq, nat_lt, nat_le, List, [], ◌∷◌, ◌++◌, filter, flat_map, Option, Some, None, is_none, if◌then◌else◌}
use Rattle.mr_ids.specs.Attempt.{Attempt}
use Rattle.mr_ids.specs.declared.id.TaskId.{TaskId}
use Rattle.mr_ids.specs.declared.id.TaskKind.{TaskKind}
use Rattle.mr_ids.specs.declared.id.TaskKind.TheVariants.{Map, Reduce}
use Rattle.mr_grant.specs.Attempts.{same_attempt, has}
use Rattle.mr_task.specs.Calls.{TaskCall}
use Rattle.mr_task.specs.Calls as task_call
use Rattle.mr_task.specs.Readings as task
use Rattle.mr_packet.specs.declared.packet.ContainerId.{ContainerId}
use Rattle.mr_packet.specs.declared.packet.Packet.{Packet}
use Rattle.mr_packet.specs.declared.packet.Packet.TheVariants as packet
use Rattle.mr_history.specs.declared.record.Record.{Record}
use Rattle.mr_history.specs.declared.record.Record.TheVariants.{AttemptStarted, MapSucceeded, ReduceSucceeded, AttemptFailed, JobUnsuccessful}
use Rattle.mr_master_model.specs.declared.launch.Launch.{Launch}
use Rattle.mr_master_model.specs.declared.setting.Setting.{Setting}
use Rattle.mr_master_model.specs.Job.{is_task, all_reduces}
use Rattle.mr_master_model.specs.Past.{Fails}
use Rattle.mr_master_model.specs.Readings.{Seen, is_running, is_over, of_task, is_live, launch_of, launched_in, succeeded, place_of, lies_below, lies_on, launched_below, launched_on, live_where, succeeded_where, tell, tell_each, with_due, launch_refusal, expire_refusal, launched_as, next_attempt}

-- ---- Pending, Poll

abbrev pub after_ask : Seen → Attempt → Option Launch → Seen
after_ask s a None = s
after_ask s a (Some l) = tell s a.task (task_call.Asks a)

-- ---- Done: where it is accepted, its record is due, for a reduce with the length

abbrev pub success_of : TaskKind → Attempt → Launch → Option ℕ → Record
success_of Map a l bytes = MapSucceeded a l.node l.incarnation
success_of Reduce a l bytes = ReduceSucceeded a bytes

abbrev pub after_done : Setting → Seen → Attempt → Option ℕ → Option Launch → Seen
after_done w s a bytes None = s
after_done w s a bytes (Some l) =
    if task.may_accept (of_task w s a.task) a
    then with_due (tell s a.task (task_call.Reports a)) (success_of a.task.kind a l bytes ∷ [])
    else tell s a.task (task_call.Reports a)

-- ---- Failed, Ended: where the attempt becomes Failed by it, its record is due. Where its task, which is then not won, has failed as often
-- as the limit, the job fails

abbrev pub is_spent : Setting → Seen → TaskId → Bool
is_spent w s t = not (task.is_won (of_task w s t)) && nat_le w.limit (task.failures (of_task w s t))

abbrev pub after_failure : Setting → Seen → Attempt → Seen
after_failure w s a =
    if is_spent w s a.task
    then record s { due = s.due ++ AttemptFailed a ∷ JobUnsuccessful ∷ []; work = Fails false }
    else record s { due = s.due ++ AttemptFailed a ∷ [] }

abbrev pub after_end : Setting → Seen → Attempt → TaskCall → Bool → Seen
after_end w s a call is_failure =
    if is_failure && is_live w s a
    then after_failure w (tell s a.task call) a
    else tell s a.task call

abbrev pub after_failed : Setting → Seen → Attempt → Option Launch → Seen
after_failed w s a None = s
after_failed w s a (Some l) = after_end w s a (task_call.Fails a) true

-- whether the container was asked to stop: whether a Kill was sent to it
abbrev pub after_ended : Setting → Seen → ContainerId → Option (Attempt × Launch) → Seen
after_ended w s c None = s
after_ended w s c (Some p) = after_end w s p.0 (task_call.Ends p.0 (s.killed c.number)) (not (s.killed c.number))

-- ---- NodeUp: a greater incarnation is known from then on. While Running, the live attempts that were launched on the node in a lower one
-- are killed. The Succeeded maps whose output lies there in a lower one are lost

abbrev pub with_known : Seen → ℕ → ℕ → Seen
with_known s n i = record s { known = λ m. if nat_eq m n then i else s.known m }

abbrev pub dead_below : Setting → Seen → ℕ → ℕ → TaskId → List Attempt
dead_below w s n i t = live_where w s (λ a. launched_below n i (launch_of w s a)) t

-- only outputs of maps lie on a node: of a reduce the list is empty
abbrev pub of_maps : TaskKind → List Attempt → List Attempt
of_maps Map as' = as'
of_maps Reduce as' = []

abbrev pub lost_below : Setting → Seen → ℕ → ℕ → TaskId → List Attempt
lost_below w s n i t = of_maps t.kind (succeeded_where w s (λ a. lies_below n i (place_of w s a)) t)

abbrev pub after_restart : Setting → Seen → ℕ → ℕ → Seen
after_restart w s n i = tell_each w (tell_each w s (λ a. task_call.Dies a) (dead_below w s n i)) (λ a. task_call.Loses a) (lost_below w s n i)

abbrev pub after_node_up : Setting → Seen → ℕ → ℕ → Seen
after_node_up w s n i =
    if not (nat_lt (s.known n) i) then s else
    if is_running s.work then with_known (after_restart w s n i) n i else with_known s n i

-- ---- Where: its attempt is heard of

abbrev pub after_where : Seen → Option (Attempt × Launch) → Seen
after_where s None = s
after_where s (Some p) = tell s p.0.task (task_call.Hears p.0)

-- ---- FetchLost: if a is its map's Succeeded attempt, its output is lost

abbrev pub is_attempt : Option Attempt → Attempt → Bool
is_attempt None a = false
is_attempt (Some b) a = same_attempt b a

abbrev pub is_lost_map : Setting → Seen → Attempt → TaskKind → Bool
is_lost_map w s a Map = is_task w a.task && is_attempt (succeeded w s a.task) a
is_lost_map w s a Reduce = false

abbrev pub after_fetch_lost : Setting → Seen → Attempt → Option (Attempt × Launch) → Seen
after_fetch_lost w s a None = s
after_fetch_lost w s a (Some p) = if is_lost_map w s a a.task.kind then tell s a.task (task_call.Loses a) else s

-- ---- all packets

-- a packet that is heard while Running, NodeUp aside
unfoldable pub heard : Setting → Seen → Packet → Seen
heard w s (packet.Pending a) = after_ask s a (launch_of w s a)
heard w s (packet.Poll a) = after_ask s a (launch_of w s a)
heard w s (packet.Done a bytes) = after_done w s a bytes (launch_of w s a)
heard w s (packet.Failed a) = after_failed w s a (launch_of w s a)
heard w s (packet.Ended c) = after_ended w s c (launched_in w s c)
heard w s (packet.Where c m) = after_where s (launched_in w s c)
heard w s (packet.FetchLost c a) = after_fetch_lost w s a (launched_in w s c)
heard w s _ = s

-- NodeUp is heard in each phase but Ended and Stopped, all else in Running alone
unfoldable pub delivered : Setting → Seen → Packet → Seen
delivered w s (packet.NodeUp n i) = if is_over s.work then s else after_node_up w s n i
delivered w s p = if is_running s.work then heard w s p else s

-- ---- a launch: its record is due

abbrev pub with_launch : Seen → Attempt → Launch → Seen
with_launch s a l = record s { launched = s.launched ++ (a, l) ∷ []; due = s.due ++ AttemptStarted a l.node ∷ [] }

abbrev pub after_launch : Setting → Seen → TaskId → ℕ → Seen
after_launch w s t n =
    if is_none (launch_refusal w s t n)
    then with_launch (tell s t task_call.Launches) (next_attempt w s t) (launched_as w s n)
    else s

-- ---- an expiry: the live maps' attempts that were launched on the node are killed, and the Succeeded maps whose output lies there are
-- lost. Of each live reduce's attempt that was launched there a bar is due, if none was

abbrev pub given_up : Setting → Seen → ℕ → TaskId → List Attempt
given_up w s n t = live_where w s (λ a. launched_on n (launch_of w s a)) t

abbrev pub given_up_of_maps : Setting → Seen → ℕ → TaskId → List Attempt
given_up_of_maps w s n t = of_maps t.kind (given_up w s n t)

abbrev pub lost_on : Setting → Seen → ℕ → TaskId → List Attempt
lost_on w s n t = of_maps t.kind (succeeded_where w s (λ a. lies_on n (place_of w s a)) t)

-- by reduce number, then arrival
abbrev pub new_bars : Setting → Seen → ℕ → List Attempt
new_bars w s n = filter (λ a. not (has s.bars a)) (flat_map (given_up w s n) (all_reduces w))

abbrev pub expired : Setting → Seen → ℕ → Seen
expired w s n =
    record (tell_each w (tell_each w s (λ a. task_call.Dies a) (given_up_of_maps w s n)) (λ a. task_call.Loses a) (lost_on w s n)) {
      bars = s.bars ++ new_bars w s n;
    }

abbrev pub after_expiry : Setting → Seen → ℕ → Seen
after_expiry w s n = if is_none (expire_refusal w s n) then expired w s n else s
