-- What a master has seen: what is read off its past. What concerns one task is the list of the calls that the task got, read off
-- by the words of tasks: who is over, named, accepted, live, how many failed.
--
-- Apache Hadoop's MapReduce application master (MRAppMaster, JobImpl, TaskImpl, CommitterEventHandler) is restated here. There is one
-- master at a time, and it keeps what it needs to start again in a job history. It launches attempts, says which may commit, and commits
-- the job once all tasks are done. That a map whose node is lost runs again is Dean and Ghemawat, section 3.3. Generations' numbers,
-- incarnations, bars and the order of duties are our own profile.
use Rattle.std.specs.Prelude.{ℕ, Bool, true, false, ◌&&◌, not, nat_eq, nat_lt, List, [], ◌∷◌, ◌++◌, filter, length, slice_get, Option, Some, None, is_some, is_none, if◌then◌else◌}
use Rattle.std.specs.Map.{lookup}
use Rattle.std.specs.List.{list_all, find}
use Rattle.mr_ids.specs.Attempt.{Attempt}
use Rattle.mr_ids.specs.Same.{same_task}
use Rattle.mr_ids.specs.declared.id.TaskId.{TaskId}
use Rattle.mr_grant.specs.Attempts.{same_attempt, has, first_of}
use Rattle.mr_task.specs.Calls.{TaskCall}
use Rattle.mr_task.specs.Readings as task
use Rattle.mr_task.specs.declared.fault.TaskFault.{TaskFault}
use Rattle.mr_packet.specs.declared.packet.ContainerId.{ContainerId}
use Rattle.mr_history.specs.declared.record.Record.{Record}
use Rattle.mr_history.specs.declared.record.Record.TheVariants.{AttemptStarted, MapSucceeded, ReduceSucceeded, AttemptFailed, JobUnsuccessful}
use Rattle.mr_master_model.specs.declared.launch.Launch.{Launch}
use Rattle.mr_master_model.specs.declared.phase.LaunchFault.{LaunchFault}
use Rattle.mr_master_model.specs.declared.phase.LaunchFault.TheVariants.{NotRunning, NoTask, NoNode, Task}
use Rattle.mr_master_model.specs.declared.setting.Setting.{Setting}
use Rattle.mr_master_model.specs.Job.{is_task, all_maps, all_reduces}
use Rattle.mr_master_model.specs.Past.{Work, LooksForSuccess, Runs, Ends, Stops}

pub record Seen : Type 0 where
  pub work : Work
  pub calls : TaskId → List TaskCall  -- what each task was told, the newest first
  pub launched : List (Attempt × Launch)  -- by the numbers of their containers, from 0
  pub killed : ℕ → Bool  -- to which containers, by their numbers, a Kill was sent
  pub known : ℕ → ℕ  -- the incarnations of the nodes
  pub earlier : List Record  -- what was read of the earlier segments
  pub due : List Record  -- what is to be appended, in order
  pub tail : List Record  -- what was appended and is not flushed, in order
  pub bars : List Attempt  -- each attempt whose bar was ever due, in order

abbrev pub opening : Seen
opening = record {
  work = LooksForSuccess;
  calls = λ t. [];
  launched = [];
  killed = λ n. false;
  known = λ n. 1;
  earlier = [];
  due = [];
  tail = [];
  bars = [];
}

-- ---- words

abbrev pub is_running : Work → Bool
is_running Runs = true
is_running _ = false

-- Ended or Stopped
abbrev pub is_over : Work → Bool
is_over (Ends succeeded) = true
is_over Stops = true
is_over _ = false

-- what was heard of task t
abbrev pub of_task : Setting → Seen → TaskId → task.Seen
of_task w s t = task.seen t w.app (s.calls t)

-- an attempt is known where its task, which is of the job, has it
abbrev pub is_known : Setting → Seen → Attempt → Bool
is_known w s a = is_task w a.task && has (of_task w s a.task).arrived a

-- what a known attempt was launched as, if this master launched it
abbrev pub launch_of : Setting → Seen → Attempt → Option Launch
launch_of w s a = if is_known w s a then lookup (same_attempt a) s.launched else None

abbrev pub if_known : Setting → Seen → Option (Attempt × Launch) → Option (Attempt × Launch)
if_known w s None = None
if_known w s (Some p) = if is_known w s p.0 then Some p else None

-- the attempt that container c was launched for
abbrev pub launched_in : Setting → Seen → ContainerId → Option (Attempt × Launch)
launched_in w s c = if nat_eq c.app w.app then if_known w s (slice_get s.launched c.number) else None

abbrev pub is_live : Setting → Seen → Attempt → Bool
is_live w s a = task.is_live (of_task w s a.task) a

-- the Succeeded attempt of a task
abbrev pub succeeded : Setting → Seen → TaskId → Option Attempt
succeeded w s t = task.succeeded (of_task w s t)

abbrev pub all_succeeded : Setting → Seen → List TaskId → Bool
all_succeeded w s ts = list_all (λ t. is_some (succeeded w s t)) ts

-- ---- where a map's output lies

pub record Place : Type 0 where
  pub node : ℕ
  pub incarnation : ℕ

abbrev pub or_else : {A : Type 0} → Option A → Option A → Option A
or_else (Some x) other = Some x
or_else None other = other

-- where the records say that the output of a map's attempt lies: by the last record of its success
abbrev pub place_in : List Record → Attempt → Option Place
place_in [] a = None
place_in (MapSucceeded b n i ∷ rs) a = or_else (place_in rs a) (if same_attempt a b then Some (record { node = n; incarnation = i }) else None)
place_in (ReduceSucceeded b bytes ∷ rs) a = place_in rs a
place_in (AttemptStarted b n ∷ rs) a = place_in rs a
place_in (AttemptFailed b ∷ rs) a = place_in rs a
place_in (JobUnsuccessful ∷ rs) a = place_in rs a

-- the newest success of map t that the records tell: the last one
abbrev pub newest_in : List Record → TaskId → Option (Attempt × Place)
newest_in [] t = None
newest_in (MapSucceeded b n i ∷ rs) t = or_else (newest_in rs t) (if same_task b.task t then Some (b, record { node = n; incarnation = i }) else None)
newest_in (ReduceSucceeded b bytes ∷ rs) t = newest_in rs t
newest_in (AttemptStarted b n ∷ rs) t = newest_in rs t
newest_in (AttemptFailed b ∷ rs) t = newest_in rs t
newest_in (JobUnsuccessful ∷ rs) t = newest_in rs t

abbrev pub place_by : Option Launch → Option Place → Option Place
place_by (Some l) other = Some (record { node = l.node; incarnation = l.incarnation })
place_by None other = other

-- an attempt's output lies where it was launched; that of one taken over where its record says
abbrev pub place_of : Setting → Seen → Attempt → Option Place
place_of w s a = place_by (launch_of w s a) (place_in s.earlier a)

-- on node n, in an incarnation below i
abbrev pub lies_below : ℕ → ℕ → Option Place → Bool
lies_below n i None = false
lies_below n i (Some p) = nat_eq p.node n && nat_lt p.incarnation i

abbrev pub lies_on : ℕ → Option Place → Bool
lies_on n None = false
lies_on n (Some p) = nat_eq p.node n

-- whether this master launched the attempt there
abbrev pub launched_below : ℕ → ℕ → Option Launch → Bool
launched_below n i None = false
launched_below n i (Some l) = nat_eq l.node n && nat_lt l.incarnation i

abbrev pub launched_on : ℕ → Option Launch → Bool
launched_on n None = false
launched_on n (Some l) = nat_eq l.node n

-- those of a task's live attempts that pass a test, in order of arrival
abbrev pub live_where : Setting → Seen → (Attempt → Bool) → TaskId → List Attempt
live_where w s test t = filter test (task.live (of_task w s t))

-- a task's Succeeded attempt, if it passes a test
abbrev pub if_passes : (Attempt → Bool) → Option Attempt → List Attempt
if_passes test None = []
if_passes test (Some a) = if test a then a ∷ [] else []

abbrev pub succeeded_where : Setting → Seen → (Attempt → Bool) → TaskId → List Attempt
succeeded_where w s test t = if_passes test (succeeded w s t)

-- ---- what changes

-- task t is told something
abbrev pub tell : Seen → TaskId → TaskCall → Seen
tell s t call = record s { calls = λ u. if same_task u t then call ∷ s.calls u else s.calls u }

abbrev pub told_each : (Attempt → TaskCall) → List Attempt → List TaskCall → List TaskCall
told_each call [] calls = calls
told_each call (a ∷ as') calls = told_each call as' (call a ∷ calls)

-- each task of the job is told of some of its attempts, in order
abbrev pub tell_each : Setting → Seen → (Attempt → TaskCall) → (TaskId → List Attempt) → Seen
tell_each w s call which = record s { calls = λ t. if is_task w t then told_each call (which t) (s.calls t) else s.calls t }

abbrev pub with_due : Seen → List Record → Seen
with_due s rs = record s { due = s.due ++ rs }

-- ---- launches and expiries

abbrev pub by_task : Option TaskFault → Option LaunchFault
by_task None = None
by_task (Some fault) = Some (Task fault)

-- why nothing is launched of task t on node n, memory aside
abbrev pub launch_refusal : Setting → Seen → TaskId → ℕ → Option LaunchFault
launch_refusal w s t n =
    if not (is_running s.work) then Some NotRunning else
    if not (is_task w t) then Some NoTask else
    if not (nat_lt n w.nodes) then Some NoNode else
    by_task (task.launch_refusal (of_task w s t))

-- why node n is not given up
abbrev pub expire_refusal : Setting → Seen → ℕ → Option LaunchFault
expire_refusal w s n =
    if not (is_running s.work) then Some NotRunning else
    if not (nat_lt n w.nodes) then Some NoNode else None

-- what the next launch on node n is: its container has the next number, its incarnation is the known one
abbrev pub launched_as : Setting → Seen → ℕ → Launch
launched_as w s n = record { container = record { app = w.app; number = length s.launched }; node = n; incarnation = s.known n }

abbrev pub next_attempt : Setting → Seen → TaskId → Attempt
next_attempt w s t = task.next_attempt t w.app (of_task w s t)

-- whether a task waits for a launch: no attempt is live, Recording or Succeeded, and there are numbers left
abbrev pub wants_launch : task.Seen → Bool
wants_launch r = is_none (first_of (task.live r)) && (not (task.is_won r) && nat_lt r.numbered 1000)

-- the first task that waits for a launch while the master is Running, maps first, a reduce only once every map is Succeeded
abbrev pub wanted : Setting → Seen → Option TaskId
wanted w s =
    if not (is_running s.work) then None else
    or_else (find (λ t. wants_launch (of_task w s t)) (all_maps w))
    (if all_succeeded w s (all_maps w) then find (λ t. wants_launch (of_task w s t)) (all_reduces w) else None)
