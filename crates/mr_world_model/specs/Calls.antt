-- What the machine of each task is told: the calls that the steps of a master make of it. What is read off these calls by the
-- words of tasks is what is read off the master's past: Agreement. Our own: it ties the cluster to the crates beneath it.
use Rattle.std.specs.Prelude.{◌≡◌, ℕ, ◌+◌, count_by, Bool, true, false, ◌&&◌, not, nat_eq, nat_lt, List, [], ◌∷◌, Option, Some, None, is_some, if◌then◌else◌}
use Rattle.mr_ids.specs.Generations.{first_attempt_number}
use Rattle.mr_grant.specs.Attempts as grant
use Rattle.mr_task.specs.Calls as task_call
use Rattle.mr_task.specs.Calls.{TaskCall}
use Rattle.mr_task.specs.Readings as task
use Rattle.mr_world_model.specs.Ids.{Attempt, TaskId, task_eq, is_reduce, of_reduces}
use Rattle.mr_world_model.specs.Content.{bar_of}
use Rattle.mr_world_model.specs.Packets.{Config, Packet, Pending, Poll, Done, Failed, Ended, NodeUp, FetchLost, Store, Names, Append_record, Flush, Read_history, Reply}
use Rattle.mr_world_model.specs.World.{count_of}
use Rattle.mr_world_model.specs.Effect.{live_count, task_fault}
use Rattle.mr_world_model.specs.Claims.{In}
use Rattle.mr_world_model.specs.Hearing.{Seen, Phase, Launched, Placed, Todo_winner, find_launched, find_container, has, has_container, is_over, is_live, may_accept, failures, is_won, named_in, is_running}
use Rattle.mr_world_model.specs.Records.{Record}
use Rattle.mr_world_model.specs.Duties.{rest_of, Master_step, Came, Launches, Expires, Asks, seen, is_fine, successes, newest_maps, attempts_of, phase_told, with_read, worked}

abbrev pub Calls : Type 0
Calls = TaskId → List TaskCall

-- task t is told something
abbrev pub tell : TaskId → TaskCall → Calls → Calls
tell t call c u = if task_eq t u then call ∷ c u else c u

-- the tasks of some attempts are told of them, in order
abbrev pub tell_each : (Attempt → TaskCall) → List Attempt → Calls → Calls
tell_each f [] c = c
tell_each f (a ∷ as') c = tell_each f as' (tell a.task (f a) c)

abbrev pub is_launched : Seen → Attempt → Bool
is_launched s a = is_some (find_launched s.launched a)

-- a task is told of an attempt that this master launched, and of no other
abbrev pub tell_launched : Seen → Attempt → TaskCall → Calls → Calls
tell_launched s a call c = if is_launched s a then tell a.task call c else c

abbrev pub tell_ended : Option Launched → Bool → Calls → Calls
tell_ended None was_asked c = c
tell_ended (Some l) was_asked c = tell l.attempt.task (task_call.Ends l.attempt was_asked) c

abbrev pub tell_barred : Option Attempt → Calls → Calls
tell_barred None c = c
tell_barred (Some a) c = tell a.task (task_call.Dies a) c

-- the attempts that were launched on a node below an incarnation
abbrev pub below : ℕ → ℕ → List Launched → List Attempt
below n i [] = []
below n i (l ∷ ls) = if nat_eq l.node n && nat_lt l.incarnation i then l.attempt ∷ below n i ls else below n i ls

-- the maps' attempts that were launched on a node
abbrev pub maps_on : ℕ → List Launched → List Attempt
maps_on n [] = []
maps_on n (l ∷ ls) = if nat_eq l.node n && not (is_reduce l.attempt) then l.attempt ∷ maps_on n ls else maps_on n ls

-- the maps' successes that a node's new incarnation, or its expiry, loses
abbrev pub lost_below : List Attempt → ℕ → ℕ → List Placed → List Attempt
lost_below rs n i [] = []
lost_below rs n i (p ∷ ps) = if has rs p.attempt && (nat_eq p.node n && nat_lt p.incarnation i) then p.attempt ∷ lost_below rs n i ps else lost_below rs n i ps

abbrev pub lost_on : List Attempt → ℕ → List Placed → List Attempt
lost_on rs n [] = []
lost_on rs n (p ∷ ps) = if has rs p.attempt && nat_eq p.node n then p.attempt ∷ lost_on rs n ps else lost_on rs n ps

unfoldable pub calls_heard : Seen → Packet → Calls → Calls
calls_heard s (Pending a) c = tell_launched s a (task_call.Asks a) c
calls_heard s (Poll a) c = tell_launched s a (task_call.Asks a) c
calls_heard s (Done a bytes) c = tell_launched s a (task_call.Reports a) c
calls_heard s (Failed a) c = tell a.task (task_call.Fails a) c
calls_heard s (Ended d) c = tell_ended (find_container s.launched d) (has_container s.killed d) c
calls_heard s (NodeUp n i) c =
    if nat_lt (s.known n) i
    then tell_each (λ a. task_call.Dies a) (below n i s.launched) (tell_each (λ a. task_call.Loses a) (lost_below s.recorded n i s.standing) c)
    else c
calls_heard s (FetchLost d a) c = if is_some (find_container s.launched d) then tell a.task (task_call.Loses a) c else c
calls_heard s _ c = c

abbrev pub winning : List Todo_winner → List Attempt
winning [] = []
winning (w ∷ ws) = w.attempt ∷ winning ws

-- what a history call, or a bar, tells where it was answered as it should
abbrev pub calls_worked : Seen → Store → Calls → Calls
calls_worked s (Append_record r) c = c
calls_worked s Flush c = tell_each (λ a. task_call.Records a) (successes s.tail) c
calls_worked s (Names op) c = tell_barred (bar_of op) c
calls_worked s Read_history c = c

-- from the start of Running on, each reduce's winner and each map's newest success are taken over
abbrev pub calls_phased : Phase → Seen → Calls → Calls
calls_phased p s c =
    if is_running p && not (is_running s.phase)
    then tell_each (λ a. task_call.Recovers a) (attempts_of (newest_maps s.known s.history [])) (tell_each (λ a. task_call.Recovers a) (winning s.winners) c)
    else c

abbrev pub calls_told : Config → ℕ → Seen → Store → Reply → Calls → Calls
calls_told cfg k s call r c =
    calls_phased (phase_told k s s.phase call r) (with_read cfg (if is_fine r then worked s call else s) call r)
    (if is_fine r then calls_worked s call c else c)

unfoldable pub next_calls : Config → ℕ → Seen → Master_step → Calls → Calls
next_calls cfg k s (Came p) c = if is_running s.phase then calls_heard s p c else c
next_calls cfg k s (Launches l) c = tell l.attempt.task task_call.Launches c
next_calls cfg k s (Expires n) c =
    tell_each (λ a. task_call.Dies a) (maps_on n s.launched) (tell_each (λ a. task_call.Loses a) (lost_on s.recorded n s.standing) c)
next_calls cfg k s (Asks call r) c = calls_told cfg k s call r c

-- the calls that the steps of a past make of each task
unfoldable pub calls : Config → ℕ → List Master_step → Calls
calls cfg k [] t = []
calls cfg k (x ∷ h) t = next_calls cfg k (seen cfg k h) x (calls cfg k h) t

-- what is read off the calls of task t
abbrev pub of_task : Config → ℕ → List Master_step → TaskId → task.Seen
of_task cfg k h t = task.seen t k (calls cfg k h t)

-- what is taken over: of earlier generations, maps as maps, winners of their own tasks
pub record TakenEarlier (k : ℕ) (s : Seen) : Type 0 where
  pub maps : (a : Attempt) → In a (attempts_of (newest_maps s.known s.history [])) → task.numbered_up_to k a ≡ 0
  pub are_maps : (a : Attempt) → In a (attempts_of (newest_maps s.known s.history [])) → is_reduce a ≡ false
  pub own : (w : Todo_winner) → In w s.winners → w.attempt.task ≡ w.task
  pub winners : (a : Attempt) → In a (winning s.winners) → task.numbered_up_to k a ≡ 0

-- each launch has the model's number, is made while Running and where the task has no fault; what is taken over fits
abbrev pub Fits : Config → ℕ → Seen → Calls → Master_step → Type 0
Fits cfg k s c (Launches l) =
    (l.attempt.number ≡ first_attempt_number k + count_of s.launched l.attempt.task)
    × ((is_running s.phase ≡ true) × (task_fault s l.attempt.task ≡ None))
Fits cfg k s c (Asks call r) = TakenEarlier k (with_read cfg (if is_fine r then worked s call else s) call r)
Fits cfg k s c (Came p) = Unit {0}
Fits cfg k s c (Expires n) = Unit {0}

abbrev pub AllFit : Config → ℕ → List Master_step → Type 0
AllFit cfg k [] = Unit {0}
AllFit cfg k (x ∷ h) = Fits cfg k (seen cfg k h) (calls cfg k h) x × AllFit cfg k h

-- What is read off a reduce's calls is what is read off the master's past: who is over, live, named, accepted, whose Done is, and how
-- many failed.
pub record ReduceAgrees (k : ℕ) (s : Seen) (t : TaskId) (r : task.Seen) : Type 0 where
  pub over : (a : Attempt) → a.task ≡ t → task.is_over r.ended a ≡ is_over s.ended a
  pub live : (a : Attempt) → a.task ≡ t → task.is_live r a ≡ is_live s a
  pub named : task.named r ≡ named_in s.asked s.ended t
  pub accepted : (a : Attempt) → a.task ≡ t → is_launched s a ≡ true → grant.has r.accepted a ≡ has s.accepted a
  pub accepts : (a : Attempt) → a.task ≡ t → task.may_accept r a ≡ may_accept s a
  pub next : task.next_attempt t k r ≡ record { task = t; number = first_attempt_number k + count_of s.launched t }
  pub live_ones : count_by (task.is_live r) r.arrived ≡ live_count s t s.launched
  pub won : is_running s.phase ≡ true → task.is_won r ≡ is_won s true t
  pub failures : (a : Attempt) → a.task ≡ t → task.failures r ≡ failures s.ended a

abbrev pub CallsAgree : Type 0
CallsAgree = (cfg : Config) (k : ℕ) (h : List Master_step) (t : TaskId) → of_reduces t.kind ≡ true → AllFit cfg k h
    → ReduceAgrees k (seen cfg k h) t (of_task cfg k h t)

-- what is taken over: the job's maps, and winners of reduces
pub record TakenHere (cfg : Config) (s : Seen) : Type 0 where
  pub maps : (a : Attempt) → In a (attempts_of (newest_maps s.known s.history [])) → a.task.job ≡ cfg.job
  pub winners : (a : Attempt) → In a (winning s.winners) → is_reduce a ≡ true

-- the record that is appended is the first that is due
abbrev pub AppendsDue : List Record → Store → Type 0
AppendsDue due (Append_record r) = due ≡ r ∷ rest_of due
AppendsDue due Flush = Unit {0}
AppendsDue due (Names op) = Unit {0}
AppendsDue due Read_history = Unit {0}

-- each launch is of a task of the job
abbrev pub IsOfJob : Config → ℕ → Seen → Master_step → Type 0
IsOfJob cfg k s (Launches l) = l.attempt.task.job ≡ cfg.job
IsOfJob cfg k s (Asks call r) = AppendsDue s.due call × TakenHere cfg (with_read cfg (if is_fine r then worked s call else s) call r)
IsOfJob cfg k s (Came p) = Unit {0}
IsOfJob cfg k s (Expires n) = Unit {0}

abbrev pub AllOfJob : Config → ℕ → List Master_step → Type 0
AllOfJob cfg k [] = Unit {0}
AllOfJob cfg k (x ∷ h) = IsOfJob cfg k (seen cfg k h) x × AllOfJob cfg k h

-- What is read off a map's calls is what is read off the master's past. It is as for a reduce, with what stands and what is recorded in
-- place of who is named.
pub record MapAgrees (k : ℕ) (s : Seen) (t : TaskId) (r : task.Seen) : Type 0 where
  pub over : (a : Attempt) → a.task ≡ t → task.is_over r.ended a ≡ is_over s.ended a
  pub live : (a : Attempt) → a.task ≡ t → task.is_live r a ≡ is_live s a
  pub accepted : (a : Attempt) → a.task ≡ t → is_launched s a ≡ true → grant.has r.accepted a ≡ has s.accepted a
  pub accepts : (a : Attempt) → a.task ≡ t → task.may_accept r a ≡ may_accept s a
  pub next : task.next_attempt t k r ≡ record { task = t; number = first_attempt_number k + count_of s.launched t }
  pub live_ones : count_by (task.is_live r) r.arrived ≡ live_count s t s.launched
  pub won : task.is_won r ≡ is_won s false t
  pub failures : (a : Attempt) → a.task ≡ t → task.failures r ≡ failures s.ended a
  pub stands : (a : Attempt) → a.task ≡ t → task.stands r a ≡ has (attempts_of s.standing) a
  pub recorded : (a : Attempt) → a.task ≡ t → grant.has r.recorded a ≡ has s.recorded a

abbrev pub MapCallsAgree : Type 0
MapCallsAgree = (cfg : Config) (k : ℕ) (h : List Master_step) (t : TaskId) → of_reduces t.kind ≡ false → t.job ≡ cfg.job → AllFit cfg k h → AllOfJob cfg k h
    → MapAgrees k (seen cfg k h) t (of_task cfg k h t)
