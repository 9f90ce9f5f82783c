-- The store calls of a master, their answers, its phases and its duties. They are setupJob, recoverTask, commitJob and abortJob of Hadoop's OutputCommitter (algorithm
-- version 1), call by call. They stand between the marks COMMIT_STARTED, COMMIT_SUCCESS and COMMIT_FAIL of its application master. That a started commit is not resumed,
-- that recovery looks through all earlier generations, and that each mark's fault stops the master are our own profile.
use Rattle.std.specs.Prelude.{ℕ, zero, suc, ◌-◌, Bool, true, false, ◌&&◌, ◌||◌, not, nat_eq, nat_lt, nat_le, List, [], ◌∷◌, ◌++◌, Option, Some, None, if◌then◌else◌, is_some, length}
use Rattle.mr_world_model.specs.Ids.{Attempt, Path, Name, JobId, TaskId, reduce_of, task_eq, temporary_name, attempt_eq, name_eq, committed, job_attempt, part_name, dest, temporary, marker, commit_started, commit_success, commit_fail}
use Rattle.mr_world_model.specs.Content.{Op, MkDirs, Create, Delete, Rename, ListDir, Exist, Read, Bar, bar_of, Missing, Superseded, Kind, Listed}
use Rattle.mr_world_model.specs.Records.{Record, AttemptStarted, MapSucceeded, ReduceSucceeded, AttemptFailed, JobUnsuccessful, winner_in, length_in}
use Rattle.mr_world_model.specs.Packets.{Config, Packet, Store, Names, Append_record, Flush, Read_history, Reply, Fine, Found, Entries, Bytes, Records, Refused}
use Rattle.mr_world_model.specs.Hearing.{Aborting, Cleaning, Clear_own, Commit_step, Committing, Delete_then, Failing, Failing_mark, Finished, Launched, List_into, List_job, Look_at, Look_below, Marking, Measure, Merge_step, Merging, Move_from, Move_to, Opening, Phase, Placed, Recover_step, Recovering, Running, Seen, Setting_up, Stopped, Succeeding, Todo_winner, accepts_task, after_bar, containers_of, expired, has_winner, heard, is_live, is_running, only_known}
use Rattle.mr_names_tree.specs.declared.node.Kind.TheVariants as kinds

pub data Master_step : Type 0 where
  Came : (p : Packet) → Master_step
  Launches : (l : Launched) → Master_step
  Expires : (n : ℕ) → Master_step
  Asks : (call : Store) → (r : Reply) → Master_step

abbrev pub is_unsuccessful : List Record → Bool
is_unsuccessful [] = false
is_unsuccessful (JobUnsuccessful ∷ rs) = true
is_unsuccessful (AttemptStarted a n ∷ rs) = is_unsuccessful rs
is_unsuccessful (MapSucceeded a n i ∷ rs) = is_unsuccessful rs
is_unsuccessful (ReduceSucceeded a bytes ∷ rs) = is_unsuccessful rs
is_unsuccessful (AttemptFailed a ∷ rs) = is_unsuccessful rs

-- the tail has something that a flush is for
abbrev pub wants_flush : List Record → Bool
wants_flush [] = false
wants_flush (JobUnsuccessful ∷ rs) = true
wants_flush (MapSucceeded a n i ∷ rs) = true
wants_flush (ReduceSucceeded a bytes ∷ rs) = true
wants_flush (AttemptStarted a n ∷ rs) = wants_flush rs
wants_flush (AttemptFailed a ∷ rs) = wants_flush rs

abbrev pub one_winner : TaskId → Option ℕ → Option Attempt → List Todo_winner
one_winner t bytes None = []
one_winner t bytes (Some a) = record { task = t; attempt = a; bytes = bytes } ∷ []

-- the winners of the first n reduces, rising
unfoldable pub winners_of : List Record → JobId → ℕ → List Todo_winner
winners_of rs j zero = []
winners_of rs j (suc n) = winners_of rs j n ++ one_winner (reduce_of j n) (length_in rs (reduce_of j n)) (winner_in rs (reduce_of j n))

abbrev pub without_task : TaskId → List Placed → List Placed
without_task m [] = []
without_task m (p ∷ ps) = if task_eq p.attempt.task m then without_task m ps else p ∷ without_task m ps

-- the newest success of each map, unless its node has restarted since
unfoldable pub newest_maps : (ℕ → ℕ) → List Record → List Placed → List Placed
newest_maps known [] ps = ps
newest_maps known (MapSucceeded a n i ∷ rs) ps =
    newest_maps known rs (if nat_lt i (known n) then without_task a.task ps else record { attempt = a; node = n; incarnation = i } ∷ without_task a.task ps)
newest_maps known (AttemptStarted a n ∷ rs) ps = newest_maps known rs ps
newest_maps known (ReduceSucceeded a bytes ∷ rs) ps = newest_maps known rs ps
newest_maps known (AttemptFailed a ∷ rs) ps = newest_maps known rs ps
newest_maps known (JobUnsuccessful ∷ rs) ps = newest_maps known rs ps

abbrev pub is_fine : Reply → Bool
is_fine Fine = true
is_fine _ = false

-- done, or there was nothing to delete
abbrev pub is_cleared : Reply → Bool
is_cleared Fine = true
is_cleared (Refused Missing) = true
is_cleared _ = false

abbrev pub looked : ℕ → Reply → Phase
looked n (Found (Some kind)) = Finished (nat_eq n 0)
looked n (Found None) = Opening (suc n)
looked n _ = Stopped

abbrev pub was_read : Reply → Phase
was_read (Records rs) = if is_unsuccessful rs then Failing true else Setting_up
was_read _ = Stopped

abbrev pub recover_rest : ℕ → List Todo_winner → Phase
recover_rest k [] = Running
recover_rest k (w ∷ ws) = if nat_le k 1 then Stopped else Recovering (w ∷ ws) (Look_below (k - 1))

-- a length that was recorded is compared first
abbrev pub found_at : List Todo_winner → ℕ → Recover_step
found_at [] j = Clear_own j
found_at (w ∷ ws) j = if is_some w.bytes then Measure j else Clear_own j

abbrev pub is_length : Option ℕ → ℕ → Bool
is_length None n = false
is_length (Some b) n = nat_eq b n

abbrev pub right_length : List Todo_winner → List ℕ → Bool
right_length [] bytes = false
right_length (w ∷ ws) bytes = is_length w.bytes (length bytes)

abbrev pub recovering : ℕ → List Todo_winner → Recover_step → Reply → Phase
recovering k ws (Look_below j) (Found (Some kind)) = Recovering ws (found_at ws j)
recovering k ws (Look_below j) (Found None) = if nat_le j 1 then Stopped else Recovering ws (Look_below (j - 1))
recovering k ws (Look_below j) _ = Stopped
recovering k ws (Measure j) (Bytes bytes) = if right_length ws bytes then Recovering ws (Clear_own j) else Stopped
recovering k ws (Measure j) _ = Stopped
recovering k ws (Clear_own j) r = if is_cleared r then Recovering ws (Move_from j) else Stopped
recovering k [] (Move_from j) r = Stopped
recovering k (w ∷ ws) (Move_from j) r = if is_fine r then recover_rest k ws else Stopped

abbrev pub rest_of : List Record → List Record
rest_of [] = []
rest_of (r ∷ rs) = rs

abbrev pub success_of : Record → List Attempt
success_of (MapSucceeded a n i) = a ∷ []
success_of (ReduceSucceeded a bytes) = a ∷ []
success_of (AttemptStarted a n) = []
success_of (AttemptFailed a) = []
success_of JobUnsuccessful = []

abbrev pub successes : List Record → List Attempt
successes [] = []
successes (r ∷ rs) = success_of r ++ successes rs

-- the other live attempts of a task, the oldest first
abbrev pub rivals : Seen → Attempt → List Launched → List Launched
rivals s a [] = []
rivals s a (l ∷ ls) =
    if is_live s l.attempt && (not (attempt_eq a l.attempt) && task_eq a.task l.attempt.task)
    then rivals s a ls ++ l ∷ [] else rivals s a ls

abbrev pub all_rivals : Seen → List Attempt → List Launched
all_rivals s [] = []
all_rivals s (a ∷ as') = rivals s a s.launched ++ all_rivals s as'

abbrev pub after_flush : Phase → List Record → Phase
after_flush (Failing b) rs = Failing (b || is_unsuccessful rs)
after_flush p rs = p

-- a history call that was answered
abbrev pub worked : Seen → Store → Seen
worked s (Append_record r) = record s { due = rest_of s.due; tail = s.tail ++ r ∷ [] }
worked s Flush = record s {
  recorded = successes s.tail ++ s.recorded;
  killed = containers_of (all_rivals s (successes s.tail)) ++ s.killed;
  tail = [];
}
worked s (Names op) = after_bar s (bar_of op)
worked s Read_history = s

abbrev pub at_work : Phase → List Record → Store → Reply → Phase
at_work p tail (Append_record r) reply = if is_fine reply then p else Stopped
at_work p tail Flush reply = if is_fine reply then after_flush p tail else Stopped
at_work p tail (Names op) reply = Stopped
at_work p tail Read_history reply = Stopped

abbrev pub running : List Record → Store → Reply → Phase
running tail (Names op) reply = if is_fine reply then (if is_some (bar_of op) then Running else Committing List_job) else Stopped
running tail call reply = at_work Running tail call reply

abbrev pub failing : Bool → List Record → Store → Reply → Phase
failing f tail (Names op) reply = if is_cleared reply then Finished false else Stopped
failing f tail call reply = at_work (Failing f) tail call reply

abbrev pub merge_next : List Merge_step → Commit_step
merge_next [] = Cleaning
merge_next (m ∷ ms) = Merging (m ∷ ms)

abbrev pub is_temporary : Name → Bool
is_temporary n = name_eq n temporary_name

abbrev pub tops : Path → List Listed → List Merge_step
tops from [] = []
tops from (e ∷ es) = if is_temporary e.name then tops from es else Look_at (from ++ e.name ∷ []) dest true ∷ tops from es

abbrev pub is_dir_kind : Kind → Bool
is_dir_kind kinds.Dir = true
is_dir_kind kinds.File = false

abbrev pub inners : Path → Path → List Listed → List Merge_step
inners from to [] = []
inners from to (e ∷ es) = Look_at (from ++ e.name ∷ []) (to ++ e.name ∷ []) (is_dir_kind e.kind) ∷ inners from to es

abbrev pub refused : Reply → Phase
refused (Refused (Superseded f)) = Stopped
refused r = Committing Failing_mark

abbrev pub merging : List Merge_step → Reply → Commit_step → Phase
merging [] r ok = refused r
merging (Look_at f t d ∷ ms) (Found None) ok = Committing (Merging (Move_to f t ∷ ms))
merging (Look_at f t d ∷ ms) (Found (Some k)) ok = Committing (Merging ((if d && is_dir_kind k then List_into f t else Delete_then f t) ∷ ms))
merging (Look_at f t d ∷ ms) r ok = refused r
merging (List_into f t ∷ ms) (Entries es) ok = Committing (merge_next (inners f t es ++ ms))
merging (List_into f t ∷ ms) r ok = refused r
merging (Delete_then f t ∷ ms) r ok = if is_fine r then Committing (Merging (Move_to f t ∷ ms)) else refused r
merging (Move_to f t ∷ ms) r ok = if is_fine r then Committing (merge_next ms) else refused r

abbrev pub is_superseded : Reply → Bool
is_superseded (Refused (Superseded f)) = true
is_superseded _ = false

abbrev pub committing : ℕ → Commit_step → Reply → Phase
committing k List_job (Entries es) = Committing (merge_next (tops (job_attempt k) es))
committing k List_job r = refused r
committing k (Merging ms) r = merging ms r Cleaning
committing k Cleaning r = if is_cleared r then Committing Marking else refused r
committing k Marking r = if is_fine r then Committing Succeeding else refused r
committing k Succeeding r = if is_fine r then Finished true else Stopped
committing k Failing_mark r = if is_fine r then Committing Aborting else Stopped
committing k Aborting r = if is_superseded r then Stopped else Finished false

abbrev pub is_read : Store → Bool
is_read Read_history = true
is_read _ = false

-- the phase after a store call's answer
unfoldable pub phase_told : ℕ → Seen → Phase → Store → Reply → Phase
phase_told k s (Opening n) call r = if is_read call then was_read r else looked n r
phase_told k s Setting_up call r = if is_fine r then recover_rest k s.winners else Stopped
phase_told k s (Recovering ws at) call r = recovering k ws at r
phase_told k s Running call r = running s.tail call r
phase_told k s (Failing f) call r = failing f s.tail call r
phase_told k s (Committing at) call r = committing k at r
phase_told k s (Finished b) call r = Finished b
phase_told k s Stopped call r = Stopped

abbrev pub records_of : Reply → List Record
records_of (Records rs) = rs
records_of _ = []

-- what was read of the earlier generations is known from then on
abbrev pub with_read : Config → Seen → Store → Reply → Seen
with_read cfg s call r = if is_read call then record s { history = records_of r; winners = winners_of (records_of r) cfg.job cfg.reduces } else s

abbrev pub attempts_of : List Placed → List Attempt
attempts_of [] = []
attempts_of (p ∷ ps) = p.attempt ∷ attempts_of ps

abbrev pub with_phase : Phase → Seen → Seen
with_phase p s =
    if is_running p && not (is_running s.phase)
    then record s { phase = p; standing = newest_maps s.known s.history []; recorded = attempts_of (newest_maps s.known s.history []) }
    else record s { phase = p }

-- after a store call's answer
unfoldable pub told : Config → ℕ → Seen → Store → Reply → Seen
told cfg k s call r = with_phase (phase_told k s s.phase call r) (with_read cfg (if is_fine r then worked s call else s) call r)

unfoldable pub next_seen : Config → ℕ → Seen → Master_step → Seen
next_seen cfg k s (Came p) = if is_running s.phase then heard cfg s p else only_known s p
next_seen cfg k s (Launches l) = record s { launched = l ∷ s.launched; due = s.due ++ AttemptStarted l.attempt l.node ∷ [] }
next_seen cfg k s (Expires n) = expired n s
next_seen cfg k s (Asks call r) = told cfg k s call r

abbrev pub opening : Seen
opening = record {
  phase = Opening 0;
  winners = [];
  launched = [];
  asked = [];
  ended = [];
  accepted = [];
  standing = [];
  recorded = [];
  killed = [];
  bars = [];
  known = λ n. 1;
  history = [];
  due = [];
  tail = [];
}

-- what is read off a past
unfoldable pub seen : Config → ℕ → List Master_step → Seen
seen cfg k [] = opening
seen cfg k (s ∷ h) = next_seen cfg k (seen cfg k h) s

abbrev pub names_call : Op → Option Store
names_call op = Some (Names op)

abbrev pub all_won : List Attempt → List Todo_winner → JobId → ℕ → Bool
all_won rs ws j zero = true
all_won rs ws j (suc n) = (accepts_task rs (reduce_of j n) || has_winner ws (reduce_of j n)) && all_won rs ws j n

abbrev pub mark_at : ℕ → Store
mark_at zero = Names (Exist commit_success)
mark_at (suc zero) = Names (Exist commit_fail)
mark_at (suc (suc zero)) = Names (Exist commit_started)
mark_at (suc (suc (suc n))) = Read_history

abbrev pub recover_call : ℕ → List Todo_winner → Recover_step → Option Store
recover_call k [] at = None
recover_call k (w ∷ ws) (Look_below j) = names_call (Exist (committed j w.task))
recover_call k (w ∷ ws) (Measure j) = names_call (Read (committed j w.task ++ part_name w.task ∷ []))
recover_call k (w ∷ ws) (Clear_own j) = names_call (Delete (committed k w.task))
recover_call k (w ∷ ws) (Move_from j) = names_call (Rename (committed j w.task) (committed k w.task))

abbrev pub merge_call : List Merge_step → Option Store
merge_call [] = None
merge_call (Look_at f t d ∷ ms) = names_call (Exist t)
merge_call (List_into f t ∷ ms) = names_call (ListDir f)
merge_call (Delete_then f t ∷ ms) = names_call (Delete t)
merge_call (Move_to f t ∷ ms) = names_call (Rename f t)

abbrev pub commit_call : ℕ → Commit_step → Option Store
commit_call k List_job = names_call (ListDir (job_attempt k))
commit_call k (Merging ms) = merge_call ms
commit_call k Cleaning = names_call (Delete temporary)
commit_call k Marking = names_call (Create marker true)
commit_call k Succeeding = names_call (Create commit_success true)
commit_call k Failing_mark = names_call (Create commit_fail true)
commit_call k Aborting = names_call (Delete temporary)

-- appending comes before flushing, and flushing before what the phase itself does
abbrev pub record_call : List Record → List Record → Option Store → Option Store
record_call (r ∷ due) tail other = Some (Append_record r)
record_call [] tail other = if wants_flush tail then Some Flush else other

-- the first attempt that is to be barred and lives
abbrev pub first_bar : Seen → List Attempt → Option Attempt
first_bar s [] = None
first_bar s (a ∷ as') = if is_live s a then Some a else first_bar s as'

-- a bar comes before all else
abbrev pub bar_call : Option Attempt → Option Store → Option Store
bar_call None other = other
bar_call (Some a) other = Some (Names (Bar a))

unfoldable pub duty_of : Config → ℕ → Seen → Phase → Option Store
duty_of cfg k s (Opening n) = Some (mark_at n)
duty_of cfg k s Setting_up = names_call (MkDirs (job_attempt k))
duty_of cfg k s (Recovering ws at) = recover_call k ws at
duty_of cfg k s Running = bar_call (first_bar s s.bars) (record_call s.due s.tail (if all_won s.recorded s.winners cfg.job cfg.reduces then names_call (Create commit_started true) else None))
duty_of cfg k s (Failing f) = record_call s.due s.tail (if f then names_call (Delete temporary) else None)
duty_of cfg k s (Committing at) = commit_call k at
duty_of cfg k s (Finished b) = None
duty_of cfg k s Stopped = None
