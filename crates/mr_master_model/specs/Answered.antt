-- What the answer of the store call that was due changes.
-- The order of the calls is that of setupJob, recoverTask, commitJob and abortJob of Hadoop's OutputCommitter, between the marks of its
-- application master. What a fault makes of each is our own profile.
use Rattle.std.specs.Prelude.{Bool, true, false, ◌&&◌, ◌||◌, not, nat_lt, List, [], ◌∷◌, ◌++◌, Option, Some, None, is_some, Result, Ok, Err, if◌then◌else◌}
use Rattle.std.specs.List.{list_any, find}
use Rattle.mr_ids.specs.Attempt.{Attempt}
use Rattle.mr_ids.specs.declared.id.TaskId.{TaskId}
use Rattle.mr_task.specs.Calls as task_call
use Rattle.mr_names.specs.declared.fault.NameFault.TheVariants as names
use Rattle.mr_names.specs.declared.op.Answer.TheVariants as found
use Rattle.mr_commit.specs.Line.{Line}
use Rattle.mr_commit.specs.Steps.{heard}
use Rattle.mr_commit.specs.Tables.{setup_job, commit_job, abort_job}
use Rattle.mr_commit.specs.Recovery.{Recovery, recover_task}
use Rattle.mr_commit.specs.Recovery.Recovery.{Nowhere, Left}
use Rattle.mr_commit.specs.declared.fault.CommitFault.{CommitFault}
use Rattle.mr_commit.specs.declared.fault.CommitFault.TheVariants as fault
use Rattle.mr_commit.specs.declared.fault.StepDone.{StepDone}
use Rattle.mr_commit.specs.declared.fault.StepDone.TheVariants as done
use Rattle.mr_history.specs.declared.record.Record.{Record}
use Rattle.mr_history.specs.declared.record.Record.TheVariants.{AttemptStarted, MapSucceeded, ReduceSucceeded, AttemptFailed, JobUnsuccessful}
use Rattle.mr_recover.specs.declared.winner.TaskWinner.{TaskWinner}
use Rattle.mr_recover.specs.Plan.{winners_among}
use Rattle.mr_master_model.specs.declared.phase.DutyName.{DutyName}
use Rattle.mr_master_model.specs.declared.phase.DutyName.TheVariants as name
use Rattle.mr_master_model.specs.declared.setting.Setting.{Setting}
use Rattle.mr_master_model.specs.declared.store.StoreAnswer.{StoreAnswer}
use Rattle.mr_master_model.specs.declared.store.StoreAnswer.TheVariants as answer
use Rattle.mr_master_model.specs.Job.{is_task, all_reduces}
use Rattle.mr_master_model.specs.Past.{Work, LooksForSuccess, LooksForFail, LooksForStarted, Reads, SetsUp, TakesOver, Runs, CommitsJob, TellsSuccess, TellsFail, AbortsCommit, Fails, Ends, Stops}
use Rattle.mr_master_model.specs.Readings.{Seen, Place, is_running, is_live, newest_in, tell, tell_each}
use Rattle.mr_master_model.specs.Hearing.{of_maps}
use Rattle.mr_master_model.specs.Duty.{Duty, duty}

-- ---- answers

-- the call was applied and nothing was refused
abbrev pub is_fine : StoreAnswer → Bool
is_fine (answer.Names (Ok a)) = true
is_fine (answer.Wrote (Ok u)) = true
is_fine _ = false

abbrev pub is_superseded : StoreAnswer → Bool
is_superseded (answer.Names (Err (names.Superseded fence))) = true
is_superseded _ = false

-- what is next: where something was found, where nothing was found, and at any other answer
abbrev pub looked : StoreAnswer → (there absent : Work) → Work
looked (answer.Names (Ok (found.Found (Some kind)))) there absent = there
looked (answer.Names (Ok (found.Found None))) there absent = absent
looked _ there absent = Stops

-- a committer's table hears the answer of its line
abbrev pub heard_by : List Line → StoreAnswer → Result StepDone CommitFault × List Line
heard_by left (answer.Names r) = heard left r
heard_by left _ = (Err fault.Over, [])

-- what is next: where lines are left, where no line is left, and at a refusal or fault
abbrev pub goes_on : Result StepDone CommitFault → List Line → (List Line → Work) → (finished refused : Work) → Work
goes_on (Ok done.More) left more finished refused = more left
goes_on (Ok done.Finished) left more finished refused = finished
goes_on (Err f) left more finished refused = refused

abbrev pub stepped : List Line → StoreAnswer → (List Line → Work) → (finished refused : Work) → Work
stepped left a more finished refused = goes_on (heard_by left a).0 (heard_by left a).1 more finished refused

abbrev pub is_finished : Result StepDone CommitFault → Bool
is_finished (Ok done.Finished) = true
is_finished _ = false

-- ---- what was read

abbrev pub is_unsuccessful : Record → Bool
is_unsuccessful JobUnsuccessful = true
is_unsuccessful (AttemptStarted a n) = false
is_unsuccessful (MapSucceeded a n i) = false
is_unsuccessful (ReduceSucceeded a bytes) = false
is_unsuccessful (AttemptFailed a) = false

-- a job that an earlier master recorded as failed goes on failing
abbrev pub read_by : Setting → StoreAnswer → Work
read_by w (answer.Told rs) = if list_any is_unsuccessful rs then Fails true else SetsUp (setup_job w.layout.dest w.app)
read_by w _ = Stops

abbrev pub with_earlier : Seen → StoreAnswer → Seen
with_earlier s (answer.Told rs) = record s { earlier = rs }
with_earlier s _ = s

-- ---- reduces are taken over one after another. Where there is no earlier generation, there is no output to take over

abbrev pub takes_over : TaskWinner → Recovery → List TaskWinner → Work
takes_over x Nowhere others = Stops
takes_over x (Left left) others = TakesOver x left others

abbrev pub next_winner : Setting → List TaskWinner → Work
next_winner w [] = Runs
next_winner w (x ∷ others) = takes_over x (recover_task w.layout.dest w.app x.task x.bytes) others

abbrev pub winners : Setting → Seen → List TaskWinner
winners w s = winners_among s.earlier (all_reduces w)

-- ---- Running begins: each map's newest success is taken over, unless its node is known in a higher incarnation

abbrev pub taken : Seen → Option (Attempt × Place) → List Attempt
taken s None = []
taken s (Some p) = if nat_lt p.1.incarnation (s.known p.1.node) then [] else p.0 ∷ []

abbrev pub taken_of : Seen → TaskId → List Attempt
taken_of s t = of_maps t.kind (taken s (newest_in s.earlier t))

abbrev pub with_maps : Setting → Seen → Seen
with_maps w s = tell_each w s (λ a. task_call.Recovers a) (taken_of s)

-- ---- a bar: its attempt is killed

abbrev pub after_bar : Seen → Option Attempt → Seen
after_bar s None = s
after_bar s (Some a) = tell s a.task (task_call.Dies a)

-- ---- records

-- the first record due is in the tail
abbrev pub moved_first : Seen → List Record → Seen
moved_first s [] = s
moved_first s (r ∷ due) = record s { due = due; tail = s.tail ++ r ∷ [] }

-- the attempt whose success a record tells
abbrev pub success_in : Record → Option Attempt
success_in (MapSucceeded a n i) = Some a
success_in (ReduceSucceeded a bytes) = Some a
success_in (AttemptStarted a n) = None
success_in (AttemptFailed a) = None
success_in JobUnsuccessful = None

abbrev pub tell_recorded : Setting → Seen → Option Attempt → Seen
tell_recorded w s None = s
tell_recorded w s (Some a) = if is_task w a.task then tell s a.task (task_call.Records a) else s

-- the attempts of successes are Succeeded, in the order of their records
unfoldable pub recorded : Setting → Seen → List Record → Seen
recorded w s [] = s
recorded w s (r ∷ rs) = recorded w (tell_recorded w s (success_in r)) rs

abbrev pub flushed : Setting → Seen → Seen
flushed w s = record (recorded w s s.tail) { tail = [] }

-- what a duty of Running or Failing changes that was answered well
abbrev pub after_duty : Setting → Seen → DutyName → Seen
after_duty w s name.Bar = after_bar s (find (is_live w s) s.bars)
after_duty w s name.Append = moved_first s s.due
after_duty w s name.Flush = flushed w s
after_duty w s _ = s

abbrev pub after_due : Setting → Seen → Option Duty → Seen
after_due w s None = s
after_due w s (Some d) = after_duty w s d.name

-- ---- what changes, the work aside

unfoldable pub changed : Setting → Seen → StoreAnswer → Work → Seen
changed w s a Reads = with_earlier s a
changed w s a (TakesOver x left others) = if is_finished (heard_by left a).0 then tell s x.task (task_call.Recovers x.attempt) else s
changed w s a Runs = if is_fine a then after_due w s (duty w s) else s
changed w s a (Fails is_stable) = if is_fine a then after_due w s (duty w s) else s
changed w s a _ = s

-- ---- the work

abbrev pub name_of : Option Duty → Option DutyName
name_of None = None
name_of (Some d) = Some d.name

-- while Running: COMMIT_STARTED leads to the job commit
abbrev pub running_after : Setting → Option DutyName → Work
running_after w (Some name.Started) = CommitsJob (commit_job w.layout.dest w.app)
running_after w _ = Runs

-- while Failing: the flush makes a JobUnsuccessful stable, and Missing passes at the abort
abbrev pub failing_after : Setting → Seen → StoreAnswer → Bool → Option DutyName → Work
failing_after w s a is_stable (Some name.Abort) = stepped (abort_job w.layout.dest) a (λ left. Fails is_stable) (Ends false) Stops
failing_after w s a is_stable (Some name.Flush) = if is_fine a then Fails (is_stable || list_any is_unsuccessful s.tail) else Stops
failing_after w s a is_stable _ = if is_fine a then Fails is_stable else Stops

unfoldable pub work_after : Setting → Seen → StoreAnswer → Work → Work
work_after w s a LooksForSuccess = looked a (Ends true) LooksForFail
work_after w s a LooksForFail = looked a (Ends false) LooksForStarted
work_after w s a LooksForStarted = looked a (Ends false) Reads
work_after w s a Reads = read_by w a
work_after w s a (SetsUp left) = stepped left a SetsUp (next_winner w (winners w s)) Stops
work_after w s a (TakesOver x left others) = stepped left a (λ l. TakesOver x l others) (next_winner w others) Stops
work_after w s a Runs = if is_fine a then running_after w (name_of (duty w s)) else Stops
work_after w s a (CommitsJob left) = stepped left a CommitsJob TellsSuccess (if is_superseded a then Stops else TellsFail)
work_after w s a TellsSuccess = if is_fine a then Ends true else Stops
work_after w s a TellsFail = if is_fine a then AbortsCommit else Stops
work_after w s a AbortsCommit = if is_superseded a then Stops else Ends false
work_after w s a (Fails is_stable) = failing_after w s a is_stable (name_of (duty w s))
work_after w s a (Ends succeeded) = Ends succeeded
work_after w s a Stops = Stops

abbrev pub with_work : Setting → Seen → Work → Seen
with_work w s work = record (if is_running work && not (is_running s.work) then with_maps w s else s) { work = work }

-- where no call is due, there is no answer to hear
abbrev pub after_answer : Setting → Seen → StoreAnswer → Seen
after_answer w s a = if is_some (duty w s) then with_work w (changed w s a s.work) (work_after w s a s.work) else s
