-- Whatever a master takes over is of a task of the job: that is so of each past.
use Rattle.std.proofs.Common.{ℕ, zero, suc, ◌≤◌, ◌≡◌, ◌∙◌, ap, subst, Bool, true, false, ◌||◌, List, [], ◌∷◌, ◌++◌, Option, Some, None, is_some, is_none, Result, Ok, Err, if◌then◌else◌, arith}
use Rattle.std.specs.List.{list_any}
use Rattle.std.specs.Option.{option_map}
use Rattle.mr_ids.specs.Attempt.{Attempt}
use Rattle.mr_ids.specs.declared.id.TaskId.{TaskId}
use Rattle.mr_ids.specs.declared.id.TaskKind.TheVariants.{Reduce}
use Rattle.mr_names.specs.declared.op.Answer.TheVariants as found
use Rattle.mr_commit.specs.Line.{Line}
use Rattle.mr_commit.specs.Tables.{setup_job, abort_job}
use Rattle.mr_commit.specs.Recovery.{Recovery, recover_task}
use Rattle.mr_commit.specs.Recovery.Recovery.{Nowhere, Left}
use Rattle.mr_commit.specs.declared.fault.CommitFault.{CommitFault}
use Rattle.mr_commit.specs.declared.fault.StepDone.{StepDone}
use Rattle.mr_commit.specs.declared.fault.StepDone.TheVariants as done
use Rattle.mr_history.specs.declared.record.Record.{Record}
use Rattle.mr_history.specs.Winner.{winner_in, length_in}
use Rattle.mr_recover.specs.declared.winner.TaskWinner.{TaskWinner}
use Rattle.mr_recover.specs.Plan.{winners_among, with_first}
use Rattle.mr_master_model.specs.declared.phase.DutyName.{DutyName}
use Rattle.mr_master_model.specs.declared.phase.DutyName.TheVariants as name
use Rattle.mr_master_model.specs.declared.setting.Setting.{Setting}
use Rattle.mr_master_model.specs.declared.store.StoreAnswer.{StoreAnswer}
use Rattle.mr_master_model.specs.declared.store.StoreAnswer.TheVariants as answer
use Rattle.mr_master_model.specs.Job.{is_task, task_of, first_tasks, all_reduces}
use Rattle.mr_master_model.specs.Past.{Step, Hears, Launches, Expires, Answered, Work, LooksForSuccess, LooksForFail, LooksForStarted, Reads, SetsUp, TakesOver, Runs, CommitsJob, TellsSuccess, TellsFail, AbortsCommit, Fails, Ends, Stops}
use Rattle.mr_master_model.specs.Readings.{Seen, launch_refusal, expire_refusal}
use Rattle.mr_master_model.specs.Duty.{duty}
use Rattle.mr_master_model.specs.Answered.{is_fine, is_superseded, is_unsuccessful, looked, heard_by, goes_on, read_by, takes_over, next_winner, winners, name_of, running_after, failing_after, changed, work_after, with_work}
use Rattle.mr_master_model.specs.Next.{moved, next_seen, seen}
use Rattle.mr_master_events.specs.mr_master_phase.specs.Taking.{winner_of}
use Rattle.mr_master_events.specs.mr_master_state.specs.State.{Master, StandsFor}
use Rattle.mr_master_calls.specs.Placed.{IsPlaced}
use Rattle.mr_master_events.specs.mr_master_tasks.proofs.Keeping.{within-tasks}
use Rattle.mr_master.proofs.Past_stays.{either, delivered-holds}
use Rattle.mr_master_events.specs.mr_master_tasks.proofs.Telling.{task-of-is}

abbrev EachOwn : Setting → List TaskWinner → Type 0
EachOwn w [] = Unit {0}
EachOwn w (x ∷ xs) = (is_task w x.task ≡ true) × EachOwn w xs

abbrev Own : Setting → Work → Type 0
Own w (TakesOver x left others) = EachOwn w (x ∷ others)
Own w _ = Unit {0}

-- ---- the winners of the job's reduces are of its tasks

abbrev AllTasks : Setting → List TaskId → Type 0
AllTasks w [] = Unit {0}
AllTasks w (t ∷ ts) = (is_task w t ≡ true) × AllTasks w ts

one-more : (w : Setting) (ts : List TaskId) (t : TaskId) → AllTasks w ts → is_task w t ≡ true → AllTasks w (ts ++ t ∷ [])
one-more w [] t all e = (e, tt)
one-more w (u ∷ ts) t all e = (all.0, one-more w ts t all.1 e)

first-are : (w : Setting) (n : ℕ) → n ≤ w.reduces → AllTasks w (first_tasks w Reduce n)
unfolding first_tasks
first-are w zero within = tt
first-are w (suc n) within = one-more w (first_tasks w Reduce n) (task_of w Reduce n) (first-are w n (omega arith)) (task-of-is w Reduce n (omega arith))

among-own : (w : Setting) (rs : List Record) (ts : List TaskId) → AllTasks w ts → EachOwn w (winners_among rs ts)
among-own w rs [] all = tt
among-own w rs (t ∷ ts) all = by (winner_in rs t) (among-own w rs ts all.1)
  where
    by : (o : Option Attempt) → EachOwn w (winners_among rs ts) → EachOwn w (with_first (option_map (λ (a : Attempt). record { task = t; attempt = a; bytes = length_in rs t }) o) (winners_among rs ts))
    by None rest = rest
    by (Some a) rest = (all.0, rest)

winners-own : (w : Setting) (s : Seen) → EachOwn w (winners w s)
winners-own w s = among-own w s.earlier (all_reduces w) (first-are w w.reduces (omega arith))

-- ---- the work after an answer

if-own : (w : Setting) (b : Bool) (x y : Work) → Own w x → Own w y → Own w (if b then x else y)
if-own w true x y p q = p
if-own w false x y p q = q

looked-own : (w : Setting) (a : StoreAnswer) (there absent : Work) → Own w there → Own w absent → Own w (looked a there absent)
looked-own w (answer.Names (Ok (found.Found (Some kind)))) there absent p q = p
looked-own w (answer.Names (Ok (found.Found None))) there absent p q = q
looked-own w _ there absent p q = tt

read-own : (w : Setting) (a : StoreAnswer) → Own w (read_by w a)
read-own w (answer.Told rs) = if-own w (list_any is_unsuccessful rs) (Fails true) (SetsUp (setup_job w.layout.dest w.app)) tt tt
read-own w _ = tt

over-own : (w : Setting) (x : TaskWinner) (r : Recovery) (others : List TaskWinner) → EachOwn w (x ∷ others) → Own w (takes_over x r others)
over-own w x Nowhere others p = tt
over-own w x (Left left) others p = p

next-own : (w : Setting) (xs : List TaskWinner) → EachOwn w xs → Own w (next_winner w xs)
next-own w [] p = tt
next-own w (x ∷ others) p = over-own w x (recover_task w.layout.dest w.app x.task x.bytes) others p

goes-own : (w : Setting) (r : Result StepDone CommitFault) (left : List Line) (more : List Line → Work) (finished refused : Work) → Own w (more left) → Own w finished → Own w refused → Own w (goes_on r left more finished refused)
goes-own w (Ok done.More) left more finished refused p q f = p
goes-own w (Ok done.Finished) left more finished refused p q f = q
goes-own w (Err e) left more finished refused p q f = f

running-own : (w : Setting) (o : Option DutyName) → Own w (running_after w o)
running-own w (Some name.Started) = tt
running-own w _ = tt

failing-own : (w : Setting) (s : Seen) (a : StoreAnswer) (b : Bool) (o : Option DutyName) → Own w (failing_after w s a b o)
failing-own w s a b (Some name.Abort) = goes-own w (heard_by (abort_job w.layout.dest) a).0 (heard_by (abort_job w.layout.dest) a).1 (λ left. Fails b) (Ends false) Stops tt tt tt
failing-own w s a b (Some name.Flush) = if-own w (is_fine a) (Fails (b || list_any is_unsuccessful s.tail)) Stops tt tt
failing-own w s a b _ = if-own w (is_fine a) (Fails b) Stops tt tt

work-own : (w : Setting) (s : Seen) (a : StoreAnswer) (work : Work) → Own w work → Own w (work_after w s a work)
unfolding work_after
work-own w s a LooksForSuccess own = looked-own w a (Ends true) LooksForFail tt tt
work-own w s a LooksForFail own = looked-own w a (Ends false) LooksForStarted tt tt
work-own w s a LooksForStarted own = looked-own w a (Ends false) Reads tt tt
work-own w s a Reads own = read-own w a
work-own w s a (SetsUp left) own = goes-own w (heard_by left a).0 (heard_by left a).1 SetsUp (next_winner w (winners w s)) Stops tt (next-own w (winners w s) (winners-own w s)) tt
work-own w s a (TakesOver x left others) own = goes-own w (heard_by left a).0 (heard_by left a).1 (λ l. TakesOver x l others) (next_winner w others) Stops own (next-own w others own.1) tt
work-own w s a Runs own = if-own w (is_fine a) (running_after w (name_of (duty w s))) Stops (running-own w (name_of (duty w s))) tt
work-own w s a (CommitsJob left) own = goes-own w (heard_by left a).0 (heard_by left a).1 CommitsJob TellsSuccess (if is_superseded a then Stops else TellsFail) tt tt (if-own w (is_superseded a) Stops TellsFail tt tt)
work-own w s a TellsSuccess own = if-own w (is_fine a) (Ends true) Stops tt tt
work-own w s a TellsFail own = if-own w (is_fine a) AbortsCommit Stops tt tt
work-own w s a AbortsCommit own = if-own w (is_superseded a) Stops (Ends false) tt tt
work-own w s a (Fails b) own = failing-own w s a b (name_of (duty w s))
work-own w s a _ own = tt

-- ---- each step: but for an answer none takes anything over

step-own : (w : Setting) (s : Seen) (step : Step) → Own w s.work → Own w (next_seen w s step).work
unfolding next_seen moved
step-own w s (Hears p) own = delivered-holds (λ bars work. Own w work) w s p own tt
step-own w s (Launches t n) own = either (λ bars work. Own w work) (is_none (launch_refusal w s t n)) _ _ own own
step-own w s (Expires n) own = either (λ bars work. Own w work) (is_none (expire_refusal w s n)) _ _ own own
step-own w s (Answered a) own = either (λ bars work. Own w work) (is_some (duty w s)) (with_work w (changed w s a s.work) (work_after w s a s.work)) s (work-own w s a s.work own) own

owns : (w : Setting) (past : List Step) → Own w (seen w past).work
unfolding seen
owns w [] = tt
owns w (step ∷ past) = step-own w (seen w past) step (owns w past)

-- ---- of a machine

own-winner : (w : Setting) (x : TaskWinner) (work : Work) → Own w work → Some x ≡ winner_of work → is_task w x.task ≡ true
own-winner w x (TakesOver y left others) own e = let same : y ≡ x = cc in subst (λ (z : TaskWinner). is_task w z.task ≡ true) same own.0
own-winner w x _ own e = cc

pub is-placed : (m : Master) (past : List Step) → StandsFor m m.setting past → IsPlaced m
is-placed m past k x e =
    let w = m.setting in
    let s = seen w past in
    let own = own-winner w x s.work (owns w past) (e ∙ ap (λ (v : Work). winner_of v) k.work) in
    (own, within-tasks m.tasks w s.calls x.task k.tasks own)
