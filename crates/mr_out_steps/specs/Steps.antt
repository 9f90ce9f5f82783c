-- What a command does of the answer to its call. That a log is synced before anything follows from it is what write-ahead logging asks; that the
-- marker is made behind all files, and is made durable behind them, is the committer document's order of a job's commit. That a decision comes before
-- anything is visible is Hadoop's COMMIT_STARTED; here a held job alone has one. The rest is our own.
use Rattle.std.specs.Prelude.{◌≡◌, ◌⊎◌, ℕ, ◌==◌, nat_lt, Bool, true, false, not, ◌||◌, ◌&&◌, count_by, is_some, List, [], ◌∷◌, ◌++◌, Option, Some, None, if◌then◌else◌}
use Rattle.mr_ids.specs.Attempt.{Attempt}
use Rattle.mr_history.specs.declared.record.Record.{Record}
use Rattle.mr_history.specs.declared.record.Record.TheVariants.{AttemptStarted, MapSucceeded, ReduceSucceeded, AttemptFailed, JobUnsuccessful}
use Rattle.mr_out_disk.specs.declared.answer.Answer.{Answer}
use Rattle.mr_out_disk.specs.declared.answer.Answer.TheVariants.{Says, Told, Listed}
use Rattle.mr_out_disk.specs.declared.answer.Reply.{Reply}
use Rattle.mr_out_disk.specs.declared.answer.Reply.TheVariants.{Done, Missing, Taken, Found, Odd, Grew, Failed}
use Rattle.mr_out_steps.specs.declared.standing.Standing.{Standing}
use Rattle.mr_out_steps.specs.declared.standing.Standing.TheVariants.{Won, Beaten, GivenUp, JobOver, UnderWay, Unknown}
use Rattle.mr_out_steps.specs.declared.order.Order.{Order}
use Rattle.mr_out_steps.specs.declared.order.Order.TheVariants as order
use Rattle.mr_out_steps.specs.declared.order.Outcome.{Outcome}
use Rattle.mr_out_steps.specs.declared.order.Outcome.TheVariants as outcome
use Rattle.mr_out_steps.specs.declared.phase.Phase.{Phase}
use Rattle.mr_out_steps.specs.declared.phase.Phase.TheVariants.{Reading, SyncingEnd, FindingClaim, FindingWork, Claiming, SyncingFile, SyncingClaim, Appending, Committing, DroppingClaim, DroppingWork, FindingDecision, Deciding, SyncingDecision, Listing, FindingKept, Linking, Comparing, SyncingParts, Marking, SyncingMarker, Emptying, FindingMarker, Forgetting, SyncingForgotten, MakingFolder, Over}
use Rattle.mr_out_steps.specs.declared.phase.Turn.{Turn}
use Rattle.mr_out_steps.specs.declared.phase.Turn.TheVariants.{Goes, Begins, Notes, Holds, LinksNext, EmptiesNext}
use Rattle.mr_out_steps.specs.Standing.{task_of, standing, winners, is_over, is_alive_at, next_attempt, first_alive, has_winner, first_idle, has_failed_out}
use Rattle.mr_out_steps.specs.Commands.{Command}

-- ---- a phase and a word: what follows. Whatever is not named ends the command as failed

abbrev pub fails : Turn
fails = Goes (Over outcome.Failed)

abbrev pub if_done : Turn → Turn → Reply → Turn
if_done next otherwise Done = next
if_done next otherwise _ = otherwise

-- done, or nothing was there
abbrev pub if_gone : Turn → Reply → Turn
if_gone next Done = next
if_gone next Missing = next
if_gone next _ = fails

-- done, or it is there already
abbrev pub if_there : Turn → Reply → Turn
if_there next Done = next
if_there next Taken = next
if_there next _ = fails

-- was the attempt's file handed in before?
abbrev pub claim_looked : Attempt → Reply → Turn
claim_looked a (Found file) = Goes (SyncingFile a)
claim_looked a Missing = Goes (FindingWork a)
claim_looked a _ = fails

-- did the attempt write its file?
abbrev pub work_looked : Attempt → Reply → Turn
work_looked a (Found file) = Goes (Claiming a)
work_looked a Missing = Goes (Over outcome.NoFile)
work_looked a Odd = Goes (Over outcome.NotAFile)
work_looked a _ = fails

abbrev pub claimed : Attempt → Reply → Turn
claimed a Done = Goes (SyncingFile a)
claimed a Missing = Goes (Over outcome.NoFile)
claimed a _ = fails

-- the file that an attempt handed in was synced; where that failed, the attempt has failed
abbrev pub claim_synced : Attempt → Reply → Turn
claim_synced a Done = Goes (SyncingClaim a)
claim_synced a Grew = Goes (Over outcome.StillWritten)
claim_synced a Failed = Goes (Appending (AttemptFailed a))
claim_synced a _ = fails

-- was it decided to publish the held job? A decision that is found is made durable before anything follows from it
abbrev pub decision_looked : Reply → Turn
decision_looked (Found file) = Goes SyncingDecision
decision_looked Missing = Holds
decision_looked _ = fails

-- is the job published, whose history is to be forgotten? A marker that is found is made durable before that
abbrev pub marker_looked : Reply → Turn
marker_looked (Found file) = Goes SyncingMarker
marker_looked Missing = Goes (Over outcome.Unpublished)
marker_looked Odd = Goes (Over outcome.Unpublished)
marker_looked _ = fails

-- is this winner's file kept?
abbrev pub kept_looked : Attempt → Reply → Turn
kept_looked a (Found file) = Goes (Linking a file)
kept_looked a Missing = Goes (Comparing a None)
kept_looked a _ = fails

abbrev pub linked : Attempt → ℕ → Reply → Turn
linked a file Done = LinksNext
linked a file Taken = Goes (Comparing a (Some file))
linked a file _ = fails

-- the visible file of a winner is the one that is kept; where none is kept any more, it was compared before
abbrev pub compared : Attempt → Option ℕ → ℕ → Turn
compared a None there = LinksNext
compared a (Some file) there = if there == file then LinksNext else Goes (Over (outcome.Foreign a))

-- which file is visible?
abbrev pub part_looked : Attempt → Option ℕ → Reply → Turn
part_looked a file (Found there) = compared a file there
part_looked a file Missing = Goes (Over (outcome.Vanished a))
part_looked a file Odd = Goes (Over (outcome.Foreign a))
part_looked a file _ = fails

unfoldable pub turn : Phase → Reply → Turn
turn Reading reply = fails
turn SyncingEnd reply = if_done Begins (Goes (Over outcome.NotKnown)) reply
turn (FindingClaim a) reply = claim_looked a reply
turn (FindingWork a) reply = work_looked a reply
turn (Claiming a) reply = claimed a reply
turn (SyncingFile a) reply = claim_synced a reply
turn (SyncingClaim a) reply = if_done (Goes (Appending (ReduceSucceeded a None))) fails reply
turn (Appending r) reply = if_done (Goes (Committing r)) (Goes (Over outcome.NotKnown)) reply
turn (Committing r) reply = if_done (Notes r) (Goes (Over outcome.NotKnown)) reply
turn (DroppingClaim a) reply = if_gone (Goes (DroppingWork a)) reply
turn (DroppingWork a) reply = if_gone Begins reply
turn FindingDecision reply = decision_looked reply
turn Deciding reply = if_there (Goes SyncingDecision) reply
turn SyncingDecision reply = if_done (Goes Listing) fails reply
turn Listing reply = fails
turn (FindingKept a) reply = kept_looked a reply
turn (Linking a file) reply = linked a file reply
turn (Comparing a file) reply = part_looked a file reply
turn SyncingParts reply = if_done (Goes Marking) fails reply
turn Marking reply = if_there (Goes SyncingMarker) reply
turn SyncingMarker reply = if_done EmptiesNext fails reply
turn (Emptying a) reply = if_gone EmptiesNext reply
turn FindingMarker reply = marker_looked reply
turn Forgetting reply = if_done (Goes SyncingForgotten) fails reply
turn SyncingForgotten reply = if_done (Goes (Over outcome.Finished)) fails reply
turn (MakingFolder a) reply = if_there (Goes (Over (outcome.Started a))) reply
turn (Over o) reply = Goes (Over o)

-- ---- what a command does in its turn

abbrev pub goes : Phase → Command → Command
goes phase c = record c { phase = phase }

-- what it is answered in the end, by the records
abbrev pub answer_to : Order → Command → Outcome
answer_to (order.Done a) c = outcome.Stands (standing c.job c.tasks c.records a)
answer_to (order.Fail a) c = outcome.Stands (standing c.job c.tasks c.records a)
answer_to (order.Ask a) c = outcome.Stands (standing c.job c.tasks c.records a)
answer_to order.Resume c = outcome.Finished
answer_to order.Abort c = if is_over c.records then outcome.Finished else outcome.AllWon
answer_to order.Publish c = if is_over c.records then outcome.JobOver else outcome.Finished
answer_to order.Forget c = outcome.Unpublished
answer_to order.StartNext c = if is_over c.records then outcome.JobOver else outcome.AllWon
answer_to (order.StartAt n) c = if is_over c.records then outcome.JobOver else outcome.AllWon
answer_to (order.StartOver n) c = if is_over c.records then outcome.JobOver else outcome.AllWon

abbrev pub ends : Command → Command
ends c = goes (Over (answer_to c.order c)) c

-- where some task has no winner, there is nothing to publish
abbrev pub answer_early : Order → Command → Outcome
answer_early order.Publish c = outcome.NotAllWon
answer_early o c = answer_to o c

-- a held job is published once that is decided, which an order to publish does
abbrev pub decides : Order → Phase
decides order.Publish = Deciding
decides o = FindingDecision

abbrev pub releases : Bool → Order → Phase
releases hold o = if hold then decides o else Listing

-- where every task has a winner, their files are to be linked
abbrev pub lists : Option (List Attempt) → Command → Command
lists None c = goes (Over (answer_early c.order c)) c
lists (Some ws) c = record c { left = ws; phase = releases c.hold c.order }

-- under hold, publishing was not decided: the job may still be ended as failed, and nothing is published
abbrev pub holds : Order → Command → Command
holds order.Abort c = goes (Appending JobUnsuccessful) c
holds o c = ends c

-- a job that is over is not published
unfoldable pub publishes : Command → Command
publishes c = if is_over c.records then ends c else lists (winners c.job c.records c.tasks) c

abbrev pub is_under_way : Standing → Bool
is_under_way UnderWay = true
is_under_way _ = false

-- the job is over, or will be published
abbrev pub is_settled : Command → Bool
is_settled c = is_over c.records || is_some (winners c.job c.records c.tasks)

-- this attempt is begun, if there is one to begin
abbrev pub starts_one : Option Attempt → Phase
starts_one (Some a) = Appending (AttemptStarted a 0)
starts_one None = Over outcome.Full

-- an attempt at the task is begun
abbrev pub starts : ℕ → Command → Phase
starts n c = starts_one (next_attempt c.records (task_of c.job n))

-- at the first task that is idle
abbrev pub starts_first : Option ℕ → Command → Option Phase
starts_first (Some n) c = Some (starts n c)
starts_first None c = if is_settled c then None else Some (Over outcome.Busy)

-- beside what is under way there
abbrev pub starts_beside : ℕ → Command → Option Phase
starts_beside n c =
    if is_over c.records || has_winner c.records (task_of c.job n) then None
    else Some (if nat_lt (count_by (is_alive_at c.records (task_of c.job n)) c.records) 2 then starts n c else Over outcome.Busy)

-- behind what is under way there, which fails
abbrev pub gives_up : Option Attempt → ℕ → Command → Phase
gives_up (Some a) n c = Appending (AttemptFailed a)
gives_up None n c = starts n c

abbrev pub starts_over : ℕ → Command → Option Phase
starts_over n c =
    if is_over c.records || has_winner c.records (task_of c.job n) then None
    else Some (gives_up (first_alive c.records (task_of c.job n) c.records) n c)

-- its own work, where there is something to do
abbrev pub own_work : Order → Command → Option Phase
own_work (order.Done a) c = if is_under_way (standing c.job c.tasks c.records a) then Some (FindingClaim a) else None
own_work (order.Fail a) c = if is_under_way (standing c.job c.tasks c.records a) then Some (Appending (AttemptFailed a)) else None
own_work (order.Ask a) c = Some (Over (answer_to (order.Ask a) c))
own_work order.Resume c = None
own_work order.Abort c = if is_settled c then None else Some (Appending JobUnsuccessful)
own_work order.Publish c = None
own_work order.Forget c = None
own_work order.StartNext c = if is_over c.records then None else starts_first (first_idle c.job c.records c.tasks) c
own_work (order.StartAt n) c = starts_beside n c
own_work (order.StartOver n) c = starts_over n c

abbrev pub begins_with : Option Phase → Command → Command
begins_with None c = publishes c
begins_with (Some phase) c = goes phase c

abbrev pub only_asks : Order → Bool
only_asks (order.Ask a) = true
only_asks _ = false

-- a task has failed as often as the limit, and the job was not ended yet
abbrev pub is_to_end : Command → Bool
is_to_end c = not (only_asks c.order) && (has_failed_out c.limit c.records && not (is_settled c))

abbrev pub begins : Command → Command
begins c = if is_to_end c then goes (Appending JobUnsuccessful) c else begins_with (own_work c.order c) c

-- a record is durable: a file of an attempt that failed is dropped, and one that starts gets its folder
abbrev pub follows : Record → Command → Command
follows (AttemptFailed a) c = goes (DroppingClaim a) c
follows (AttemptStarted a node) c = goes (MakingFolder a) c
follows r c = publishes c

abbrev pub noted : Record → Command → Command
noted r c = record c { records = c.records ++ r ∷ [] }

abbrev pub links : List Attempt → Command → Command
links [] c = goes SyncingParts c
links (a ∷ rest) c = record c { left = rest; phase = FindingKept a }

-- nothing is left to publish: who forgets the history goes on with this phase
abbrev pub ends_or : Phase → Order → Command → Command
ends_or phase order.Forget c = goes phase c
ends_or phase o c = ends c

abbrev pub empties : List Attempt → Command → Command
empties [] c = ends_or Forgetting c.order c
empties (a ∷ rest) c = record c { kept = rest; phase = Emptying a }

abbrev pub acts : Turn → Command → Command
acts (Goes phase) c = goes phase c
acts Begins c = begins c
acts (Notes r) c = follows r (noted r c)
acts Holds c = holds c.order c
acts LinksNext c = links c.left c
acts EmptiesNext c = empties c.kept c

-- ---- the answers

abbrev pub is_reading : Phase → Bool
is_reading Reading = true
is_reading _ = false

abbrev pub is_listing : Phase → Bool
is_listing Listing = true
is_listing _ = false

abbrev pub reads : List Record → Command → Command
reads rs c = record c { records = rs; phase = SyncingEnd }

-- where nothing is kept any more, the job was published before
abbrev pub listed : List Attempt → Command → Command
listed [] c = ends_or FindingMarker c.order c
listed (a ∷ rest) c = links c.left (record c { kept = a ∷ rest })

abbrev pub fails_now : Command → Command
fails_now c = goes (Over outcome.Failed) c

-- what a command is once its call was answered; an answer of another call ends it as failed
abbrev pub heard : Command → Answer → Command
heard c (Says reply) = acts (turn c.phase reply) c
heard c (Told rs) = if is_reading c.phase then reads rs c else fails_now c
heard c (Listed attempts) = if is_listing c.phase then listed attempts c else fails_now c

-- where memory is refused, the command ends where it is
abbrev pub Takes : Command → Answer → Command → Type 0
Takes old answer new = (new ≡ heard old answer) ⊎ (new.phase ≡ Over outcome.NoMemory)
