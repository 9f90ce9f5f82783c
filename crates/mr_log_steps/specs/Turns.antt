-- What a command does of the answer to its call. That a log is synced before anything follows from it is what write-ahead logging asks; that who finds
-- its entry's name taken decides again is what makes a log a fence. The order of publishing is the committer document's commit of a job. The rest is our own.
use Rattle.std.specs.Prelude.{◌==◌, Bool, true, false, ◌&&◌, List, [], ◌∷◌, ◌++◌, Option, Some, None, if◌then◌else◌}
use Rattle.mr_ids.specs.Attempt.{Attempt}
use Rattle.mr_log_entries.specs.declared.line.Line.{Line}
use Rattle.mr_log_entries.specs.declared.line.Line.TheVariants as line
use Rattle.mr_log_entries.specs.declared.line.Handed.{Handed}
use Rattle.mr_log_entries.specs.declared.line.Handed.TheVariants as handed
use Rattle.mr_log_entries.specs.declared.entry.Entry.{Entry}
use Rattle.mr_log_entries.specs.declared.entry.Origin.{Origin}
use Rattle.mr_log_entries.specs.Recorded.{lines_of}
use Rattle.mr_log_disk.specs.declared.place.Node.{Node}
use Rattle.mr_log_disk.specs.declared.place.Node.TheVariants as node
use Rattle.mr_log_disk.specs.declared.place.Item.{Item}
use Rattle.mr_log_disk.specs.declared.answer.Answer.{Answer}
use Rattle.mr_log_disk.specs.declared.answer.Answer.TheVariants.{Says, Told, Listed}
use Rattle.mr_log_disk.specs.declared.answer.Reply.{Reply}
use Rattle.mr_log_disk.specs.declared.answer.Reply.TheVariants.{Done, Missing, Taken, Found, Odd, Grew, Held, Dead, Failed}
use Rattle.mr_log_standing.specs.declared.job.Job.{Job}
use Rattle.mr_log_standing.specs.declared.order.Order.{Order}
use Rattle.mr_log_standing.specs.declared.order.Order.TheVariants as order
use Rattle.mr_log_standing.specs.declared.order.Outcome.{Outcome}
use Rattle.mr_log_standing.specs.declared.order.Outcome.TheVariants as outcome
use Rattle.mr_log_standing.specs.declared.standing.Standing.TheVariants as stands
use Rattle.mr_log_standing.specs.declared.standing.Win.{Win}
use Rattle.mr_log_standing.specs.declared.decision.Decision.{Decision}
use Rattle.mr_log_standing.specs.declared.decision.Decision.TheVariants.{Ends, Publishes, HandsIn, Puts, Begins, Forgets}
use Rattle.mr_log_standing.specs.declared.decision.Conclusion.{Conclusion}
use Rattle.mr_log_standing.specs.declared.decision.Conclusion.TheVariants as conclusion
use Rattle.mr_log_standing.specs.Standing.{is_published}
use Rattle.mr_log_standing.specs.Deciding.{decided, concluded}
use Rattle.mr_log_standing.specs.Host.{Host}
use Rattle.mr_log_steps.specs.declared.phase.Step.{Step}
use Rattle.mr_log_steps.specs.declared.phase.Step.TheVariants as step
use Rattle.mr_log_steps.specs.declared.phase.Phase.{Phase}
use Rattle.mr_log_steps.specs.declared.phase.Phase.TheVariants.{Reading, SyncingLog, Putting, SyncingPut, ReadingOn, MakingWork, Claiming, TakingNote, ListingKept, HandingIn, DroppingNote, SyncingKept, ReadingList, Linking, Comparing, Marking, Emptying, EmptyingAll, Forgetting, SyncingForgotten, Over}
use Rattle.mr_log_steps.specs.Lists.{handing, handed_in, publication, link_of, marking, wins}
use Rattle.mr_log_steps.specs.Commands.{Command, own_entry}

abbrev pub goes : Phase → Command → Command
goes phase c = record c { phase = phase }

abbrev pub over : Outcome → Command → Command
over o c = goes (Over o) c

-- what is amiss is said only if it still matters: the log is read again first
abbrev pub finds : Outcome → Command → Command
finds o c = record c { amiss = Some o; phase = Reading }

-- so too where the note is held, which is removed before
abbrev pub drops_for : Outcome → Attempt → Command → Command
drops_for o a c = record c { amiss = Some o; phase = DroppingNote a }

-- ---- what a command does by what it decides, from entries that are durable

-- what an order decides, or what handing in came to
abbrev pub decision_of : Option Conclusion → Order → Job → Host → List Entry → Decision
decision_of None o job host es = decided o job host es
decision_of (Some x) (order.Done a) job host es = concluded x a job es
decision_of (Some x) o job host es = decided o job host es

abbrev pub puts : List Line → Command → Command
puts ls c = record c { lines = ls; phase = Putting }

abbrev pub hands_in : Option Outcome → Attempt → Command → Command
hands_in None a c = goes (Claiming a) c
hands_in (Some o) a c = over o c

-- a winner's one file is linked; of a folder the list is read first
abbrev pub publishes_one : Handed → Win → Command → Command
publishes_one (handed.File f bytes) w c = record c { todo = link_of w.attempt f ∷ []; phase = Linking w }
publishes_one (handed.Folder bytes) w c = goes (ReadingList w) c

abbrev pub publishes : List Win → Command → Command
publishes [] c = record c { todo = marking; phase = Marking }
publishes (w ∷ rest) c = publishes_one w.handed w (record c { left = rest })

abbrev pub publishes_all : Command → Command
publishes_all c = if c.is_shown then puts (line.Published ∷ []) c else publishes (wins c.job c.entries c.job.tasks) c

abbrev pub publishes_unless : Option Outcome → Command → Command
publishes_unless None c = publishes_all c
publishes_unless (Some o) c = over o c

-- what is left of an attempt that can't win any more is removed
abbrev pub empties : Attempt → Outcome → Outcome → Phase
empties a (outcome.Stands stands.Beaten) o = Emptying a o
empties a (outcome.Stands stands.GivenUp) o = Emptying a o
empties a (outcome.Stands stands.JobOver) o = Emptying a o
empties a other o = Over o

abbrev pub clears_up : Order → Outcome → Phase
clears_up (order.Done a) o = empties a o o
clears_up (order.Fail a) o = empties a o o
clears_up other o = Over o

-- once the job is published for good, what is left of all attempts is
abbrev pub clears : Order → Bool → Outcome → Phase
clears (order.Ask a) published o = Over o
clears other true o = EmptyingAll o
clears other false o = clears_up other o

unfoldable pub acts : Decision → Command → Command
acts (Ends o) c = goes (clears c.order (is_published (lines_of c.entries)) o) c
acts (Publishes o) c = publishes_unless c.amiss c
acts (HandsIn a) c = hands_in c.amiss a c
acts (Puts ls) c = puts ls c
acts (Begins ls) c = puts ls c
acts Forgets c = goes Forgetting c

abbrev pub decides : Command → Command
decides c = acts (decision_of c.conclusion c.order c.job c.host c.entries) c

-- ---- its own entry is durable

abbrev pub with_start : Line → List Attempt → List Attempt
with_start (line.Started a) more = a ∷ more
with_start _ more = more

-- the attempts that these lines begin
unfoldable pub begun_by : List Line → List Attempt
begun_by [] = []
begun_by (l ∷ ls) = with_start l (begun_by ls)

abbrev pub makes_work : List Attempt → Command → Command
makes_work [] c = decides c
makes_work (a ∷ rest) c = record c { begun = rest; phase = MakingWork a }

-- who was asked to begin one attempt ends with it
abbrev pub has_begun : Order → Attempt → Command → Command
has_begun order.StartNext a c = over (outcome.Started a) c
has_begun (order.StartAt n) a c = over (outcome.Started a) c
has_begun (order.StartOver n) a c = over (outcome.Started a) c
has_begun other a c = decides c

abbrev pub work_made : List Attempt → Attempt → Command → Command
work_made [] a c = has_begun c.order a c
work_made (b ∷ rest) a c = makes_work (b ∷ rest) c

-- ---- handing in

abbrev pub concludes : Conclusion → Command → Command
concludes x c = decides (record c { conclusion = Some x })

abbrev pub hands_in_those : List Item → Attempt → Command → Command
hands_in_those [] a c = drops_for outcome.NoFile a c
hands_in_those (i ∷ more) a c = record c { items = i ∷ more; todo = handing c.folders a (i ∷ more); phase = HandingIn a }

abbrev pub checked : Option Handed → List Item → Attempt → Command → Command
checked (Some h) items a c = hands_in_those items a c
checked None [] a c = drops_for outcome.NoFile a c
checked None (i ∷ more) a c = drops_for outcome.NotAFile a c

abbrev pub after_drop : Option Outcome → Attempt → Command → Command
after_drop None a c = goes (SyncingKept a) c
after_drop (Some o) a c = goes Reading c

abbrev pub succeeds : Option Handed → Command → Command
succeeds (Some h) c = concludes (conclusion.Succeeded h) c
succeeds None c = finds outcome.NoFile c

-- a file's sync that failed may be followed by one that answers well and does not mean it
abbrev pub step_failed : List Step → Attempt → Command → Command
step_failed (step.SyncFile p ∷ rest) a c = concludes conclusion.Failed c
step_failed other a c = drops_for outcome.Failed a c

-- the head of what is to be done was done
abbrev pub handed_on : List Step → Attempt → Command → Command
handed_on (s ∷ t ∷ rest) a c = record c { todo = t ∷ rest; phase = HandingIn a }
handed_on other a c = record c { todo = []; phase = DroppingNote a }

abbrev pub handing_heard : Reply → Attempt → Command → Command
handing_heard Done a c = handed_on c.todo a c
handing_heard Missing a c = drops_for outcome.NoFile a c
handing_heard Grew a c = drops_for outcome.StillWritten a c
handing_heard Failed a c = step_failed c.todo a c
handing_heard other a c = drops_for outcome.Failed a c

-- ---- publishing

abbrev pub linked_on : List Step → Win → Command → Command
linked_on (s ∷ t ∷ rest) w c = record c { todo = t ∷ rest; phase = Linking w }
linked_on other w c = publishes c.left (record c { todo = [] })

abbrev pub linking_heard : Reply → Win → Command → Command
linking_heard Done w c = linked_on c.todo w c
linking_heard Taken w c = goes (Comparing w) c
linking_heard Missing w c = finds (outcome.Vanished w.attempt) c
linking_heard other w c = finds outcome.Failed c

-- what stands at the name is what the step makes there
abbrev pub is_same : List Step → Node → Bool
is_same (step.Link from to file ∷ rest) (node.File f) = f == file
is_same (step.MakeFolder p ∷ rest) node.Folder = true
is_same other n = false

abbrev pub compared : Node → Win → Command → Command
compared n w c = if is_same c.todo n then linked_on c.todo w c else finds (outcome.Foreign w.attempt) c

abbrev pub comparing_heard : Reply → Win → Command → Command
comparing_heard (Found n) w c = compared n w c
comparing_heard Missing w c = finds (outcome.Vanished w.attempt) c
comparing_heard Odd w c = finds (outcome.Foreign w.attempt) c
comparing_heard other w c = finds outcome.Failed c

abbrev pub marked_on : List Step → Command → Command
marked_on (s ∷ t ∷ rest) c = record c { todo = t ∷ rest; phase = Marking }
marked_on other c = decides (record c { todo = []; is_shown = true })

-- a marker that is there is ours: of anybody else's the answer is Odd
abbrev pub marker_taken : List Step → Command → Command
marker_taken (step.LinkMarker ∷ rest) c = marked_on (step.LinkMarker ∷ rest) c
marker_taken other c = finds outcome.Failed c

abbrev pub marking_heard : Reply → Command → Command
marking_heard Done c = marked_on c.todo c
marking_heard Taken c = marker_taken c.todo c
marking_heard other c = finds outcome.Failed c

-- ---- the log

abbrev pub log_synced : Reply → Command → Command
log_synced Done c = decides c
log_synced other c = over outcome.NotKnown c

abbrev pub put_synced : Reply → Command → Command
put_synced Done c = makes_work (begun_by c.lines) c
put_synced other c = over outcome.NotKnown c

abbrev pub put_heard : Reply → Command → Command
put_heard Done c = record c { entries = c.entries ++ own_entry c ∷ []; phase = SyncingPut }
put_heard Taken c = goes ReadingOn c
put_heard other c = over outcome.NotKnown c

abbrev pub same_origin : Origin → Origin → Bool
same_origin o p = (o.boot == p.boot) && ((o.time == p.time) && (o.id == p.id))

-- more entries are known
abbrev pub knows : List Entry → Command → Command
knows es c = record c { entries = c.entries ++ es; phase = SyncingLog }

-- who finds its own entry at the name that it put has put it
abbrev pub reads_on : List Entry → Command → Command
reads_on [] c = knows [] c
reads_on (e ∷ es) c = if same_origin e.origin c.origin then record c { entries = c.entries ++ e ∷ es; lines = e.lines; phase = SyncingPut } else knows (e ∷ es) c

-- ---- the answers

abbrev pub claimed : Reply → Attempt → Command → Command
claimed Done a c = goes (TakingNote a) c
claimed Taken a c = goes (TakingNote a) c
claimed Missing a c = finds outcome.NoFile c
claimed other a c = finds outcome.Failed c

abbrev pub note_heard : Reply → Attempt → Command → Command
note_heard Done a c = goes (ListingKept a) c
note_heard Missing a c = finds outcome.NoFile c
note_heard Held a c = finds outcome.StillSyncing c
note_heard Dead a c = concludes conclusion.Interrupted c
note_heard other a c = finds outcome.Failed c

abbrev pub not_listed : Reply → Attempt → Command → Command
not_listed Missing a c = drops_for outcome.NoFile a c
not_listed Odd a c = drops_for outcome.NotAFile a c
not_listed other a c = drops_for outcome.Failed a c

abbrev pub kept_synced : Reply → Command → Command
kept_synced Done c = succeeds (handed_in c.folders c.items) c
kept_synced other c = finds outcome.Failed c

abbrev pub not_read : Reply → Win → Command → Command
not_read Missing w c = finds (outcome.Vanished w.attempt) c
not_read Odd w c = finds (outcome.Vanished w.attempt) c
not_read other w c = finds outcome.Failed c

abbrev pub work_heard : Reply → Attempt → Command → Command
work_heard Done a c = work_made c.begun a c
work_heard Taken a c = work_made c.begun a c
work_heard other a c = over outcome.Failed c

abbrev pub forgets : Reply → Command → Command
forgets Done c = goes SyncingForgotten c
forgets Missing c = goes SyncingForgotten c
forgets other c = over outcome.Failed c

abbrev pub forgotten : Reply → Command → Command
forgotten Done c = over outcome.Finished c
forgotten other c = over outcome.Failed c

unfoldable pub hears : Phase → Reply → Command → Command
hears Reading reply c = over outcome.Failed c
hears SyncingLog reply c = log_synced reply c
hears Putting reply c = put_heard reply c
hears SyncingPut reply c = put_synced reply c
hears ReadingOn reply c = over outcome.NotKnown c
hears (MakingWork a) reply c = work_heard reply a c
hears (Claiming a) reply c = claimed reply a c
hears (TakingNote a) reply c = note_heard reply a c
hears (ListingKept a) reply c = not_listed reply a c
hears (HandingIn a) reply c = handing_heard reply a c
hears (DroppingNote a) reply c = after_drop c.amiss a c
hears (SyncingKept a) reply c = kept_synced reply c
hears (ReadingList w) reply c = not_read reply w c
hears (Linking w) reply c = linking_heard reply w c
hears (Comparing w) reply c = comparing_heard reply w c
hears Marking reply c = marking_heard reply c
hears (Emptying a o) reply c = over o c
hears (EmptyingAll o) reply c = over o c
hears Forgetting reply c = forgets reply c
hears SyncingForgotten reply c = forgotten reply c
hears (Over o) reply c = c

unfoldable pub reads : Phase → List Entry → Command → Command
reads Reading es c = knows es c
reads ReadingOn es c = reads_on es c
reads (Over o) es c = c
reads other es c = over outcome.Failed c

unfoldable pub lists : Phase → List Item → Command → Command
lists (ListingKept a) items c = checked (handed_in c.folders items) items a c
lists (ReadingList w) items c = record c { todo = publication w.attempt items; phase = Linking w }
lists (Over o) items c = c
lists other items c = over outcome.Failed c

-- what a command is once its call was answered; an answer of another call ends it as failed
abbrev pub heard : Command → Answer → Command
heard c (Says reply) = hears c.phase reply c
heard c (Told es) = reads c.phase es c
heard c (Listed items) = lists c.phase items c
