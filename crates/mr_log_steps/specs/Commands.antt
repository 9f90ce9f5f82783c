-- What a command is between two calls, and which call it makes next. That a command is cut into single calls is our own: it may be killed
-- between any two.
use Rattle.std.specs.Prelude.{Bool, false, List, [], ◌∷◌, length, Option, Some, None}
use Rattle.mr_ids.specs.Attempt.{Attempt}
use Rattle.mr_log_entries.specs.declared.line.Line.{Line}
use Rattle.mr_log_entries.specs.declared.entry.Entry.{Entry}
use Rattle.mr_log_entries.specs.declared.entry.Origin.{Origin}
use Rattle.mr_log_disk.specs.declared.place.Place.{Place}
use Rattle.mr_log_disk.specs.declared.place.Place.TheVariants.{Marker}
use Rattle.mr_log_disk.specs.declared.place.Folder.TheVariants as folder
use Rattle.mr_log_disk.specs.declared.place.Item.{Item}
use Rattle.mr_log_disk.specs.declared.call.Call.{Call}
use Rattle.mr_log_disk.specs.declared.call.Call.TheVariants as call
use Rattle.mr_log_standing.specs.declared.job.Job.{Job}
use Rattle.mr_log_standing.specs.Host.{Host}
use Rattle.mr_log_standing.specs.declared.order.Order.{Order}
use Rattle.mr_log_standing.specs.declared.order.Outcome.{Outcome}
use Rattle.mr_log_standing.specs.declared.decision.Conclusion.{Conclusion}
use Rattle.mr_log_standing.specs.declared.standing.Win.{Win}
use Rattle.mr_log_steps.specs.declared.phase.Step.{Step}
use Rattle.mr_log_steps.specs.declared.phase.Step.TheVariants as step
use Rattle.mr_log_steps.specs.declared.phase.Phase.{Phase}
use Rattle.mr_log_steps.specs.declared.phase.Phase.TheVariants.{Reading, SyncingLog, Putting, SyncingPut, ReadingOn, MakingWork, Claiming, TakingNote, ListingKept, HandingIn, DroppingNote, SyncingKept, ReadingList, Linking, Comparing, Marking, Emptying, EmptyingAll, Forgetting, SyncingForgotten, Over}

pub record Command : Type 0 where
  pub order : Order
  pub job : Job
  -- whether a task hands in a folder
  pub folders : Bool
  pub host : Host
  -- where its entries come from
  pub origin : Origin
  -- the front of the log that it knows
  pub entries : List Entry
  -- the lines that it puts
  pub lines : List Line
  -- what handing in came to, once it did
  pub conclusion : Option Conclusion
  -- what was found amiss, which is said only if it still matters when the log was read again
  pub amiss : Option Outcome
  -- what is handed in
  pub items : List Item
  -- the single calls that are still to be made
  pub todo : List Step
  -- the winners that are still to be published
  pub left : List Win
  -- the attempts whose folders are still to be made
  pub begun : List Attempt
  -- whether all is visible for good, the marker too
  pub is_shown : Bool
  pub phase : Phase

abbrev pub opening : Order → Job → Bool → Host → Origin → Command
opening order job folders host origin = record {
  order = order;
  job = job;
  folders = folders;
  host = host;
  origin = origin;
  entries = [];
  lines = [];
  conclusion = None;
  amiss = None;
  items = [];
  todo = [];
  left = [];
  begun = [];
  is_shown = false;
  phase = Reading;
}

abbrev pub own_entry : Command → Entry
own_entry c = record { lines = c.lines; origin = c.origin }

-- the call of a step of what is handed in; what is no such step only syncs
abbrev pub handing_call : Attempt → Command → Step → Call
handing_call a c (step.SyncFile p) = call.SyncFile p
handing_call a c (step.SyncFolder f) = call.SyncFolder f
handing_call a c step.WriteList = call.WriteList a c.origin.id c.items
handing_call a c other = call.SyncFolder folder.Kept

-- that of one of what is published
abbrev pub publishing_call : Step → Call
publishing_call (step.SyncFolder f) = call.SyncFolder f
publishing_call (step.Link from to file) = call.Link from to
publishing_call (step.MakeFolder p) = call.MakeFolder p
publishing_call step.LinkMarker = call.LinkMarker
publishing_call other = call.SyncFolder folder.Output

-- the name that a step makes
abbrev pub place_of : Step → Place
place_of (step.Link from to file) = to
place_of (step.MakeFolder p) = p
place_of other = Marker

abbrev pub first_call : (Step → Call) → List Step → Option Call
first_call f [] = None
first_call f (s ∷ more) = Some (f s)

abbrev pub first_place : List Step → Option Call
first_place [] = None
first_place (s ∷ more) = Some (call.Look (place_of s))

abbrev pub call_in : Phase → Command → Option Call
call_in Reading c = Some (call.ReadLog (length c.entries))
call_in SyncingLog c = Some (call.SyncFolder folder.Log)
call_in Putting c = Some (call.Put (length c.entries) (own_entry c))
call_in SyncingPut c = Some (call.SyncFolder folder.Log)
call_in ReadingOn c = Some (call.ReadLog (length c.entries))
call_in (MakingWork a) c = Some (call.MakeWork a)
call_in (Claiming a) c = Some (call.Claim a)
call_in (TakingNote a) c = Some (call.TakeNote a)
call_in (ListingKept a) c = Some (call.ListKept a)
call_in (HandingIn a) c = first_call (handing_call a c) c.todo
call_in (DroppingNote a) c = Some (call.DropNote a)
call_in (SyncingKept a) c = Some (call.SyncFolder folder.Kept)
call_in (ReadingList w) c = Some (call.ReadList w.attempt w.id)
call_in (Linking w) c = first_call publishing_call c.todo
call_in (Comparing w) c = first_place c.todo
call_in Marking c = first_call publishing_call c.todo
call_in (Emptying a o) c = Some (call.Empty a)
call_in (EmptyingAll o) c = Some call.EmptyAll
call_in Forgetting c = Some call.Forget
call_in SyncingForgotten c = Some (call.SyncFolder folder.Output)
call_in (Over o) c = None

abbrev pub next_call : Command → Option Call
next_call c = call_in c.phase c

abbrev pub outcome_in : Phase → Option Outcome
outcome_in (Over o) = Some o
outcome_in _ = None
