-- What holds after every move: of the log, of each command that is under way, and of what was said.
use Rattle.std.proofs.Common.{◌≡◌, ◌⊎◌, ℕ, Bool, true, false, List, [], ◌∷◌, Option, Some, None}
use Rattle.std.specs.List.{list_any}
use Rattle.mr_ids.specs.Attempt.{Attempt}
use Rattle.mr_ids.specs.declared.id.TaskId.{TaskId}
use Rattle.mr_log_entries.specs.declared.line.Line.{Line}
use Rattle.mr_log_entries.specs.declared.entry.Entry.{Entry}
use Rattle.mr_log_entries.specs.declared.entry.Origin.{Origin}
use Rattle.mr_log_entries.specs.Recorded.{lines_of}
use Rattle.mr_log_entries.specs.declared.line.Handed.TheVariants as handed
use Rattle.mr_log_disk.specs.declared.place.Place.{Place}
use Rattle.mr_log_disk.specs.declared.place.Place.TheVariants.{Marker}
use Rattle.mr_log_disk.specs.declared.place.Folder.TheVariants as folder
use Rattle.mr_log_disk.specs.Names.{IsVisible, Moments}
use Rattle.mr_log_standing.specs.declared.standing.Win.{Win}
use Rattle.mr_log_disk.specs.declared.call.Call.{Call}
use Rattle.mr_log_disk.specs.declared.call.Call.TheVariants as call
use Rattle.mr_log_standing.specs.declared.job.Job.{Job}
use Rattle.mr_log_standing.specs.declared.order.Order.{Order}
use Rattle.mr_log_standing.specs.declared.order.Outcome.{Outcome}
use Rattle.mr_log_standing.specs.declared.order.Outcome.TheVariants as outcome
use Rattle.mr_log_standing.specs.declared.standing.Standing.{Standing}
use Rattle.mr_log_standing.specs.Host.{Host}
use Rattle.mr_log_standing.specs.Standing.{win_of, is_start_of, is_published, is_publishable, standing}
use Rattle.mr_log_steps.specs.declared.phase.Phase.{Phase}
use Rattle.mr_log_steps.specs.declared.phase.Phase.TheVariants.{Reading, SyncingLog, Putting, SyncingPut, ReadingOn, MakingWork, Claiming, TakingNote, ListingKept, HandingIn, DroppingNote, SyncingKept, ReadingList, Linking, Comparing, Marking, Emptying, EmptyingAll, Forgetting, SyncingForgotten, Over}
use Rattle.mr_log_steps.specs.Commands.{Command, own_entry}
use Rattle.mr_log_steps.specs.Turns.{begun_by}
use Rattle.mr_log_steps.specs.Lists.{marking}
use Rattle.mr_log_steps.specs.declared.phase.Step.{Step}
use Rattle.mr_log_steps.specs.declared.phase.Step.TheVariants as step
use Rattle.mr_log_model.specs.Worlds.{Setting, World}
use Rattle.mr_log_model.specs.Visible.{LinksOwn}
use Rattle.mr_log_model.proofs.Names.{Every, IfThere, There}
use Rattle.mr_log_model.proofs.Steps.{Progress, ToShow, AreWins, AllShown, IsShown}
use Rattle.mr_log_model.specs.Promises.{IsLog, with_last, IsFront, IsDecided, AreDecided, IsAbout, HasSaid, HasSaidStart, IsAllowed, IsAmong}

-- ---- what is said, and what is made

-- the attempt stands so by entries that are durable
pub record Stood (job : Job) (durable : List Entry) (a : Attempt) (st : Standing) : Type 0 where
  pub by : List Entry
  pub front : IsFront by durable
  pub stands : standing job (lines_of by) a ≡ st

-- the call is allowed by entries that are durable
pub record Permits (job : Job) (durable : List Entry) (x : Call) : Type 0 where
  pub by : List Entry
  pub front : IsFront by durable
  pub allows : IsAllowed job (lines_of by) x

-- what is said of an attempt is so
pub record IsSo (job : Job) (durable : List Entry) (o : Order) (end : Outcome) : Type 0 where
  pub stands : (a : Attempt) (st : Standing) → IsAbout o a → end ≡ outcome.Stands st → Stood job durable a st
  pub begun : (a : Attempt) → end ≡ outcome.Started a → Permits job durable (call.MakeWork a)

-- ---- a command

-- these attempts were begun
abbrev pub AreBegun : List Line → List Attempt → Type 0
AreBegun ls [] = Unit {0}
AreBegun ls (a ∷ more) = (list_any (is_start_of a) ls ≡ true) × AreBegun ls more

-- what a command knows of the log, by its phase
pub data Stage : Type 0 where
  -- a front of it, some of which may not be durable
  Found : Stage
  -- such a front, and its own entry in it
  Noted : Stage
  -- a durable front, which its own entry may follow
  Makes : Stage
  -- a durable front
  Knows : Stage
  -- one in which this attempt was begun, and those whose folders are still to be made
  Opens : (a : Attempt) → Stage
  -- one by which the job may be published
  Shows : Stage
  -- one by which it is published for good
  Drops : Stage
  -- what it says
  Says : (end : Outcome) → Stage
  -- what it says once this call was made
  Clears : (x : Call) → (end : Outcome) → Stage

abbrev pub stage : Phase → Stage
stage Reading = Knows
stage SyncingLog = Found
stage Putting = Makes
stage SyncingPut = Noted
stage ReadingOn = Knows
stage (MakingWork a) = Opens a
stage (Claiming a) = Knows
stage (TakingNote a) = Knows
stage (ListingKept a) = Knows
stage (HandingIn a) = Knows
stage (DroppingNote a) = Knows
stage (SyncingKept a) = Knows
stage (ReadingList w) = Shows
stage (Linking w) = Shows
stage (Comparing w) = Shows
stage Marking = Shows
stage (Emptying a o) = Clears (call.Empty a) o
stage (EmptyingAll o) = Clears call.EmptyAll o
stage Forgetting = Drops
stage SyncingForgotten = Knows
stage (Over o) = Says o

abbrev pub At : Job → List Entry → List Entry → Order → List Entry → Entry → List Attempt → Stage → Type 0
At job durable all o entries own begun Found = IsFront entries all
At job durable all o entries own begun Noted = IsFront entries all × AreBegun (lines_of entries) (begun_by own.lines)
At job durable all o entries own begun Makes = IsFront entries durable × IsDecided job entries own
At job durable all o entries own begun Knows = IsFront entries durable
At job durable all o entries own begun (Opens a) = IsFront entries durable × AreBegun (lines_of entries) (a ∷ begun)
At job durable all o entries own begun Shows = IsFront entries durable × (is_publishable job (lines_of entries) ≡ true)
At job durable all o entries own begun Drops = IsFront entries durable × (is_published (lines_of entries) ≡ true)
At job durable all o entries own begun (Says end) = IsSo job durable o end
At job durable all o entries own begun (Clears x end) = IsSo job durable o end × Permits job durable x

-- an outcome that says nothing of an attempt
abbrev pub is_plain : Outcome → Bool
is_plain (outcome.Stands st) = false
is_plain (outcome.Started a) = false
is_plain _ = true

abbrev pub IsPlain : Option Outcome → Type 0
IsPlain None = Unit {0}
IsPlain (Some o) = is_plain o ≡ true

-- ---- what a command has published

-- what is left to be done once the winners' names are durable, and once the marker is there
abbrev pub marker_next : List Step
marker_next = step.LinkMarker ∷ step.SyncFolder folder.Output ∷ []

abbrev pub marker_last : List Step
marker_last = step.SyncFolder folder.Output ∷ []

abbrev pub MarkAt : Setting → List Entry → (Place → Moments) → List Step → Type 0
MarkAt s durable v todo = ((todo ≡ marking) × ToShow s durable v []) ⊎ (((todo ≡ marker_next) × AllShown s durable v) ⊎ ((todo ≡ marker_last) × AllShown s durable v × There (v Marker)))

-- the winners that are to be published, and which they are
pub record Publishing (s : Setting) (durable : List Entry) (v : Place → Moments) (ws : List Win) : Type 0 where
  pub to_show : ToShow s durable v ws
  pub wins : AreWins durable ws

abbrev pub SeesAt : Setting → List Entry → (Place → Moments) → List Line → List Win → List Step → Phase → Type 0
SeesAt s durable v lines left todo Putting = (is_published lines ≡ false) ⊎ IsShown s durable v
SeesAt s durable v lines left todo (ReadingList w) = Publishing s durable v (w ∷ left) × ((bytes : ℕ) × (w.handed ≡ handed.Folder bytes))
SeesAt s durable v lines left todo (Linking w) = Publishing s durable v (w ∷ left) × Progress s v w todo
SeesAt s durable v lines left todo (Comparing w) = Publishing s durable v (w ∷ left) × Progress s v w todo
SeesAt s durable v lines left todo Marking = MarkAt s durable v todo
SeesAt s durable v lines left todo _ = Unit {0}

pub record Fits (s : Setting) (durable : List Entry) (v : Place → Moments) (is : Job) (host : Host) (origin : Origin) (found : Option Outcome) (made : Bool) : Type 0 where
  pub job : is ≡ s.job
  pub boot : origin.boot ≡ host.boot
  pub amiss : IsPlain found
  -- a command that has made the marker durable
  pub visible : made ≡ true → IsShown s durable v

pub record Amid (s : Setting) (v : Place → Moments) (durable all : List Entry) (c : Command) : Type 0 where
  pub fits : Fits s durable v c.job c.host c.origin c.amiss c.is_shown
  pub here : At c.job durable all c.order c.entries (own_entry c) c.begun (stage c.phase)
  pub sees : SeesAt s durable v c.lines c.left c.todo c.phase

abbrev pub AmidAny : Setting → (Place → Moments) → List Entry → List Entry → Option Command → Type 0
AmidAny s v durable all None = Unit {0}
AmidAny s v durable all (Some c) = Amid s v durable all c

-- what is linked so is a recorded winner's
pub record Source (durable : List Entry) (from to : Place) : Type 0 where
  pub win : Win
  pub task : TaskId
  pub is : win_of durable task ≡ Some win
  pub own : LinksOwn win.attempt from to

-- the job may be published, by durable entries
pub record MayShow (job : Job) (durable : List Entry) : Type 0 where
  pub by : List Entry
  pub front : IsFront by durable
  pub may : is_publishable job (lines_of by) ≡ true

-- ---- all

pub record Holds (s : Setting) (w : World) (durable : List Entry) (last : Option Entry) : Type 0 where
  pub log : IsLog w.disk durable last
  pub decided : AreDecided s.job [] (with_last durable last)
  pub amid : (k : ℕ) → AmidAny s w.disk.names durable (with_last durable last) (w.running k)
  pub early : (p : Place) → IsVisible p → Every (IfThere (MayShow s.job durable)) (w.disk.names p)
  pub marker : Every (IfThere (AllShown s durable w.disk.names)) (w.disk.names Marker)
  pub published : is_published (lines_of (with_last durable last)) ≡ true → IsShown s durable w.disk.names
  pub sourced : (from to : Place) → IsAmong (call.Link from to) w.calls → Source durable from to
  pub allowed : (x : Call) → IsAmong x w.calls → Permits s.job durable x
  pub said : (a : Attempt) (st : Standing) → HasSaid w.said a st → Stood s.job durable a st
  pub started : (a : Attempt) → HasSaidStart w.said a → Permits s.job durable (call.MakeWork a)
