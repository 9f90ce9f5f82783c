-- What holds of a disk behind every move, and of the command that is running.
use Rattle.std.proofs.Common.{◌≡◌, ◌≢◌, ◌⊎◌, inl, inr, ◌<◌, ℕ, Bool, true, false, List, [], ◌∷◌, ◌++◌, Option, Some, None}
use Rattle.mr_ids.specs.Attempt.{Attempt}
use Rattle.mr_ids.specs.declared.id.JobId.{JobId}
use Rattle.mr_history.specs.declared.record.Record.{Record}
use Rattle.mr_history.specs.declared.record.Record.TheVariants.{AttemptStarted, MapSucceeded, ReduceSucceeded, AttemptFailed, JobUnsuccessful}
use Rattle.mr_history.specs.Winner.{winner_in}
use Rattle.mr_out_disk.specs.declared.place.Place.TheVariants.{Part, Marker, Kept, Work, Decision, Home}
use Rattle.mr_out_disk.specs.Disk.{Moments, Disk, records}
use Rattle.mr_out_steps.specs.declared.standing.Standing.{Standing}
use Rattle.mr_out_steps.specs.declared.standing.Standing.TheVariants.{Won}
use Rattle.mr_out_steps.specs.declared.order.Order.{Order}
use Rattle.mr_out_steps.specs.declared.order.Order.TheVariants as order
use Rattle.mr_out_steps.specs.declared.order.Outcome.{Outcome}
use Rattle.mr_out_steps.specs.declared.order.Outcome.TheVariants as outcome
use Rattle.mr_out_steps.specs.declared.phase.Phase.{Phase}
use Rattle.mr_out_steps.specs.declared.phase.Phase.TheVariants.{Reading, SyncingEnd, FindingClaim, FindingWork, Claiming, SyncingFile, SyncingClaim, Appending, Committing, DroppingClaim, DroppingWork, FindingDecision, Deciding, SyncingDecision, Listing, FindingKept, Linking, Comparing, SyncingParts, Marking, SyncingMarker, Emptying, FindingMarker, Forgetting, SyncingForgotten, MakingFolder, Over}
use Rattle.mr_out_steps.specs.Standing.{task_of, standing}
use Rattle.mr_out_steps.specs.Commands.{Command}
use Rattle.mr_out_model.specs.Worlds.{Setting, Telling, World}
use Rattle.mr_out_model.specs.Runs.{IsWriters}
use Rattle.mr_out_model.specs.Promises.{HasTold, HasToldLoss}
use Rattle.mr_out_model.proofs.Moments.{Every}
use Rattle.mr_out_model.proofs.Standings.{IsOpen, Why, HasLost}

-- what the promises speak of
pub record View : Type 0 where
  pub synced : List Record
  pub appended : List Record
  pub part : ℕ → Moments
  pub marker : Moments
  pub kept : Attempt → Moments
  pub decision : Moments
  pub home : Moments
  pub whole : ℕ → Bool

abbrev pub view : Disk → View
view d = record { synced = d.synced; appended = d.appended; part = λ n. d.moments (Part n); marker = d.moments Marker; kept = λ a. d.moments (Kept a); decision = d.moments Decision; home = d.moments Home; whole = d.is_whole }

abbrev pub all_records : View → List Record
all_records v = v.synced ++ v.appended

abbrev pub IsFile : ℕ → Option ℕ → Type 0
IsFile f x = x ≡ Some f

abbrev pub IsThere : Option ℕ → Type 0
IsThere None = ⊥
IsThere (Some f) = Unit {0}

abbrev pub IfThere : Type 0 → Option ℕ → Type 0
IfThere X None = Unit {0}
IfThere X (Some f) = X

abbrev pub IsGone : Option ℕ → Type 0
IsGone x = x ≡ None

abbrev pub IfGone : Type 0 → Option ℕ → Type 0
IfGone X None = X
IfGone X (Some f) = Unit {0}

-- the attempt is the recorded winner of its task
abbrev pub Wins : List Record → Attempt → Type 0
Wins rs a = winner_in rs a.task ≡ Some a

pub record PartOf (s : Setting) (synced : List Record) (h : Attempt → Option ℕ) (n f : ℕ) : Type 0 where
  pub winner : Attempt
  pub recorded : winner_in synced (task_of s.job n) ≡ Some winner
  pub handed : h winner ≡ Some f

abbrev pub IsPart : Setting → List Record → (Attempt → Option ℕ) → ℕ → Option ℕ → Type 0
IsPart s synced h n None = Unit {0}
IsPart s synced h n (Some f) = PartOf s synced h n f

-- a winner's file is visible for good
pub record Shown (part : ℕ → Moments) (h : Attempt → Option ℕ) (a : Attempt) : Type 0 where
  pub file : ℕ
  pub handed : h a ≡ Some file
  pub every : Every (IsFile file) (part a.task.number)

-- every task has a winner, and the winners' files are visible for good
pub record Stand (s : Setting) (synced : List Record) (part : ℕ → Moments) (h : Attempt → Option ℕ) : Type 0 where
  pub all : (n : ℕ) → n < s.tasks → (a : Attempt) × (winner_in synced (task_of s.job n) ≡ Some a)
  pub each : (a : Attempt) → Wins synced a → Shown part h a

-- and so is the marker
pub record Published (s : Setting) (synced : List Record) (part : ℕ → Moments) (marker : Moments) (h : Attempt → Option ℕ) : Type 0 where
  pub stand : Stand s synced part h
  pub marked : Every IsThere marker

-- under hold it was decided to publish, for good
abbrev pub IsReleased : Bool → Moments → Type 0
IsReleased hold decision = hold ≡ true → Every IsThere decision

-- where a winner's file is
abbrev pub IsStored : ℕ → Moments → Moments → Moments → Type 0
IsStored f kept part marker = Every (IsFile f) kept ⊎ (Every (IsFile f) part × Every IsThere marker)

pub record File (s : Setting) (whole : ℕ → Bool) (kept part marker : Moments) (h : Attempt → Option ℕ) (a : Attempt) : Type 0 where
  pub file : ℕ
  pub handed : h a ≡ Some file
  pub is_whole : whole file ≡ true
  pub writer : s.writer file ≡ a
  pub stored : IsStored file kept part marker

pub record OfJob (s : Setting) (a : Attempt) : Type 0 where
  pub task : a.task ≡ task_of s.job a.task.number
  pub number : a.task.number < s.tasks

pub record Core (s : Setting) (v : View) (h : Attempt → Option ℕ) : Type 0 where
  pub parts : (n : ℕ) → Every (IsPart s v.synced h n) (v.part n)
  pub marker : Every (IfThere (Stand s v.synced v.part h)) v.marker
  pub files : (a : Attempt) → Wins (all_records v) a → File s v.whole (v.kept a) (v.part a.task.number) v.marker h a
  pub of_job : (a : Attempt) → Wins (all_records v) a → OfJob s a
  pub kept : (a : Attempt) → Every (IsWriters s a) (v.kept a)
  pub released : (n : ℕ) → Every (IfThere (IsReleased s.hold v.decision)) (v.part n)
  pub released_mark : Every (IfThere (IsReleased s.hold v.decision)) v.marker
  pub forgotten : Every (IfGone (Published s v.synced v.part v.marker h)) v.home

-- ---- what was told

pub record Lost (synced all : List Record) (a : Attempt) : Type 0 where
  pub why : Why synced a
  pub never : Wins all a → ⊥

pub record Told (synced all : List Record) (ts : List Telling) : Type 0 where
  pub won : (a : Attempt) → HasTold ts a Won → Wins synced a
  pub lost : (a : Attempt) → HasToldLoss ts a → Lost synced all a

-- ---- the command that is running

-- it knows the records, and all of them are durable
pub record Known (synced appended rs : List Record) : Type 0 where
  pub records : rs ≡ synced
  pub none : appended ≡ []

-- the attempt's file was handed in
pub record Held (kept : Moments) (whole : ℕ → Bool) : Type 0 where
  pub file : ℕ
  pub now : kept.now ≡ Some file
  pub is_whole : whole file ≡ true

-- and that is durable
pub record Durable (kept : Moments) (whole : ℕ → Bool) : Type 0 where
  pub file : ℕ
  pub every : Every (IsFile file) kept
  pub is_whole : whole file ≡ true

abbrev pub Opens : Setting → View → Attempt → Type 0
Opens s v a = IsOpen s.job s.tasks v.synced a

abbrev pub MayAppend : Setting → View → Record → Type 0
MayAppend s v (ReduceSucceeded a bytes) = Opens s v a × Durable (v.kept a) v.whole
MayAppend s v (AttemptFailed a) = Wins v.synced a → ⊥
MayAppend s v (AttemptStarted a node) = Unit {0}
MayAppend s v (MapSucceeded a node incarnation) = Unit {0}
MayAppend s v JobUnsuccessful = Unit {0}

abbrev pub Fate : View → Record → Type 0
Fate v (ReduceSucceeded a bytes) = Unit {0}
Fate v (AttemptFailed a) = Wins v.synced a → ⊥
Fate v (AttemptStarted a node) = Unit {0}
Fate v (MapSucceeded a node incarnation) = Unit {0}
Fate v JobUnsuccessful = Unit {0}

abbrev pub IsAmong : Attempt → List Attempt → Type 0
IsAmong a [] = ⊥
IsAmong a (x ∷ xs) = (x ≡ a) ⊎ IsAmong a xs

abbrev pub AreWinners : List Record → List Attempt → Type 0
AreWinners rs [] = Unit {0}
AreWinners rs (x ∷ xs) = Wins rs x × AreWinners rs xs

-- a winner's file is visible
pub record Seen (part : ℕ → Moments) (h : Attempt → Option ℕ) (a : Attempt) : Type 0 where
  pub file : ℕ
  pub handed : h a ≡ Some file
  pub now : (part a.task.number).now ≡ Some file

-- every task has a winner, and the winners' files are visible but for these
pub record ToLink (s : Setting) (synced : List Record) (part : ℕ → Moments) (h : Attempt → Option ℕ) (left : List Attempt) : Type 0 where
  pub all : (n : ℕ) → n < s.tasks → (a : Attempt) × (winner_in synced (task_of s.job n) ≡ Some a)
  pub each : (a : Attempt) → Wins synced a → IsAmong a left ⊎ Seen part h a
  pub are : AreWinners synced left

-- how it stands is said of durable records
abbrev pub EndingOf : Setting → View → Order → Standing → Type 0
EndingOf s v (order.Done a) st = (v.appended ≡ []) × (standing s.job s.tasks v.synced a ≡ st)
EndingOf s v (order.Fail a) st = (v.appended ≡ []) × (standing s.job s.tasks v.synced a ≡ st)
EndingOf s v (order.Ask a) st = (v.appended ≡ []) × (standing s.job s.tasks v.synced a ≡ st)
EndingOf s v order.Resume st = Unit {0}
EndingOf s v order.Abort st = Unit {0}
EndingOf s v order.Publish st = Unit {0}
EndingOf s v order.Forget st = Unit {0}
EndingOf s v order.StartNext st = Unit {0}
EndingOf s v (order.StartAt n) st = Unit {0}
EndingOf s v (order.StartOver n) st = Unit {0}

-- the history is forgotten for good
abbrev pub FinishedOf : Moments → Order → Type 0
FinishedOf home order.Forget = Every IsGone home
FinishedOf home _ = Unit {0}

abbrev pub Ending : Setting → View → Order → Outcome → Type 0
Ending s v o (outcome.Stands st) = EndingOf s v o st
Ending s v o outcome.Finished = FinishedOf v.home o
Ending s v o outcome.AllWon = Unit {0}
Ending s v o (outcome.Started a) = Unit {0}
Ending s v o outcome.Busy = Unit {0}
Ending s v o outcome.JobOver = Unit {0}
Ending s v o outcome.NotAllWon = Unit {0}
Ending s v o outcome.Unpublished = Unit {0}
Ending s v o outcome.Full = Unit {0}
Ending s v o outcome.NoFile = Unit {0}
Ending s v o outcome.NotAFile = Unit {0}
Ending s v o outcome.StillWritten = Unit {0}
Ending s v o (outcome.Foreign a) = Unit {0}
Ending s v o (outcome.Vanished a) = Unit {0}
Ending s v o outcome.Failed = Unit {0}
Ending s v o outcome.NotKnown = Unit {0}
Ending s v o outcome.NoMemory = Unit {0}

abbrev pub KeptNow : View → Attempt → Option ℕ → Type 0
KeptNow v a None = Unit {0}
KeptNow v a (Some file) = (v.kept a).now ≡ Some file

abbrev pub At : Setting → View → (Attempt → Option ℕ) → Command → Phase → Type 0
At s v h c Reading = Unit {0}
At s v h c SyncingEnd = c.records ≡ all_records v
At s v h c (FindingClaim a) = Known v.synced v.appended c.records × Opens s v a
At s v h c (FindingWork a) = Known v.synced v.appended c.records × Opens s v a
At s v h c (Claiming a) = Known v.synced v.appended c.records × Opens s v a
At s v h c (SyncingFile a) = Known v.synced v.appended c.records × Opens s v a
At s v h c (SyncingClaim a) = Known v.synced v.appended c.records × Opens s v a × Held (v.kept a) v.whole
At s v h c (Appending r) = Known v.synced v.appended c.records × MayAppend s v r
At s v h c (Committing r) = (c.records ≡ v.synced) × (v.appended ≡ r ∷ []) × Fate v r
At s v h c (DroppingClaim a) = Known v.synced v.appended c.records × (Wins v.synced a → ⊥)
At s v h c (DroppingWork a) = Known v.synced v.appended c.records
At s v h c FindingDecision = Known v.synced v.appended c.records × ToLink s v.synced v.part h c.left
At s v h c Deciding = Known v.synced v.appended c.records × ToLink s v.synced v.part h c.left × (c.order ≡ order.Publish)
At s v h c SyncingDecision = Known v.synced v.appended c.records × ToLink s v.synced v.part h c.left × IsThere v.decision.now
At s v h c Listing = Known v.synced v.appended c.records × ToLink s v.synced v.part h c.left × IsReleased s.hold v.decision
At s v h c (FindingKept a) = Known v.synced v.appended c.records × ToLink s v.synced v.part h (a ∷ c.left) × IsReleased s.hold v.decision
At s v h c (Linking a file) = Known v.synced v.appended c.records × ToLink s v.synced v.part h (a ∷ c.left) × KeptNow v a (Some file) × IsReleased s.hold v.decision
At s v h c (Comparing a file) = Known v.synced v.appended c.records × ToLink s v.synced v.part h (a ∷ c.left) × IsReleased s.hold v.decision
At s v h c SyncingParts = Known v.synced v.appended c.records × ToLink s v.synced v.part h [] × IsReleased s.hold v.decision
At s v h c Marking = Known v.synced v.appended c.records × Stand s v.synced v.part h × IsReleased s.hold v.decision
At s v h c SyncingMarker = Known v.synced v.appended c.records × Stand s v.synced v.part h × IsThere v.marker.now
At s v h c (Emptying a) = Known v.synced v.appended c.records × Stand s v.synced v.part h × Every IsThere v.marker
At s v h c FindingMarker = Known v.synced v.appended c.records
At s v h c Forgetting = Known v.synced v.appended c.records × Stand s v.synced v.part h × Every IsThere v.marker
At s v h c SyncingForgotten = IsGone v.home.now
At s v h c (MakingFolder a) = Unit {0}
At s v h c (Over o) = Ending s v c.order o

-- a command of the setting's job
pub record Fits (s : Setting) (j : JobId) (n : ℕ) (b : Bool) : Type 0 where
  pub job : j ≡ s.job
  pub tasks : n ≡ s.tasks
  pub hold : b ≡ s.hold

abbrev pub IsOf : Setting → Command → Type 0
IsOf s c = Fits s c.job c.tasks c.hold

pub record Amid (s : Setting) (v : View) (h : Attempt → Option ℕ) (c : Command) : Type 0 where
  pub fits : IsOf s c
  pub here : At s v h c c.phase

abbrev pub AmidAny : Setting → View → (Attempt → Option ℕ) → Option Command → Type 0
AmidAny s v h None = Unit {0}
AmidAny s v h (Some c) = Amid s v h c

pub record Holds (s : Setting) (w : World) : Type 0 where
  pub core : Core s (view w.disk) w.handed
  pub work : (a : Attempt) → Every (IsWriters s a) (w.disk.moments (Work a))
  pub told : Told w.disk.synced (records w.disk) w.told
  pub amid : AmidAny s (view w.disk) w.handed w.running
