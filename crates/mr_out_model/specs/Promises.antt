-- What holds behind every move of a run, kills and power cuts among them. That a job's output is whole where its marker is there is what the
-- committer document promises of a job's commit; that of a reduce one execution counts is Dean and Ghemawat's (3.3).
use Rattle.std.specs.Prelude.{◌≡◌, ◌≢◌, ◌⊎◌, ◌<◌, ℕ, true, List, [], ◌∷◌, Some, None}
use Rattle.mr_ids.specs.Attempt.{Attempt}
use Rattle.mr_history.specs.Winner.{winner_in}
use Rattle.mr_out_disk.specs.declared.place.Place.{Place}
use Rattle.mr_out_disk.specs.declared.place.Place.TheVariants.{Part, Marker, Decision, Home}
use Rattle.mr_out_disk.specs.Disk.{seen}
use Rattle.mr_out_disk.specs.Cuts.{IsFront}
use Rattle.mr_out_steps.specs.declared.standing.Standing.{Standing}
use Rattle.mr_out_steps.specs.declared.standing.Standing.TheVariants.{Won, Beaten, GivenUp, JobOver}
use Rattle.mr_out_steps.specs.declared.order.Order.{Order}
use Rattle.mr_out_steps.specs.declared.order.Order.TheVariants as order
use Rattle.mr_out_steps.specs.declared.order.Outcome.{Outcome}
use Rattle.mr_out_steps.specs.declared.order.Outcome.TheVariants as outcome
use Rattle.mr_out_steps.specs.declared.phase.Phase.TheVariants.{Over}
use Rattle.mr_out_steps.specs.Standing.{task_of}
use Rattle.mr_out_steps.specs.Commands.{Command}
use Rattle.mr_out_model.specs.Worlds.{Setting, Telling, World, begun}
use Rattle.mr_out_model.specs.Runs.{Move, Starts, Answers, Ends, Stops, Writes, Names, Cuts, after, IsRun}

-- The file is the very one that the recorded winner of the task handed in, all of it durable.
pub record IsWinners (s : Setting) (w : World) (n f : ℕ) : Type 0 where
  pub winner : Attempt
  pub recorded : winner_in w.disk.synced (task_of s.job n) ≡ Some winner
  pub handed : w.handed winner ≡ Some f
  pub whole : w.disk.is_whole f ≡ true
  pub number : n < s.tasks

-- a command told this
abbrev pub HasTold : List Telling → Attempt → Standing → Type 0
HasTold [] a standing = ⊥
HasTold (t ∷ ts) a standing = ((t.attempt ≡ a) × (t.standing ≡ standing)) ⊎ HasTold ts a standing

-- it told that the attempt lost
abbrev pub HasToldLoss : List Telling → Attempt → Type 0
HasToldLoss ts a = HasTold ts a Beaten ⊎ (HasTold ts a GivenUp ⊎ HasTold ts a JobOver)

-- a name of which a reader hears
abbrev pub IsVisible : Place → Type 0
IsVisible (Part n) = Unit {0}
IsVisible Marker = Unit {0}
IsVisible _ = ⊥

-- What holds of a world w, and of any later one v.
pub record Promises (s : Setting) (w v : World) : Type 0 where
  -- durable records are a front of all later ones
  pub records : IsFront w.disk.synced v.disk.synced
  -- whatever part is visible is the winner's file
  pub visible : (n f : ℕ) → seen w.disk (Part n) ≡ Some f → IsWinners s w n f
  -- where the marker is there, each task's part is
  pub marked : seen w.disk Marker ≢ None → (n : ℕ) → n < s.tasks → (f : ℕ) × (seen w.disk (Part n) ≡ Some f)
  -- and then no part differs later, nor what is in it
  pub parts_stay : seen w.disk Marker ≢ None → (n : ℕ) → seen v.disk (Part n) ≡ seen w.disk (Part n)
  pub bytes_stay : seen w.disk Marker ≢ None → (n f : ℕ) → seen w.disk (Part n) ≡ Some f → v.disk.bytes f ≡ w.disk.bytes f
  -- under hold, where anything is visible it was decided to publish, and no power cut takes that back
  pub held : s.hold ≡ true → (p : Place) → IsVisible p → seen w.disk p ≢ None → seen v.disk Decision ≢ None
  -- where the history is forgotten, the marker is there, and stays
  pub forgotten : seen w.disk Home ≡ None → seen v.disk Marker ≢ None
  -- of whom a command said that it won, it is the recorded winner from then on
  pub won : (a : Attempt) → HasTold w.told a Won → winner_in v.disk.synced a.task ≡ Some a
  -- and of whom one said that it lost, it never is
  pub lost : (a : Attempt) → HasToldLoss w.told a → winner_in v.disk.synced a.task ≢ Some a

-- Behind every list of moves that begins with what an honest `begin` left, and any more moves.
abbrev pub DirectoryKeepsPromises : Type 0
DirectoryKeepsPromises = (s : Setting) (bytes : ℕ → ℕ) (moves more : List Move) → IsRun s (begun bytes) moves → IsRun s (after s (begun bytes) moves) more
    → Promises s (after s (begun bytes) moves) (after s (after s (begun bytes) moves) more)

-- ---- a held job

abbrev pub IsPublication : Move → Type 0
IsPublication (Starts o) = o ≡ order.Publish
IsPublication _ = ⊥

-- no command is told to publish
unfoldable pub NobodyPublishes : List Move → Type 0
NobodyPublishes [] = Unit {0}
NobodyPublishes (move ∷ moves) = (IsPublication move → ⊥) × NobodyPublishes moves

-- Under hold nothing is visible where no command was told to publish.
abbrev pub HeldJobsWait : Type 0
HeldJobsWait = (s : Setting) (bytes : ℕ → ℕ) (moves : List Move) → s.hold ≡ true → IsRun s (begun bytes) moves → NobodyPublishes moves
    → (p : Place) → IsVisible p → seen (after s (begun bytes) moves).disk p ≡ None

-- ---- readers

-- What a reader finds of a task: one file, its winner's, with the bytes that it had when the marker was seen.
pub record Reads (s : Setting) (w v : World) (n : ℕ) : Type 0 where
  pub file : ℕ
  pub listed : seen v.disk (Part n) ≡ Some file
  pub winners : IsWinners s v n file
  pub bytes : v.disk.bytes file ≡ w.disk.bytes file

-- A reader who saw the marker, and then lists and reads, at whatever moments, finds that of each task.
abbrev pub ReadersFindWinners : Type 0
ReadersFindWinners = (s : Setting) (bytes : ℕ → ℕ) (moves more : List Move) → IsRun s (begun bytes) moves → IsRun s (after s (begun bytes) moves) more
    → seen (after s (begun bytes) moves).disk Marker ≢ None → (n : ℕ) → n < s.tasks → Reads s (after s (begun bytes) moves) (after s (after s (begun bytes) moves) more) n

-- ---- a directory whose history was forgotten

-- a command with this order has ended so
pub record HasEnded (w : World) (o : Order) (end : Outcome) : Type 0 where
  pub command : Command
  pub running : w.running ≡ Some command
  pub asked : command.order ≡ o
  pub ended : command.phase ≡ Over end

-- What is left: nothing of what the commands kept for themselves, and the marker beside one file of each task, its winner's.
pub record IsLeftAlone (s : Setting) (w v : World) : Type 0 where
  pub home : seen v.disk Home ≡ None
  pub marker : seen v.disk Marker ≢ None
  pub tasks : (n : ℕ) → n < s.tasks → Reads s w v n

-- Once an order to forget was carried out, that is so at every later moment, whatever power cuts come.
abbrev pub ForgottenDirectoriesStay : Type 0
ForgottenDirectoriesStay = (s : Setting) (bytes : ℕ → ℕ) (moves more : List Move) → IsRun s (begun bytes) moves → IsRun s (after s (begun bytes) moves) more
    → HasEnded (after s (begun bytes) moves) order.Forget outcome.Finished → IsLeftAlone s (after s (begun bytes) moves) (after s (after s (begun bytes) moves) more)
