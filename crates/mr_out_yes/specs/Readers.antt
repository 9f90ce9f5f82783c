-- A reader of a directory of mrout, who looks for the marker, then reads the history, and then lists the directory, while commands run, are killed, and the power
-- is cut. Each look may be of another moment. Our own.
use Rattle.std.specs.Prelude.{◌≡◌, ◌≢◌, ◌<◌, ◌⊎◌, ℕ, Bool, true, false, List, [], ◌∷◌, ◌++◌, Option, Some, None}
use Rattle.std.specs.List.{AllByRecursion}
use Rattle.mr_history.specs.declared.record.Record.{Record}
use Rattle.mr_history.specs.Winner.{winner_in}
use Rattle.mr_out_listing.specs.declared.entry.Kind.TheVariants.{File}
use Rattle.mr_out_check.specs.declared.verdict.Answer.TheVariants.{Yes}
use Rattle.mr_out_disk.specs.declared.place.Place.TheVariants.{Part, Marker}
use Rattle.mr_out_disk.specs.Disk.{seen}
use Rattle.mr_out_disk.specs.Cuts.{IsFront}
use Rattle.mr_out_steps.specs.Standing.{task_of}
use Rattle.mr_out_model.specs.Worlds.{Setting, World, begun}
use Rattle.mr_out_model.specs.Runs.{Move, after, IsRun}
use Rattle.mr_paths.specs.Layout.{is_hidden}
use Rattle.mr_out_model.specs.Promises.{IsWinners, Reads}
use Rattle.mr_out_winners.specs.Tasks.{NameSeen, length_of, part_name, parts}
use Rattle.mr_out_winners.specs.Findings.{answer_of, findings}
use Rattle.mr_out_winners.specs.declared.name.Look.{Look}
use Rattle.mr_out_winners.specs.declared.task.Measured.{Measured}

-- the world behind a run, and behind more moves
abbrev pub world : Setting → (ℕ → ℕ) → List Move → World
world s bytes moves = after s (begun bytes) moves

-- the history as it is read in a world: what is durable, and a front of what was appended since
pub record IsRead (w : World) (rs : List Record) : Type 0 where
  pub kept : List Record
  pub front : IsFront kept w.disk.appended
  pub are : rs ≡ w.disk.synced ++ kept

-- What is so of a task: each reader finds one file, whole, with the bytes that it had when the marker was seen; it is the winner's, and this is the winner whom
-- the history told.
pub record IsWholeFor (s : Setting) (w v : World) (rs : List Record) (n : ℕ) : Type 0 where
  pub reads : Reads s w v n
  pub told : winner_in rs (task_of s.job n) ≡ Some reads.winners.winner

-- Let a run be any moves, kills and power cuts among them. The marker is looked at behind `moves`, the history is read behind `between` more, whatever lengths are
-- noted and whatever names are listed. Where the answer is yes, each task's winner's file is there, behind `later` more moves, whichever these are.
abbrev pub YesIsWhole : Type 0
YesIsWhole = (s : Setting) (bytes : ℕ → ℕ) (moves between later : List Move) (marked over : Bool) (told : Option ℕ) (suffix : List ℕ) (rs : List Record) (ms : List Measured) (ns : List NameSeen) →
    IsRun s (begun bytes) moves → IsRun s (world s bytes moves) between → IsRun s (world s bytes moves) later →
    (marked ≡ true → seen (world s bytes moves).disk Marker ≢ None) →
    IsRead (after s (world s bytes moves) between) rs →
    answer_of (findings marked told over (parts s.job suffix rs ms s.tasks) ns) ≡ Yes →
    (n : ℕ) → n < s.tasks → IsWholeFor s (world s bytes moves) (after s (world s bytes moves) later) rs n

-- ---- and the other way round: beside a marker there is nothing to find

-- how long a file of these bytes is, by the number that stands for all of them
abbrev pub look_of : (ℕ → ℕ) → ℕ → Look
look_of size content = record { kind = File; len = size content }

-- a part file, listed as it stood at some moment behind w
pub record PartSeen (s : Setting) (size : ℕ → ℕ) (suffix : List ℕ) (w : World) (x : NameSeen) : Type 0 where
  pub more : List Move
  pub run : IsRun s w more
  pub number : ℕ
  pub file : ℕ
  pub stood : seen (after s w more).disk (Part number) ≡ Some file
  pub name : x.name ≡ part_name number suffix
  pub look : x.look ≡ look_of size ((after s w more).disk.bytes file)

-- what a listing has of the directory: hidden names, and part files
abbrev pub IsSeen : Setting → (ℕ → ℕ) → List ℕ → World → NameSeen → Type 0
IsSeen s size suffix w x = (is_hidden x.name ≡ true) ⊎ PartSeen s size suffix w x

abbrev pub Mentions : List ℕ → List NameSeen → Type 0
Mentions name [] = ⊥
Mentions name (x ∷ xs) = (x.name ≡ name) ⊎ Mentions name xs

-- a listing that misses no part file, each name as it stood at some moment behind w
pub record IsListing (s : Setting) (size : ℕ → ℕ) (suffix : List ℕ) (w : World) (ns : List NameSeen) : Type 0 where
  pub each : AllByRecursion (IsSeen s size suffix w) ns
  pub whole : (n : ℕ) → n < s.tasks → Mentions (part_name n suffix) ns

-- the lengths that are noted are those of the winners' files
abbrev pub AreNoted : Setting → (ℕ → ℕ) → World → List Measured → Type 0
AreNoted s size w ms = (n f : ℕ) (p : IsWinners s w n f) → length_of p.winner ms ≡ Some (size (w.disk.bytes f))

-- Where the marker was seen, the answer is yes: no run of the model has a file, a name or a length that the answer holds against it. That the history
-- does not tell the job as failed is a premise.
abbrev pub MarkedIsYes : Type 0
MarkedIsYes = (s : Setting) (bytes size : ℕ → ℕ) (moves between : List Move) (told : Option ℕ) (suffix : List ℕ) (rs : List Record) (ms : List Measured) (ns : List NameSeen) →
    IsRun s (begun bytes) moves → IsRun s (world s bytes moves) between →
    seen (world s bytes moves).disk Marker ≢ None →
    IsRead (after s (world s bytes moves) between) rs →
    AreNoted s size (world s bytes moves) ms →
    IsListing s size suffix (world s bytes moves) ns →
    (told ≡ None) ⊎ (told ≡ Some s.tasks) →
    answer_of (findings true told false (parts s.job suffix rs ms s.tasks) ns) ≡ Yes
