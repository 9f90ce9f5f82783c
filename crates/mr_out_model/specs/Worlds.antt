-- An output directory in use: its disk, the command that holds the lock, and what commands told. Our own.
use Rattle.std.specs.Prelude.{◌≡◌, ◌⊎◌, ℕ, Bool, false, List, [], ◌∷◌, Option, Some, None, if◌then◌else◌}
use Rattle.mr_ids.specs.Attempt.{Attempt}
use Rattle.mr_ids.specs.Same.{same_attempt}
use Rattle.mr_ids.specs.declared.id.JobId.{JobId}
use Rattle.mr_history.specs.declared.record.Record.{Record}
use Rattle.mr_history.specs.declared.record.Record.TheVariants.{ReduceSucceeded}
use Rattle.mr_out_disk.specs.declared.place.Place.{Place}
use Rattle.mr_out_disk.specs.declared.place.Place.TheVariants.{Part, Kept, Home}
use Rattle.mr_out_disk.specs.declared.call.Call.{Call}
use Rattle.mr_out_disk.specs.declared.call.Call.TheVariants.{AppendHistory}
use Rattle.mr_out_disk.specs.declared.answer.Answer.{Answer}
use Rattle.mr_out_disk.specs.declared.answer.Answer.TheVariants.{Says}
use Rattle.mr_out_disk.specs.declared.answer.Reply.TheVariants.{Done}
use Rattle.mr_out_disk.specs.Disk.{Disk, seen}
use Rattle.mr_out_steps.specs.declared.standing.Standing.{Standing}
use Rattle.mr_out_steps.specs.declared.order.Order.{Order}
use Rattle.mr_out_steps.specs.declared.order.Order.TheVariants as order
use Rattle.mr_out_steps.specs.declared.order.Outcome.{Outcome}
use Rattle.mr_out_steps.specs.declared.order.Outcome.TheVariants as outcome
use Rattle.mr_out_steps.specs.Commands.{Command}

-- the job, how many tasks it has, how many failures of one end it, whether it is published only once that is decided, and which attempt writes a file,
-- whoever it is
pub record Setting : Type 0 where
  pub job : JobId
  pub tasks : ℕ
  pub limit : Option ℕ
  pub hold : Bool
  pub writer : ℕ → Attempt

-- a command told of an attempt how it stands
pub record Telling : Type 0 where
  pub attempt : Attempt
  pub standing : Standing

pub record World : Type 0 where
  pub disk : Disk
  -- the command that holds the lock, if one does
  pub running : Option Command
  -- the file that an attempt handed in: what was kept of it when its success was appended last
  pub handed : Attempt → Option ℕ
  -- what commands told, the newest first
  pub told : List Telling

-- the folder of what the commands keep for themselves is there, and no other name
abbrev pub first_at : Place → Option ℕ
first_at Home = Some 0
first_at p = None

-- what an honest `begin` leaves: a history with no record, no name, and files of which nothing is known
abbrev pub begun : (ℕ → ℕ) → World
begun bytes = record {
  disk = record { synced = []; appended = []; moments = λ p. record { now = first_at p; before = [] }; bytes = bytes; is_whole = λ f. false };
  running = None;
  handed = λ a. None;
  told = [];
}

abbrev pub handed_at : Record → World → Attempt → Option ℕ
handed_at (ReduceSucceeded a bytes) w b = if same_attempt a b then seen w.disk (Kept a) else w.handed b
handed_at r w b = w.handed b

-- the file that an attempt handed in, once a call was answered
abbrev pub handed_by : Call → Answer → World → Attempt → Option ℕ
handed_by (AppendHistory r) (Says Done) w = handed_at r w
handed_by call answer w = w.handed

-- what a command tells that ended so
abbrev pub telling : Order → Outcome → List Telling
telling (order.Done a) (outcome.Stands s) = record { attempt = a; standing = s } ∷ []
telling (order.Fail a) (outcome.Stands s) = record { attempt = a; standing = s } ∷ []
telling (order.Ask a) (outcome.Stands s) = record { attempt = a; standing = s } ∷ []
telling o end = []

-- A file is claimed while its writer has handed it in, or it is visible at its writer's task.
abbrev pub IsClaimed : Setting → Disk → ℕ → Type 0
IsClaimed s d f = (seen d (Kept (s.writer f)) ≡ Some f) ⊎ (seen d (Part (s.writer f).task.number) ≡ Some f)
