-- An output directory in use: its log, the commands that are under way, and what commands said. Our own.
use Rattle.std.specs.Prelude.{ℕ, ◌==◌, Bool, List, [], Option, None, if◌then◌else◌}
use Rattle.mr_ids.specs.Attempt.{Attempt}
use Rattle.mr_log_disk.specs.declared.place.Item.{Item}
use Rattle.mr_log_disk.specs.declared.call.Call.{Call}
use Rattle.mr_log_disk.specs.Log.{Absent, Disk}
use Rattle.mr_log_standing.specs.declared.job.Job.{Job}
use Rattle.mr_log_standing.specs.declared.order.Order.{Order}
use Rattle.mr_log_standing.specs.declared.order.Outcome.{Outcome}
use Rattle.mr_log_steps.specs.Commands.{Command}

-- The job, whether its tasks hand in folders, and what each list of what was handed in says once it is written: a list is written once, under a name that
-- nobody else has.
pub record Setting : Type 0 where
  pub job : Job
  pub folders : Bool
  pub lists : Attempt → ℕ → List Item

-- a command with this order said this in the end
pub record Saying : Type 0 where
  pub order : Order
  pub outcome : Outcome

pub record World : Type 0 where
  pub disk : Disk
  -- the commands that are under way, each by a number of its own
  pub running : ℕ → Option Command
  -- the calls that commands made, the newest first
  pub calls : List Call
  -- what commands said, the newest first
  pub said : List Saying

-- what an honest `begin` leaves: a log with no entry, and no visible name
abbrev pub begun : World
begun = record { disk = record { log = λ n. Absent; names = λ p. record { now = None; before = [] } }; running = λ k. None; calls = []; said = [] }

-- the command with this number is that one from now on, or none
abbrev pub with_command : ℕ → Option Command → (ℕ → Option Command) → ℕ → Option Command
with_command k c running i = if i == k then c else running i
