-- Why a launch comes to nothing. That a master has no more than 2^32 containers, whose numbers are those of 32 bits,
-- is the project's own.
use Rattle.std.specs.Prelude.{ℕ, nat_lt, length, Option, Some, None, if◌then◌else◌}
use Rattle.mr_ids.specs.declared.id.TaskId.{TaskId}
use Rattle.mr_master_model.specs.declared.phase.LaunchFault.{LaunchFault}
use Rattle.mr_master_model.specs.declared.setting.Setting.{Setting}
use Rattle.mr_master_model.specs.Readings.{Seen, launch_refusal}
use Rattle.mr_master_events.specs.declared.launch.LaunchError.{LaunchError}
use Rattle.mr_master_events.specs.declared.launch.LaunchError.TheVariants.{Refused, Full, NoMemory}

-- how many containers a master launches at most
abbrev pub MOST_CONTAINERS : ℕ
MOST_CONTAINERS = 4294967296

-- the refusal where there is one, else Full where no number is left, else memory was refused
abbrev pub error_of : Option LaunchFault → (launched : ℕ) → LaunchError
error_of (Some fault) launched = Refused fault
error_of None launched = if nat_lt launched MOST_CONTAINERS then NoMemory else Full

abbrev pub launch_error : Setting → Seen → TaskId → ℕ → LaunchError
launch_error w s t n = error_of (launch_refusal w s t n) (length s.launched)
