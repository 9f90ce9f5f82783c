-- What the threads of a job decide (our own profile). Private contracts cite it; what is promised of a run is the report's.
use Rattle.std.specs.Prelude.{ℕ, ◌-◌, Option, Some, None, if◌then◌else◌, nat_eq, nat_lt}
use Rattle.mr_mapside.specs.declared.fault.WorkFault.{WorkFault}
use Rattle.mr_mapside.specs.declared.fault.WorkFault.TheVariants as work
use Rattle.mr_board.specs.mr_world_state.specs.declared.fault.WorldFault.{WorldFault}
use Rattle.mr_board.specs.mr_world_state.specs.declared.fault.WorldFault.TheVariants as world
use Rattle.mr_drive.specs.mr_board_report.specs.declared.fault.DriveFault.{DriveFault}
use Rattle.mr_drive.specs.mr_board_report.specs.declared.fault.DriveFault.TheVariants as drive
use Rattle.mr_drive.specs.declared.actor.Role.{Role}
use Rattle.mr_drive.specs.declared.actor.Role.TheVariants as role

-- ---- whom a thread acts for

-- by the number of its seat: first the nodes, then starts and faults, then the masters, by generation
abbrev pub role_of : ℕ → ℕ → Role
role_of nodes number = if nat_lt number nodes then role.Node number else if nat_eq number nodes then role.Faults else role.Master (number - nodes)

-- ---- what a refusal means

-- an event that is only not permitted now does not stop a run
abbrev pub stopping : WorldFault → Option DriveFault
stopping (world.NotNow why) = None
stopping world.Full = Some drive.Full
stopping world.NoMemory = Some drive.NoMemory

-- nor does a work that the job or the shuffle refused: its container dies
abbrev pub stopping_work : WorkFault → Option DriveFault
stopping_work (work.User e) = None
stopping_work (work.Shuffle e) = None
stopping_work (work.Gate e) = Some drive.TurnsSpent
stopping_work work.Full = Some drive.Full
stopping_work work.NoMemory = Some drive.NoMemory
