-- What a report of a driven job says (our own profile). The files are those of the sequential execution (Dean and Ghemawat 3.3).
use Rattle.std.specs.Prelude.{◌≡◌, ◌⊎◌, ℕ, Bool, true, List, length, map, Option, Some, None}
use Rattle.mr_user.specs.Computation.{Computation}
use Rattle.mr_master_model.specs.declared.phase.Phase.TheVariants.{Stopped}
use Rattle.mr_world_model.specs.Results.{outcome, visible}
use Rattle.mr_world_files.specs.Jobs.{job_of}
use Rattle.mr_world_files.specs.Shown.{ShowsSequential}
use Rattle.mr_board.specs.mr_world.specs.Journal.{Journal, world_in}
use Rattle.mr_board.specs.mr_world.specs.Readings.{phase_in}
use Rattle.mr_board.specs.mr_world.specs.VisibleFiles.{as_pair}
use Rattle.mr_board.specs.mr_world.specs.declared.results.VisibleFile.{VisibleFile}
use Rattle.mr_board.specs.Boards.{Account, IsFaithfulFor, Seated}
use Rattle.mr_board_report.specs.Following.{Follows}
use Rattle.mr_board_report.specs.Runs.{Running}
use Rattle.mr_board_report.specs.declared.plan.Plan.{Plan}
use Rattle.mr_board_report.specs.declared.fault.DriveFault.{DriveFault}
use Rattle.mr_board_report.specs.declared.fault.DriveFault.TheVariants.{JournalMismatch, TurnsSpent, NoMemory}

-- an outcome was told, or the newest master is Stopped
abbrev pub IsThrough : Journal → Type 0
IsThrough j = outcome (world_in j) ≡ None → phase_in j.config (world_in j) (world_in j).fence ≡ Some Stopped

-- a run is of a plan: of its config, and with its faults
abbrev pub IsOf : Plan → Running → Type 0
IsOf plan r = (r.world.config ≡ plan.config) × (r.faults ≡ plan.faults)

-- these seats account for its journal
abbrev pub IsAccounted : Running → List Seated → Type 0
IsAccounted r seats = Account r.number r.by r.world.events seats

-- a report of this world, whose events the seats of these numbers made, for a plan
pub record IsReported {K V : Type 0} (job : Computation K V) (plan : Plan) (succeeded : Bool) (files : List VisibleFile) (by : List ℕ) (j : Journal) : Type 0 where
  pub config_is : j.config ≡ plan.config
  -- until its end each fault of the plan was made as soon as it was due, or the world refused it; behind a crash the next master starts; all else is calm
  pub follows : Follows plan j
  -- each event has its seat's number
  pub noted : length by ≡ length j.events
  -- each result in its journal is what the job's functions give
  pub faithful : IsFaithfulFor job j
  pub through : IsThrough j
  -- the files are what a reader of the destination sees
  pub seen : map as_pair files ≡ visible (world_in j)
  -- it succeeded where success was told
  pub told : succeeded ≡ true → outcome (world_in j) ≡ Some true
  pub tells : outcome (world_in j) ≡ Some true → succeeded ≡ true
  -- and then a reader sees the files of the sequential execution, and nothing else
  pub sequential : succeeded ≡ true → ShowsSequential (job_of job) j.config (world_in j)

-- ---- why there is none

-- why a run did not come to its end: why its threads stopped, if they did before
abbrev pub stopping_of : Option DriveFault → DriveFault
stopping_of (Some stop) = stop
stopping_of None = TurnsSpent

-- it did not come to its end, for that reason; or it did, and there is no memory for its files
abbrev pub IsCut : Option DriveFault → Journal → DriveFault → Type 0
IsCut stop j f = ((f ≡ stopping_of stop) × (IsThrough j → ⊥)) ⊎ ((f ≡ NoMemory) × IsThrough j)

-- Why there is no report of a run for a plan, where these seats made it and its threads stopped for this reason, if for one. Without a world: it is another plan's, or the seats do
-- not account for it. With one, which is its own: neither, and it is cut.
abbrev pub IsUnreported : Plan → Running → Option DriveFault → List Seated → DriveFault → Option Journal → Type 0
IsUnreported plan r stop seats f None = (f ≡ JournalMismatch) × (¬ (IsOf plan r × IsAccounted r seats))
IsUnreported plan r stop seats f (Some j) = (j ≡ r.world) × IsOf plan r × IsAccounted r seats × IsCut stop j f

-- the same of the world of a run that is the plan's, and accounted for
abbrev pub IsUntold : Option DriveFault → Journal → DriveFault → Option Journal → Type 0
IsUntold stop w f None = ⊥
IsUntold stop w f (Some j) = (j ≡ w) × IsCut stop j f

-- The same, as whoever drives a plan hears it. Without a world: memory was refused before there was a run, or its seats do not account for it. With one: a run of the plan, with its
-- faults. It did not come to its end, or memory was refused for its files.
abbrev pub IsUndriven : Plan → DriveFault → Option Journal → Type 0
IsUndriven plan f None = (f ≡ NoMemory) ⊎ (f ≡ JournalMismatch)
IsUndriven plan f (Some j) = (j.config ≡ plan.config) × Follows plan j × ((IsThrough j → ⊥) ⊎ (f ≡ NoMemory))
