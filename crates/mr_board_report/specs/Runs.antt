-- A run of a plan as contracts see it, and what its calls do (our own profile).
use Rattle.std.specs.Prelude.{◌≡◌, ℕ, ◌+◌, min, Bool, true, false, not, ◌&&◌, ◌||◌, nat_eq, List, Option, Some, None, is_some, Result, Ok, Err}
use Rattle.mr_world_events.specs.declared.event.Event.{Event}
use Rattle.mr_world_events.specs.declared.event.Event.TheVariants as event
use Rattle.mr_world_events.specs.declared.plan.PlanFault.{PlanFault}
use Rattle.mr_board.specs.mr_world.specs.Journal.{Journal, world_in}
use Rattle.mr_board.specs.mr_world.specs.declared.took.Took.{Took}
use Rattle.mr_board.specs.mr_world_state.specs.declared.fault.WorldFault.{WorldFault}
use Rattle.mr_board.specs.mr_world_state.specs.declared.fault.WorldFault.TheVariants as world
use Rattle.mr_board.specs.Boards.{Applies, Done, Hands, Noted, Seated}
use Rattle.mr_board_report.specs.Following.{comes_by_itself, due, event_of, has_crashed}
use Rattle.mr_board_report.specs.declared.fault.DriveFault.{DriveFault}
use Rattle.mr_board_report.specs.declared.fault.DriveFault.TheVariants as drive

-- a run: its board's number, world and notes, the faults of its plan, and how many of them came
pub record Running : Type 0 where
  pub number : ℕ
  pub world : Journal
  pub by : List ℕ
  pub faults : List PlanFault
  pub came : ℕ

-- the start behind a crash, or a fault, is due: nothing else happens then
abbrev pub is_held : Running → Bool
is_held r = has_crashed (world_in r.world) || is_some (due r.faults r.came r.world)

-- what is told of a world's answer: whether the event was taken, or was not permitted; else the fault
abbrev pub told_of : {A : Type 0} → Result A WorldFault → Result Bool DriveFault
told_of (Ok a) = Ok true
told_of (Err (world.NotNow why)) = Ok false
told_of (Err world.Full) = Err drive.Full
told_of (Err world.NoMemory) = Err drive.NoMemory

-- ---- what its calls do

-- the board of a run
abbrev pub board_of : Running → Noted
board_of r = record { number = r.number; world = r.world; by = r.by }

-- a step of the board, told so; the plan, and how many of its faults came, stay
pub record Steps (step : Result Took WorldFault → Noted → Type 0) (r : Running) (told : Result Bool DriveFault) (r' : Running) : Type 0 where
  pub answer : Result Took WorldFault
  pub board : step answer (board_of r')
  pub says : told ≡ told_of answer
  pub faults : r'.faults ≡ r.faults
  pub came : r'.came ≡ r.came

-- it is not planned now, and nothing has changed
abbrev pub IsMismatch : Running → Seated → Result Bool DriveFault → Running → Seated → Type 0
IsMismatch r s told r' s' = (told ≡ Err drive.JournalMismatch) × (r' ≡ r) × (s' ≡ s)

-- whether an event is planned now: nothing is due, and it comes by itself
abbrev pub is_free : Running → Event → Bool
is_free r e = not (is_held r) && comes_by_itself e

-- an event from a seat: the board's own step, where it is planned now
abbrev pub MakesPlanned : Running → Seated → Event → Result Bool DriveFault → Running → Seated → Type 0
MakesPlanned r s e told r' s' =
    (is_free r e ≡ true → Steps (λ answer b. Applies (board_of r) s e answer b s') r told r')
    × (is_free r e ≡ false → IsMismatch r s told r' s')

-- what a work gave, from a seat: the board's own step, where nothing is due
abbrev pub HandsIn : Running → Seated → Done → Result Bool DriveFault → Running → Seated → Type 0
HandsIn r s d told r' s' =
    (is_held r ≡ false → Steps (λ answer b. Hands (board_of r) s d answer b s') r told r')
    × (is_held r ≡ true → IsMismatch r s told r' s')

-- ---- what is due

-- a fault has come where it was taken, and where it was not permitted
abbrev pub came_of : Result Took WorldFault → Result Bool DriveFault
came_of (Ok took) = Ok true
came_of (Err (world.NotNow why)) = Ok true
came_of (Err world.Full) = Err drive.Full
came_of (Err world.NoMemory) = Err drive.NoMemory

-- how many came then
abbrev pub came_behind : ℕ → Result Bool DriveFault → ℕ
came_behind came (Ok b) = came + 1
came_behind came (Err f) = came

-- the fault that is due comes: a step of the board, told so, and counted
pub record Comes (step : Result Took WorldFault → Noted → Type 0) (r : Running) (told : Result Bool DriveFault) (r' : Running) : Type 0 where
  pub answer : Result Took WorldFault
  pub board : step answer (board_of r')
  pub says : told ≡ came_of answer
  pub faults : r'.faults ≡ r.faults
  pub came : r'.came ≡ came_behind r.came told

-- the generation behind this one, as far as there are numbers
abbrev pub next_generation : ℕ → ℕ
next_generation k = min (k + 1) 4294967295

-- Where a start is due behind a crash, a fault is due, there is no master: the start behind the crash, else the fault, else the start of the first master. Else nothing.
abbrev pub MakesNext : Bool → Option PlanFault → Bool → Running → Seated → Result Bool DriveFault → Running → Seated → Type 0
MakesNext true o none r s told r' s' = Steps (λ answer b. Applies (board_of r) s (event.Start (next_generation (world_in r.world).fence) 0) answer b s') r told r'
MakesNext false (Some f) none r s told r' s' = Comes (λ answer b. Applies (board_of r) s (event_of (world_in r.world).fence f.act) answer b s') r told r'
MakesNext false None true r s told r' s' = MakesPlanned r s (event.Start 1 0) told r' s'
MakesNext false None false r s told r' s' = (told ≡ Ok false) × (r' ≡ r) × (s' ≡ s)

abbrev pub MakesDue : Running → Seated → Result Bool DriveFault → Running → Seated → Type 0
MakesDue r s told r' s' = MakesNext (has_crashed (world_in r.world)) (due r.faults r.came r.world) (nat_eq (world_in r.world).fence 0) r s told r' s'
