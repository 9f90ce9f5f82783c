-- A directory in which recorded commands were carried out, with kills and power cuts, and what holds of it where each answer is honest. Our own.
use Rattle.std.specs.Prelude.{◌≡◌, ◌≢◌, ◌⊎◌, ℕ, List, [], ◌∷◌, ◌++◌, Option, Some, None}
use Rattle.mr_ids.specs.Attempt.{Attempt}
use Rattle.mr_out_disk.specs.declared.place.Place.TheVariants.{Work, Home}
use Rattle.mr_out_disk.specs.declared.call.Call.{Call}
use Rattle.mr_out_disk.specs.declared.answer.Answer.{Answer}
use Rattle.mr_out_disk.specs.Disk.{Disk, seen, named}
use Rattle.mr_out_disk.specs.Calls.{effect, IsHonest}
use Rattle.mr_out_disk.specs.Cuts.{IsCut}
use Rattle.mr_out_steps.specs.declared.order.Order.{Order}
use Rattle.mr_out_steps.specs.declared.order.Outcome.{Outcome}
use Rattle.mr_out_steps.specs.Commands.{Command, opening}
use Rattle.mr_out_model.specs.Worlds.{Setting, Telling, World, begun, telling, IsClaimed}
use Rattle.mr_out_model.specs.Runs.{written, IsWriters}
use Rattle.mr_out_model.specs.Promises.{Promises}
use Rattle.mr_out_calls.specs.Recorded.{AreCallsOf, EndsAs}

-- ---- what others do

pub data Deed : Type 0 where
  -- they write a file
  Writes : (file : ℕ) → (bytes : ℕ) → Deed
  -- they give an attempt's name beneath the work folder to a file, or to none
  Names : (a : Attempt) → (file : Option ℕ) → Deed

abbrev pub done_by : Deed → Disk → Disk
done_by (Writes file bytes) d = written file bytes d
done_by (Names a file) d = named (Work a) file d

-- they write no file that is claimed
abbrev pub MayDo : Setting → Disk → Deed → Type 0
MayDo s d (Writes file bytes) = IsClaimed s d file → ⊥
MayDo s d (Names a file) = IsWriters s a file

-- ---- what happens while a command holds the lock

pub data Happening : Type 0 where
  -- it made this call, and was answered so
  Answered : (call : Call) → (answer : Answer) → Happening
  Meanwhile : (deed : Deed) → Happening

-- what is recorded of it
unfoldable pub recorded : List Happening → List (Call × Answer)
recorded [] = []
recorded (Answered call answer ∷ rest) = (call, answer) ∷ recorded rest
recorded (Meanwhile deed ∷ rest) = recorded rest

-- what the disk is behind it
unfoldable pub left_by : Disk → List Happening → Disk
left_by d [] = d
left_by d (Answered call answer ∷ rest) = left_by (effect d call answer) rest
left_by d (Meanwhile deed ∷ rest) = left_by (done_by deed d) rest

-- each answer is one that the disk may give to the call that was made
unfoldable pub AreHonest : Setting → Disk → List Happening → Type 0
AreHonest s d [] = Unit {0}
AreHonest s d (Answered call answer ∷ rest) = IsHonest d call answer × AreHonest s (effect d call answer) rest
AreHonest s d (Meanwhile deed ∷ rest) = MayDo s d deed × AreHonest s (done_by deed d) rest

-- ---- the life of a directory

pub data Event : Type 0 where
  -- an order was carried out, and ended so
  Carried : (order : Order) → (happened : List Happening) → (end : Outcome) → Event
  -- a command was killed behind any of its calls
  Killed : (order : Order) → (happened : List Happening) → Event
  Others : (deed : Deed) → Event
  -- the power was cut, also behind a kill, and this disk is left
  Cut : (left : Disk) → Event

abbrev pub disk_behind : Disk → Event → Disk
disk_behind d (Carried order happened end) = left_by d happened
disk_behind d (Killed order happened) = left_by d happened
disk_behind d (Others deed) = done_by deed d
disk_behind d (Cut left) = left

-- what commands told, the newest first
abbrev pub told_behind : List Telling → Event → List Telling
told_behind told (Carried order happened end) = telling order end ++ told
told_behind told _ = told

unfoldable pub disk_after : Disk → List Event → Disk
disk_after d [] = d
disk_after d (event ∷ events) = disk_after (disk_behind d event) events

unfoldable pub told_after : List Telling → List Event → List Telling
told_after told [] = told
told_after told (event ∷ events) = told_after (told_behind told event) events

abbrev pub first_of : Setting → Order → Command
first_of s order = opening order s.job s.tasks s.limit s.hold

-- A command that began where the history was there: its recorded calls are its own, and the answers honest.
pub record IsCommand (s : Setting) (d : Disk) (order : Order) (happened : List Happening) : Type 0 where
  pub there : seen d Home ≢ None
  pub calls : AreCallsOf (first_of s order) (recorded happened)
  pub honest : AreHonest s d happened

abbrev pub IsReal : Setting → Disk → Event → Type 0
IsReal s d (Carried order happened end) = IsCommand s d order happened × EndsAs (first_of s order) (recorded happened) end
IsReal s d (Killed order happened) = IsCommand s d order happened
IsReal s d (Others deed) = MayDo s d deed
IsReal s d (Cut left) = IsCut d left

unfoldable pub AreReal : Setting → Disk → List Event → Type 0
AreReal s d [] = Unit {0}
AreReal s d (event ∷ events) = IsReal s d event × AreReal s (disk_behind d event) events

-- ---- the promises

-- of what the disk is and what was told at one moment, and at a later one
pub record KeepsPromises (s : Setting) (d : Disk) (told : List Telling) (later : Disk) (told_later : List Telling) : Type 0 where
  pub world : World
  pub disk : world.disk ≡ d
  pub told_is : world.told ≡ told
  pub later_world : World
  pub later_disk : later_world.disk ≡ later
  pub later_told : later_world.told ≡ told_later
  pub promises : Promises s world later_world

-- Whatever happened since an honest `begin`, and whatever happens then.
abbrev pub RecordedDirectoriesKeepPromises : Type 0
RecordedDirectoriesKeepPromises = (s : Setting) (bytes : ℕ → ℕ) (events more : List Event) → AreReal s (begun bytes).disk events → AreReal s (disk_after (begun bytes).disk events) more
    → KeepsPromises s (disk_after (begun bytes).disk events) (told_after [] events)
    (disk_after (disk_after (begun bytes).disk events) more) (told_after (told_after [] events) more)
