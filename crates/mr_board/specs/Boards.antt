-- A board as contracts see it, the seats of those who act on it, and how the seats account for its journal (our own profile).
use Rattle.std.specs.Prelude.{◌≡◌, ◌≢◌, ℕ, Bool, true, false, List, [], ◌∷◌, ◌++◌, length, map, sum, Option, Some, None, Result, Ok, Err, if◌then◌else◌, is_some, nat_eq}
use Rattle.std.specs.List.{All}
use Rattle.mr_ids.specs.declared.id.TaskKind.{TaskKind}
use Rattle.mr_ids.specs.declared.id.TaskKind.TheVariants as kind
use Rattle.mr_packet.specs.declared.packet.ContainerId.{ContainerId}
use Rattle.mr_world_events.specs.declared.event.Event.{Event}
use Rattle.mr_world_events.specs.declared.event.Event.TheVariants.{Computed}
use Rattle.mr_world_events.specs.declared.why.Why.{Why}
use Rattle.mr_world_events.specs.declared.why.Why.TheVariants.{NoContainer, WrongWish}
use Rattle.mr_user.specs.Computation.{Computation}
use Rattle.mr_world_files.specs.Jobs.{job_of}
use Rattle.mr_world_model.specs.Packets.{Config}
use Rattle.mr_world_model.specs.Claims.{IsMarked}
use Rattle.mr_world_model.specs.Sequential.{Input, IsFaithful, Job, Pieces, SeesSequential, Split, made_of}
use Rattle.mr_world.specs.mr_world_state.specs.declared.fault.WorldFault.{WorldFault}
use Rattle.mr_world.specs.mr_world_state.specs.declared.fault.WorldFault.TheVariants.{NotNow, Full, NoMemory}
use Rattle.mr_world.specs.declared.took.Took.{Took}
use Rattle.mr_world.specs.Applying as world
use Rattle.mr_world.specs.Journal.{Journal, world_in}
use Rattle.mr_world.specs.Limits.{within}
use Rattle.mr_world.specs.Readings.{input_in}

-- ---- what contracts see

-- a seat: the number of its board, its own, and the events that were made from it
pub record Seated : Type 0 where
  pub board : ℕ
  pub number : ℕ
  pub made : List Event

-- a board: its number, its world, and for each event of the journal the number of the seat that made it
pub record Noted : Type 0 where
  pub number : ℕ
  pub world : Journal
  pub by : List ℕ

-- what was a board, once it is closed: its world, and for each event of the journal the number of the seat that made it
pub record Accounted : Type 0 where
  pub world : Journal
  pub by : List ℕ

-- what a container is to compute, in a job with this many reduces
pub record Task : Type 0 where
  pub container : ContainerId
  pub input : Input
  pub reduces : ℕ

-- what a work gave
pub record Done : Type 0 where
  pub container : ContainerId
  pub input : Input
  pub reduces : ℕ
  pub bytes : List ℕ

-- ---- the definition's bytes

-- whose input it is
abbrev pub kind_of : Input → TaskKind
kind_of (Split m split) = kind.Map
kind_of (Pieces reduce pieces) = kind.Reduce

-- the bytes are those of the definition, for this input and this many reduces
abbrev pub IsMeant : Job → ℕ → Input → List ℕ → Type 0
IsMeant job reduces input bytes = (config : Config) → config.reduces ≡ reduces → made_of job config input ≡ Some bytes

-- each result of a journal is what the job's functions give
abbrev pub IsFaithfulFor : {K V : Type 0} → Computation K V → Journal → Type 0
IsFaithfulFor job j = IsFaithful (job_of job) j.config (within j.config) j.events

-- where the success marker is, the files are those of the job's sequential execution, which then exists
abbrev pub SeesSequentialFiles : {K V : Type 0} → Computation K V → Journal → Type 0
SeesSequentialFiles job j = IsMarked (world_in j) → SeesSequential (job_of job) j.config (world_in j)

-- ---- works

-- what a container is to compute
abbrev pub input_now : Journal → ContainerId → Option Input
input_now j c = input_in j.config (world_in j) c

-- why it is to compute nothing, or nothing like this
abbrev pub why_not_due : Journal → ContainerId → Why
why_not_due j c = if (world_in j).is_alive c then WrongWish else NoContainer

-- what a container is to compute is copied; or it is to compute nothing, or memory was refused
abbrev pub Works : Journal → ContainerId → Result Task WorldFault → Type 0
Works j c (Ok t) = (t.container ≡ c) × (input_now j c ≡ Some t.input) × (t.reduces ≡ j.config.reduces)
Works j c (Err (NotNow why)) = (input_now j c ≡ None) × (why ≡ why_not_due j c)
Works j c (Err Full) = ⊥
Works j c (Err NoMemory) = is_some (input_now j c) ≡ true

-- the container of a work is to compute just that
abbrev pub IsDue : Journal → Done → Type 0
IsDue j d = (input_now j d.container ≡ Some d.input) × (d.reduces ≡ j.config.reduces)

-- ---- events from a seat

-- an event that is taken gets the seat's number, and is the last of the seat's list; else nothing changes
abbrev pub Notes : {A : Type 0} → Noted → Seated → Event → Result A WorldFault → Noted → Seated → Type 0
Notes b s e (Ok a) b' s' = (b'.number ≡ b.number) × (b'.by ≡ b.by ++ s.number ∷ []) × (s' ≡ record { board = s.board; number = s.number; made = s.made ++ e ∷ [] })
Notes b s e (Err f) b' s' = (b' ≡ b) × (s' ≡ s)

-- one step from a seat: the world's own step, noted
abbrev pub Makes : Noted → Seated → Event → Result Took WorldFault → Noted → Seated → Type 0
Makes b s e r b' s' = world.Applies b.world e r b'.world × Notes b s e r b' s'

abbrev pub is_computed : Event → Bool
is_computed (Computed c bytes) = true
is_computed _ = false

-- what is made from a seat is no computed event
abbrev pub Applies : Noted → Seated → Event → Result Took WorldFault → Noted → Seated → Type 0
Applies b s e r b' s' =
    (is_computed e ≡ false → Makes b s e r b' s')
    × (is_computed e ≡ true → (r ≡ Err (NotNow WrongWish)) × (b' ≡ b) × (s' ≡ s))

-- what a work gave is taken where its container is to compute just that
abbrev pub Hands : Noted → Seated → Done → Result Took WorldFault → Noted → Seated → Type 0
Hands b s d r b' s' =
    (IsDue b.world d → Makes b s (Computed d.container d.bytes) r b' s')
    × (¬ IsDue b.world d → (r ≡ Err (NotNow (why_not_due b.world d.container))) × (b' ≡ b) × (s' ≡ s))

-- ---- how seats account for a journal

-- the events that have this number, in order
abbrev pub made_by : ℕ → List ℕ → List Event → List Event
made_by n [] es = []
made_by n (k ∷ ks) [] = []
made_by n (k ∷ ks) (e ∷ es) = if nat_eq k n then e ∷ made_by n ks es else made_by n ks es

-- no two of the seats have one number
abbrev pub Differ : List Seated → Type 0
Differ [] = Unit {0}
Differ (s ∷ rest) = All (λ t. t.number ≢ s.number) rest × Differ rest

-- they are of the board of this number, their own numbers differ, their lists have as many events together as the journal, and each list is the journal's events of
-- its number, in order
abbrev pub Account : ℕ → List ℕ → List Event → List Seated → Type 0
Account number by journal seats =
    All (λ s. s.board ≡ number) seats
    × Differ seats
    × (sum (map (λ s. length s.made) seats) ≡ length journal)
    × All (λ s. s.made ≡ made_by s.number by journal) seats
