-- What still holds of a cluster whose namespace lacks the fence, or the bars, or both. Our own.
use Rattle.std.specs.Prelude.{◌≡◌, true, false, List, ◌++◌, Some, None}
use Rattle.mr_world_model.specs.Ids.{Attempt, TaskId, part}
use Rattle.mr_world_model.specs.Content.{entry_at}
use Rattle.mr_world_model.specs.Packets.{Config}
use Rattle.mr_world_model.specs.World.{World, Event, opening_world}
use Rattle.mr_world_model.specs.Claims.{Limits, world_of, winner, IsReduce, IsToldOutcome, IsToldWon, IsMarked, IsComplete, LooksTheSame}
use Rattle.mr_world_model.specs.Sequential.{Job, JobLaws, BoundsOutputs, IsFaithful, SeesSequential}
use Rattle.mr_world_weaker.specs.Lacking.{Kind, NobodySlips, AreBorne, AllEndFirst, weak_world_of}

-- where nobody slips through, the world is the cluster's
abbrev pub OnlyWhoSlipsMatters : Type 0
OnlyWhoSlipsMatters = (kd : Kind) (cfg : Config) (within : Limits) (es : List Event) → NobodySlips kd cfg within opening_world es → weak_world_of kd cfg within es ≡ world_of cfg within es

-- over events that the store bears, nobody slips through
abbrev pub NobodySlipsOverTheseEvents : Type 0
NobodySlipsOverTheseEvents = (kd : Kind) (cfg : Config) (within : Limits) (es : List Event) → AreBorne kd es → NobodySlips kd cfg within opening_world es

-- nor where who is superseded, or given up, has ended before
abbrev pub NobodySlipsWhoEndsFirst : Type 0
NobodySlipsWhoEndsFirst = (kd : Kind) (cfg : Config) (within : Limits) (es : List Event) → AllEndFirst kd cfg within opening_world es → NobodySlips kd cfg within opening_world es

-- the promise, over lists of events that are like this
pub record PromiseHolds (kd : Kind) (cfg : Config) (within : Limits) (Fits : List Event → Type 0) : Type 0 where
  -- a recorded winner never changes
  pub winner_stays : (es fs : List Event) (t : TaskId) (a : Attempt) → Fits es → Fits (es ++ fs) →
      winner (weak_world_of kd cfg within es) t ≡ Some a → winner (weak_world_of kd cfg within (es ++ fs)) t ≡ Some a
  -- every node that is told of a winner is told the one
  pub told : (es : List Event) (t : TaskId) (a : Attempt) → Fits es → IsToldWon (weak_world_of kd cfg within es) t a → winner (weak_world_of kd cfg within es) t ≡ Some a
  -- a marker means whole files
  pub whole_files : (es : List Event) → Fits es → IsMarked (weak_world_of kd cfg within es) → IsComplete cfg (weak_world_of kd cfg within es)
  -- and is final
  pub final : (es fs : List Event) → Fits es → Fits (es ++ fs) → IsMarked (weak_world_of kd cfg within es) →
      IsMarked (weak_world_of kd cfg within (es ++ fs)) × LooksTheSame (weak_world_of kd cfg within es) (weak_world_of kd cfg within (es ++ fs))
  -- with deterministic functions, the files are the sequential execution's
  pub sequential : (job : Job) → JobLaws job cfg → BoundsOutputs within → (es : List Event) → Fits es → IsFaithful job cfg within es →
      IsMarked (weak_world_of kd cfg within es) → SeesSequential job cfg (weak_world_of kd cfg within es)

-- Whatever a namespace lacks, and whatever happens: a recorded winner never changes
abbrev pub WinnerStaysAnyway : Type 0
WinnerStaysAnyway = (kd : Kind) (cfg : Config) (within : Limits) (es fs : List Event) (t : TaskId) (a : Attempt) →
    winner (weak_world_of kd cfg within es) t ≡ Some a → winner (weak_world_of kd cfg within (es ++ fs)) t ≡ Some a

-- Whatever a namespace lacks, and whatever happens: where success was told the marker is there, and stays, and no later event changes what a reader sees
abbrev pub SuccessIsFinal : Type 0
SuccessIsFinal = (kd : Kind) (cfg : Config) (within : Limits) (es fs : List Event) → IsToldOutcome (weak_world_of kd cfg within es) true →
    IsMarked (weak_world_of kd cfg within es) × IsMarked (weak_world_of kd cfg within (es ++ fs)) × LooksTheSame (weak_world_of kd cfg within es) (weak_world_of kd cfg within (es ++ fs))

-- The promise does not hold: after some events a failure was told, and there is no marker; after some more the marker is there, and success was told.
pub record ToldTwice (kd : Kind) (cfg : Config) (within : Limits) : Type 0 where
  pub early : List Event
  pub failed : IsToldOutcome (weak_world_of kd cfg within early) false
  pub unmarked : IsMarked (weak_world_of kd cfg within early) → ⊥
  pub late : List Event
  pub succeeded : IsToldOutcome (weak_world_of kd cfg within (early ++ late)) true
  pub marked : IsMarked (weak_world_of kd cfg within (early ++ late))

-- so it is with some job, where limits refuse nothing, over each namespace without a fence
abbrev pub TheFenceIsNeeded : Type 0
TheFenceIsNeeded = (kd : Kind) (within : Limits) → kd.fence ≡ false → ((w : World) (e : Event) → within w e ≡ true) → (cfg : Config) × ToldTwice kd cfg within

-- Nor does it here: the marker is there, and success was told, and a reduce has no file.
pub record MarkedWithoutFile (kd : Kind) (cfg : Config) (within : Limits) : Type 0 where
  pub events : List Event
  pub marked : IsMarked (weak_world_of kd cfg within events)
  pub succeeded : IsToldOutcome (weak_world_of kd cfg within events) true
  pub task : TaskId
  pub reduce : IsReduce cfg task
  pub missing : entry_at (weak_world_of kd cfg within events).content (part task) ≡ None

-- so it is with some job, where limits refuse nothing, over each namespace without bars
abbrev pub TheBarsAreNeeded : Type 0
TheBarsAreNeeded = (kd : Kind) (within : Limits) → kd.bars ≡ false → ((w : World) (e : Event) → within w e ≡ true) → (cfg : Config) × MarkedWithoutFile kd cfg within
