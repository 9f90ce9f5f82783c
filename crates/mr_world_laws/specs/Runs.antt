-- What a law of this crate says beside its sentence: which calls were made of which world, and which events were run in between. Our own: what a call answers, and what
-- it is to run events, is said by mr_world.
use Rattle.std.specs.Prelude.{◌≡◌, ◌⊎◌, ℕ, Bool, List, map, slice_get, Option, Some}
use Rattle.mr_world_model.specs.Ids.{Attempt, TaskId, marker}
use Rattle.mr_world_model.specs.Content.{entry_at, is_file}
use Rattle.mr_world_model.specs.Packets.{Envelope, Won}
use Rattle.mr_world_model.specs.World.{Event}
use Rattle.mr_world_model.specs.Claims.{winner}
use Rattle.mr_world_model.specs.Results.{outcome, visible}
use Rattle.mr_world.specs.mr_world_state.specs.declared.fault.WorldFault.{WorldFault}
use Rattle.mr_world.specs.mr_world_state.specs.declared.fault.WorldFault.TheVariants.{NoMemory}
use Rattle.mr_world.specs.declared.results.VisibleFile.{VisibleFile}
use Rattle.mr_world.specs.Applying.{Ran, StopsAt}
use Rattle.mr_world.specs.Journal.{Journal, world_in}
use Rattle.mr_world.specs.VisibleFiles.{as_pair}

-- a world's winner of a reduce, its marker, its outcome
abbrev pub world_winner : Journal → TaskId → Option Attempt
world_winner j t = winner (world_in j) t

abbrev pub marker_in : Journal → Bool
marker_in j = is_file (entry_at (world_in j).content marker)

abbrev pub outcome_in : Journal → Option Bool
outcome_in j = outcome (world_in j)

-- these are a world's visible files
abbrev pub AreFilesIn : Journal → List VisibleFile → Type 0
AreFilesIn j files = map as_pair files ≡ visible (world_in j)

-- the packet at this place of the bag tells of a winner
abbrev pub TellsOfWinner : Journal → ℕ → TaskId → Attempt → Type 0
TellsOfWinner j place t a = (e : Envelope) × (slice_get (world_in j).bag place ≡ Some e) × (e.body ≡ Won t a)

-- a law that ended with a fault: an event was refused, and those before it have happened; or memory was refused to a look at the world, before all events or behind them
abbrev pub EndedAt : Journal → List Event → WorldFault → Journal → Type 0
EndedAt old es f new = StopsAt old es f new ⊎ ((f ≡ NoMemory) × ((new ≡ old) ⊎ Ran old es new))
