-- Words for private contracts and for proofs. No public clause cites them.
use Rattle.std.specs.Prelude.{[]}
use Rattle.std.specs.List.{AllByRecursion}
use Rattle.mr_world_model.specs.World.{Event}
use Rattle.mr_play.specs.mr_world.specs.Journal.{Journal}
use Rattle.mr_play.specs.mr_world.specs.Repeating.{CanFollow}
use Rattle.mr_play_repeated.specs.Repeated.{IsShort, KeepsFew}
use Rattle.mr_sim_commands.specs.declared.fault.SimFault.{SimFault}
use Rattle.mr_sim_commands.specs.declared.fault.SimFault.TheVariants.{NoMemory, JournalMismatch}
use Rattle.mr_threads_shown.specs.declared.seen.Seen.{Seen}
use Rattle.mr_threads_shown.specs.declared.seen.Seen.TheVariants as seen

-- an event is no result that is too long, and no start and no crash that keeps too much
abbrev pub IsSayable : Event → Type 0
IsSayable e = IsShort e × KeepsFew e

-- the events of a journal can happen once more, and are such
pub record CanBeSaid (j : Journal) : Type 0 where
  pub can : CanFollow j.config [] j.events
  pub said : AllByRecursion IsSayable j.events

-- of a run of which a script is shown
abbrev pub MayRepeat : Seen → Journal → Type 0
MayRepeat seen.Script j = CanBeSaid j
MayRepeat _ j = Unit {0}

-- why a run that there is can't be shown
abbrev pub IsUnshown : SimFault → Type 0
IsUnshown NoMemory = Unit {0}
IsUnshown JournalMismatch = Unit {0}
IsUnshown _ = ⊥
