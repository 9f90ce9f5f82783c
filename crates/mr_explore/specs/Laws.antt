-- Laws of the definitions.
use Rattle.std.specs.Prelude.{◌≡◌, ℕ, true, List, ◌++◌, Some}
use Rattle.mr_world_model.specs.Packets.{Config}
use Rattle.mr_world_model.specs.World.{World, Event}
use Rattle.mr_world_model.specs.Effect.{happens}
use Rattle.mr_world_model.specs.Claims.{Limits, world_of}
use Rattle.mr_world_model.specs.Sequential.{Job}
use Rattle.mr_play.specs.mr_world.specs.Readings.{living}
use Rattle.mr_sim_commands.specs.declared.fault.JobTextFault.{JobTextFault}
use Rattle.mr_play.specs.Played.{Played, world}
use Rattle.mr_play.specs.Text.{IsBadPlayJob, IsBadPlayLine}
use Rattle.mr_play.specs.WorldText.{world_text}
use Rattle.mr_explore.specs.declared.asked.Asked.{Asked}
use Rattle.mr_explore.specs.Explored.{IsFullExplored, PrintsExplored}
use Rattle.mr_explore_ends.specs.Outcomes.{outcome_text}
use Rattle.mr_explore.specs.Exploring.{IsTimed, outcome_of}
use Rattle.mr_explore.specs.Faults.{calm, goes_in_vain}
use Rattle.mr_explore.specs.Runs.{Exploring, IsRunOf}
use Rattle.mr_explore.specs.Vain.{asks_here, most_ahead}

-- an input has one run at most, and nothing is printed of one that is refused
pub record ExploredOrRefused : Type 0 where
  pub one_run : (input : List ℕ) (a b : Exploring) → IsRunOf input a → IsRunOf input b → a ≡ b
  pub not_bad_job : (asked : Asked) (input text : List ℕ) (e : JobTextFault) → PrintsExplored asked input text → IsBadPlayJob input e → ⊥
  pub not_bad_line : (asked : Asked) (input text : List ℕ) (n : ℕ) → PrintsExplored asked input text → IsBadPlayLine input n → ⊥
  -- where a time is given, it may pass before a run would pass a limit
  pub not_full : (asked : Asked) (input text : List ℕ) → PrintsExplored asked input text → IsFullExplored asked input → IsTimed asked.seconds

-- where no time is given, one text is printed at most
abbrev pub OneExploredText : Type 0
OneExploredText = (asked : Asked) (input a b : List ℕ) → (IsTimed asked.seconds → ⊥) → PrintsExplored asked input a → PrintsExplored asked input b → a ≡ b

-- what a run came to is written as `play` prints its cluster
abbrev pub OutcomesArePrinted : Type 0
OutcomesArePrinted = (cfg : Config) (w : World) → outcome_text (outcome_of cfg w) ≡ world_text cfg w

-- Who only asks changes nothing that `play` prints of a cluster.
pub record AskingShowsNothing : Type 0 where
  -- no such event does
  pub one : (cfg : Config) (within : Limits) (w : World) (e : Event) → asks_here cfg w e ≡ true → world_text cfg (happens cfg within w e) ≡ world_text cfg w
  -- nor do the first ones, or all, of the events that are looked at where a run goes on in vain
  pub ahead : (job : Job) (cfg : Config) (within : Limits) (s t : Played) → goes_in_vain job cfg within s ≡ true → calm job cfg within (most_ahead (living cfg (world job cfg within s))) s ≡ Some t
      → (es fs : List Event) → t.events ≡ s.events ++ (es ++ fs) → world_text cfg (world_of cfg within (s.events ++ es)) ≡ world_text cfg (world job cfg within s)
