-- What the namespace holds at the end of a run, as `committer` lists it: our own.
use Rattle.std.specs.Prelude.{◌≡◌, ℕ, List}
use Rattle.mr_world_model.specs.Packets.{Config}
use Rattle.mr_world_model.specs.Claims.{Limits}
use Rattle.mr_sim_commands.specs.committer.Listing.{listing}
use Rattle.mr_trace.specs.mr_play.specs.Text.{PrintsPlay, printed_world}

-- the listing of all that the namespace holds, of the cluster to which the script of the input leads: the one of which `play` prints its text
pub record ListsPlay (within : Config → Limits) (input text : List ℕ) : Type 0 where
  pub printed : List ℕ
  pub prints : PrintsPlay within input printed
  pub is : text ≡ listing (printed_world within input printed prints).content
