-- What `play --json` tells of an input (our own profile).
use Rattle.std.specs.Prelude.{◌≡◌, ℕ, List, ◌++◌}
use Rattle.mr_world_model.specs.Packets.{Config}
use Rattle.mr_world_model.specs.Claims.{Limits}
use Rattle.mr_trace.specs.mr_world.specs.Journal.{Journal, world_in}
use Rattle.mr_trace.specs.mr_play.specs.Text.{PrintsPlay, printed_journal, printed_stretches}
use Rattle.mr_trace.specs.mr_play.specs.WorldText.{world_text}
use Rattle.mr_trace.specs.Happened.{by_lines}
use Rattle.mr_trace_json.specs.Endings.{json_text}

-- what `play` prints of a run: what was told of lines, and then what came of it
abbrev pub Tells : List ℕ → Journal → List ℕ → Type 0
Tells told j printed = printed ≡ told ++ world_text j.config (world_in j)

-- the lines of the run of which `play` prints its text for the input, with the line of the script that made each
-- event. They have what that text tells of lines too
pub record TellsPlay (within : Config → Limits) (input text : List ℕ) : Type 0 where
  pub printed : List ℕ
  pub told : List ℕ
  pub prints : PrintsPlay within input printed
  pub tells : Tells told (printed_journal within input printed prints) printed
  pub is : text ≡ json_text (by_lines (printed_stretches within input printed prints)) told (printed_journal within input printed prints)
