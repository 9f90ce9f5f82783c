-- What `play` shows beside what came of a script, where it is asked to (our own profile): a trace before it, and the history behind it.
use Rattle.std.specs.Prelude.{◌≡◌, ℕ, true, false, List, [], ◌++◌}
use Rattle.mr_world_model.specs.Packets.{Config}
use Rattle.mr_world_model.specs.Claims.{Limits}
use Rattle.mr_play.specs.declared.shown.Shown.{Shown}
use Rattle.mr_play.specs.Shown.{IsHistory}
use Rattle.mr_play.specs.Text.{PrintsPlay, printed_journal, printed_stretches}
use Rattle.mr_trace.specs.Happened.{by_lines}
use Rattle.mr_trace.specs.Trace.{trace_text}

-- The text has what `play` prints. Before it stands the trace of the run of which that is printed, with the line of
-- the script that made each event. Behind it stands the history of that run. Each is there exactly where it is asked
-- for.
pub record Shows (within : Config → Limits) (shown : Shown) (input text : List ℕ) : Type 0 where
  pub before : List ℕ
  pub printed : List ℕ
  pub behind : List ℕ
  pub prints : PrintsPlay within input printed
  pub untraced : shown.trace ≡ false → before ≡ []
  pub traced : shown.trace ≡ true → before ≡ trace_text (by_lines (printed_stretches within input printed prints)) (printed_journal within input printed prints)
  pub plain : shown.history ≡ false → behind ≡ []
  pub history : shown.history ≡ true → IsHistory (printed_journal within input printed prints) behind
  pub is : text ≡ before ++ (printed ++ behind)
