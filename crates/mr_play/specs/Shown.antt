-- What `play` shows behind what came of a script, where it is asked to: the history (our own profile). What stands before it is a trace, which the crate above says.
use Rattle.std.specs.Prelude.{◌≡◌, ℕ, zero, suc, true, false, List, [], ◌∷◌, ◌++◌, length, codes, decimal}
use Rattle.mr_history.specs.Reading.{records_of}
use Rattle.mr_world_model.specs.Packets.{Config}
use Rattle.mr_world_model.specs.Claims.{Limits}
use Rattle.mr_world.specs.Histories.{stable_bytes}
use Rattle.mr_world.specs.Journal.{Journal, history_in, world_in}
use Rattle.mr_world.specs.Limits.{within}
use Rattle.mr_play.specs.declared.shown.Shown.{Shown}
use Rattle.mr_play.specs.declared.player.Player.{Player}
use Rattle.mr_play.specs.Players.{state_in}
use Rattle.mr_play.specs.Text.{PrintsPlay, printed_journal, printed_stretches, printed_world}
use Rattle.mr_play.specs.WorldText.{world_text}

-- a segment: its generation and how many bytes are stable, and then these
abbrev pub segment_text : ℕ → List ℕ → List ℕ
segment_text k bytes = codes "== history " ++ decimal k ++ codes " " ++ decimal (length bytes) ++ 10 ∷ bytes

-- that of generation k: all bytes of it that are stable, a torn end too; the records of these are those that are stable
pub record IsSegment (j : Journal) (k : ℕ) (text : List ℕ) : Type 0 where
  pub tells : records_of (stable_bytes (history_in j) k) ≡ ((world_in j).history k).stable
  pub is : text ≡ segment_text k (stable_bytes (history_in j) k)

-- the segments of the first n generations, in order
abbrev pub AreSegments : Journal → ℕ → List ℕ → Type 0
AreSegments j zero text = text ≡ []
AreSegments j (suc n) text = (older newest : List ℕ) × AreSegments j n older × IsSegment j (suc n) newest × (text ≡ older ++ newest)

-- the segment of each generation that was started, in order, after the events of a journal
abbrev pub IsHistory : Journal → List ℕ → Type 0
IsHistory j text = AreSegments j (world_in j).fence text

-- the segments of the first n generations were written behind
abbrev pub AddsSegments : Journal → ℕ → List ℕ → List ℕ → Type 0
AddsSegments j n old new = (more : List ℕ) × AreSegments j n more × (new ≡ old ++ more)

-- what is printed of a player: what was told of lines, and then of its world
abbrev pub text_in : Player → List ℕ
text_in p = p.told.items ++ world_text p.world.config (world_in p.world)

-- a player has played what an input says: it computes what the job text says, and is as far as the script. Its text
-- is printed, of its cluster. It knows whether all is as expected, and which line made which events
pub record HasPrinted (input : List ℕ) (p : Player) : Type 0 where
  pub prints : PrintsPlay within input (text_in p)
  pub kind : prints.job.job ≡ p.job
  pub state : prints.left ≡ state_in p
  pub met : prints.left.met ≡ p.met
  pub cluster : printed_world within input (text_in p) prints ≡ world_in p.world
  pub journal : printed_journal within input (text_in p) prints ≡ p.world
  pub noted : printed_stretches within input (text_in p) prints ≡ p.stretches.items

-- a text that has it: with this before it, and behind it the history where that is asked for, else nothing
pub record HasText (p : Player) (shown : Shown) (before text : List ℕ) : Type 0 where
  pub behind : List ℕ
  pub plain : shown.history ≡ false → behind ≡ []
  pub history : shown.history ≡ true → IsHistory p.world behind
  pub is : text ≡ before ++ (text_in p ++ behind)

-- there is a text that `play` prints: what a picture of the run shows is said nowhere
abbrev pub Draws : (Config → Limits) → List ℕ → Type 0
Draws within input = (printed : List ℕ) × PrintsPlay within input printed
