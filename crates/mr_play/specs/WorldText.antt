-- What `play` prints of a cluster (our own profile; the part files' names are Hadoop's). Its lines are those of mr_script_writer.
use Rattle.std.specs.Prelude.{ℕ, List, ◌++◌, map, Option}
use Rattle.std.specs.List.{flat_map, range_with_len}
use Rattle.mr_ids.specs.Attempt.{Attempt}
pub use Rattle.mr_script_writer.specs.Results.{line_of_winner, line_of_marker, line_of_outcome}
use Rattle.mr_world_model.specs.Ids.{Name, marker, reduce_of}
use Rattle.mr_world_model.specs.Content.{entry_at, is_file}
use Rattle.mr_world_model.specs.Packets.{Config}
use Rattle.mr_world_model.specs.World.{World}
use Rattle.mr_world_model.specs.Claims.{winner}
use Rattle.mr_world_model.specs.Results.{outcome, visible}
use Rattle.mr_sim_commands.specs.seq.PartFiles.{file_text}

-- the line of a reduce's winner
abbrev pub winner_line : Config → World → ℕ → List ℕ
winner_line cfg w r = line_of_winner r (winner w (reduce_of cfg.job r))

-- those of the reduces, by number
abbrev pub won_in : Config → World → List (Option Attempt)
won_in cfg w = map (λ r. winner w (reduce_of cfg.job r)) (range_with_len 0 cfg.reduces)

abbrev pub marker_line : World → List ℕ
marker_line w = line_of_marker (is_file (entry_at w.content marker))

abbrev pub outcome_line : World → List ℕ
outcome_line w = line_of_outcome (outcome w)

-- a visible file
abbrev pub visible_text : Name × List ℕ → List ℕ
visible_text f = file_text f.0 f.1

-- winners by reduce, the marker, the outcome, and the visible files by rising name
unfoldable pub world_text : Config → World → List ℕ
world_text cfg w =
    flat_map (winner_line cfg w) (range_with_len 0 cfg.reduces)
    ++ marker_line w ++ outcome_line w ++ flat_map visible_text (visible w)
