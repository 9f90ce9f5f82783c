-- The ends that runs came to as lines of JSON (our own profile): an object for each, and last how many runs were made.
use Rattle.std.specs.Prelude.{ℕ, ◌+◌, List, [], ◌∷◌, ◌++◌, ◌==◌, length, map, codes, Option, Some, None, if◌then◌else◌}
use Rattle.std.specs.List.{flat_map, range_with_len}
use Rattle.mr_ids.specs.Attempt.{Attempt}
use Rattle.mr_script.specs.declared.expectation.Expectation.{Expectation}
use Rattle.mr_script.specs.Expected.{outcome_word, winner_word}
use Rattle.mr_explore_ends.specs.Outcomes.{Outcome}
use Rattle.mr_explore_ends.specs.Table.{End}
use Rattle.mr_explore_ends.specs.Goals.{best_of}
use Rattle.mr_explore_ends.specs.Text.{Found, Sequential, are_all, is_sequential, marked_are_sequential}
use Rattle.serde_json.specs.Data.{Data, boolean, null}
use Rattle.mr_sim_json.specs.Members.{Member, count, line_of, list, object_of, text}

-- ---- objects

-- a winner; null stands for none
abbrev pub winner_data : Option Attempt → Data
winner_data None = null
winner_data (Some a) = text (winner_word (Some a))

-- winners by reduce, the marker, the outcome, and the files that a reader sees, as they are printed
abbrev pub read_members : Sequential → Outcome → List Member
read_members s end =
    (codes "winners", list (map winner_data end.winners))
    ∷ (codes "marker", boolean end.marker)
    ∷ (codes "outcome", text (outcome_word end.outcome))
    ∷ (codes "seen", text end.files)
    ∷ (codes "sequential", boolean (is_sequential s end))
    ∷ []

-- how many runs came to it, how many of them were ended since they make no progress, and of the first shortest how many
-- faults and events it has, and its script
abbrev pub shortest_members : End → List Member
shortest_members e = (codes "runs", count e.runs) ∷ (codes "stalled", count e.stalled) ∷ (codes "faults", count e.faults) ∷ (codes "events", count e.events) ∷ (codes "script", text e.script) ∷ []

abbrev pub end_object : Sequential → End → Data
end_object s e = object_of (read_members s e.end ++ shortest_members e)

abbrev pub end_line : Sequential → End → List ℕ
end_line s e = line_of (end_object s e)

-- how many runs were made, with how many faults at most, whether these are all, how many of them would pass a limit, how many
-- were cut, how many ends came, and whether the files are right where the marker is
abbrev pub runs_members : Sequential → Found → List Member
runs_members s f = (codes "runs", count f.table.runs) ∷ (codes "faults", count f.faults) ∷ (codes "all", boolean (are_all f)) ∷ (codes "past_limit", count f.table.past_limit) ∷ (codes "cut", count f.table.cut) ∷ (codes "ends", count (length f.table.ends)) ∷ (codes "sequential", boolean (marked_are_sequential s f.table.ends)) ∷ []

abbrev pub runs_line : Sequential → Found → List ℕ
runs_line s f = line_of (object_of (runs_members s f))

-- ---- lines

abbrev pub line_if : Sequential → ℕ → End → List ℕ
line_if s faults e = if e.faults == faults then end_line s e else []

abbrev pub lines_by : Sequential → List End → ℕ → List ℕ
lines_by s ends faults = flat_map (line_if s faults) ends

abbrev pub best_line : Sequential → Option End → List ℕ
best_line s None = []
best_line s (Some e) = end_line s e

-- all ends, those of the fewest faults first, or the best that meets a goal, if one does
abbrev pub chosen_lines : Sequential → Option (List Expectation) → Found → List ℕ
chosen_lines s None f = flat_map (lines_by s f.table.ends) (range_with_len 0 (f.faults + 1))
chosen_lines s (Some goal) f = best_line s (best_of goal f.table.ends)

abbrev pub ends_json : Sequential → Option (List Expectation) → Found → List ℕ
ends_json s goal f = chosen_lines s goal f ++ runs_line s f
