-- Ends and their least scripts as lines of JSON (our own profile): an object for each, and last of how many runs they are.
use Rattle.std.specs.Prelude.{ℕ, not, List, [], ◌∷◌, ◌++◌, length, codes, Option, Some, None}
use Rattle.std.specs.List.{flat_map}
use Rattle.mr_script.specs.declared.expectation.Expectation.{Expectation}
use Rattle.mr_script_writer.specs.Repeating.{repeating}
use Rattle.serde_json.specs.Data.{Data, boolean}
use Rattle.mr_sim_json.specs.Members.{Member, count, line_of, object_of, text}
use Rattle.mr_explore_ends.specs.JsonLines.{read_members}
use Rattle.mr_explore_ends.specs.Text.{Sequential}
use Rattle.mr_explore_least.specs.Table.{Arrival, Table, least_of}
use Rattle.mr_explore_least.specs.Text.{marked_are_sequential}

-- of the least script to an end how many faults and events it has, and the script
abbrev pub script_members : Arrival → List Member
script_members r = (codes "faults", count r.faults) ∷ (codes "events", count (length r.events)) ∷ (codes "script", text (repeating r.events)) ∷ []

-- what is read of the end, and this
abbrev pub row_object : Sequential → Arrival → Data
row_object s r = object_of (read_members s r.end ++ script_members r)

abbrev pub row_line : Sequential → Arrival → List ℕ
row_line s r = line_of (row_object s r)

-- how many faults a run has at most, whether these ends are those of all such runs, how many came, and whether the files are right where the marker is
abbrev pub runs_members : Sequential → ℕ → Table → List Member
runs_members s faults t = (codes "faults", count faults) ∷ (codes "all", boolean (not t.past_limit)) ∷ (codes "ends", count (length t.rows)) ∷ (codes "sequential", boolean (marked_are_sequential s t.rows)) ∷ []

abbrev pub runs_line : Sequential → ℕ → Table → List ℕ
runs_line s faults t = line_of (object_of (runs_members s faults t))

-- the line of a row, if there is one
abbrev pub line_if_some : Sequential → Option Arrival → List ℕ
line_if_some s None = []
line_if_some s (Some r) = row_line s r

-- all ends, or the first that meets a goal
abbrev pub chosen_lines : Sequential → Option (List Expectation) → Table → List ℕ
chosen_lines s None t = flat_map (row_line s) t.rows
chosen_lines s (Some goal) t = line_if_some s (least_of goal t.rows)

abbrev pub least_json : Sequential → Option (List Expectation) → ℕ → Table → List ℕ
least_json s goal faults t = chosen_lines s goal t ++ runs_line s faults t
