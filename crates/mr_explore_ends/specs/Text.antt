-- What is printed of the ends that runs came to (our own profile). All but the scripts stands in comments, so that each part of it, behind the job text, is an input of `play`.
use Rattle.std.specs.Prelude.{ℕ, ◌+◌, Bool, true, false, not, ◌&&◌, ◌||◌, List, [], ◌∷◌, ◌++◌, ◌==◌, length, codes, decimal, Option, Some, None, if◌then◌else◌}
use Rattle.std.specs.List.{flat_map, list_all, range_with_len}
use Rattle.std.specs.Str.{bytes_eq}
use Rattle.mr_script.specs.declared.expectation.Expectation.{Expectation}
use Rattle.mr_script_writer.specs.Repeating.{commented}
use Rattle.mr_explore_ends.specs.Outcomes.{Outcome, outcome_text}
use Rattle.mr_explore_ends.specs.Table.{End, Table}
use Rattle.mr_explore_ends.specs.Goals.{best_of}

-- ---- whether the files of an end are those of the sequential execution

-- what `seq` prints of the job, if it prints anything
pub record Sequential : Type 0 where
  pub files : Option (List ℕ)

abbrev pub are_files : Option (List ℕ) → List ℕ → Bool
are_files None files = false
are_files (Some said) files = bytes_eq files said

abbrev pub is_sequential : Sequential → Outcome → Bool
is_sequential s end = are_files s.files end.files

-- where the marker is, the files are those of the sequential execution
abbrev pub is_sequential_if_marked : Sequential → End → Bool
is_sequential_if_marked s e = not e.end.marker || is_sequential s e.end

-- so it is of each end
abbrev pub marked_are_sequential : Sequential → List End → Bool
marked_are_sequential s ends = list_all (is_sequential_if_marked s) ends

-- ---- the text

-- words, a number, and what is counted
unfoldable pub counting : List ℕ → ℕ → List ℕ → List ℕ
counting before n word = before ++ decimal n ++ word ++ (if n == 1 then [] else codes "s")

-- what was found: the table of the runs that were made, how many faults a run has at most, and whether none is left to be made
pub record Found : Type 0 where
  pub table : Table
  pub faults : ℕ
  pub whole : Bool

-- the runs of the table are all: none is left to be made, none would pass a limit, and none was cut
abbrev pub are_all : Found → Bool
are_all f = f.whole && ((f.table.past_limit == 0) && (f.table.cut == 0))

abbrev pub past_limit_text : ℕ → List ℕ
past_limit_text n = decimal n ++ codes " would pass a limit"

abbrev pub cut_text : ℕ → List ℕ
cut_text n = decimal n ++ (if n == 1 then codes " was cut" else codes " were cut")

-- some would pass a limit, and maybe some were cut
abbrev pub both_text : (past cut : ℕ) → List ℕ
both_text past cut = past_limit_text past ++ (if cut == 0 then [] else codes ", " ++ cut_text cut)

abbrev pub counts_text : (past cut : ℕ) → List ℕ
counts_text past cut = if past == 0 then cut_text cut else both_text past cut

-- how many would pass a limit, and how many were cut, if any did or was
abbrev pub why_text : (past cut : ℕ) → List ℕ
why_text past cut = if (past == 0) && (cut == 0) then [] else codes " (" ++ counts_text past cut ++ codes ")"

abbrev pub if_not_all : Bool → (past cut : ℕ) → List ℕ
if_not_all true past cut = []
if_not_all false past cut = codes ", not all" ++ why_text past cut

-- how many runs were made, with how many faults at most, whether these are all, how many of them would pass a limit, and how
-- many were cut
abbrev pub runs_text : Found → List ℕ
runs_text f = counting (codes "# ") f.table.runs (codes " run") ++ counting (codes " with at most ") f.faults (codes " fault") ++ if_not_all (are_all f) f.table.past_limit f.table.cut

-- whether a reader sees no file, just those of the sequential execution, or others
abbrev pub seen_line : Sequential → Outcome → List ℕ
seen_line s end =
    if length end.files == 0 then codes "# files none\n"
    else if is_sequential s end then codes "# files those of seq\n"
    else codes "# files not those of seq\n"

-- how many runs came to an end, and how many faults and events the first shortest of them has
abbrev pub shortest_line : End → List ℕ
shortest_line e =
    counting (codes "# ") e.runs (codes " run") ++ counting (codes "; the first shortest has ") e.faults (codes " fault") ++ counting (codes " and ") e.events (codes " event") ++ 10 ∷ []

-- how many of these runs were ended since they make no progress, if any was
abbrev pub stalled_line : ℕ → List ℕ
stalled_line n = if n == 0 then [] else counting (codes "# ended without progress: ") n (codes " run") ++ 10 ∷ []

abbrev pub runs_lines : End → List ℕ
runs_lines e = shortest_line e ++ stalled_line e.stalled

-- an end: these two lines, what is printed of it, what its files are, and the script
abbrev pub end_text : Sequential → End → List ℕ
end_text s e = runs_lines e ++ commented (outcome_text e.end) ++ seen_line s e.end ++ e.script

-- an end behind an empty line, if its script has just this many faults
abbrev pub text_if : Sequential → ℕ → End → List ℕ
text_if s faults e = if e.faults == faults then 10 ∷ end_text s e else []

abbrev pub ends_text : Sequential → List End → ℕ → List ℕ
ends_text s ends faults = flat_map (text_if s faults) ends

abbrev pub marked_line : Bool → List ℕ
marked_line true = codes "# with the marker the files are those of seq: yes\n"
marked_line false = codes "# with the marker the files are those of seq: no\n"

-- how many runs and ends there are, whether the files are right where the marker is, and all ends, those of the fewest faults first
abbrev pub all_text : Sequential → Found → List ℕ
all_text s f =
    runs_text f ++ counting (codes ", ") (length f.table.ends) (codes " end") ++ 10 ∷ marked_line (marked_are_sequential s f.table.ends) ++ flat_map (ends_text s f.table.ends) (range_with_len 0 (f.faults + 1))

-- the best end that meets a goal, or `none`
abbrev pub best_text : Sequential → Option End → List ℕ
best_text s None = codes "none\n"
best_text s (Some e) = end_text s e

abbrev pub found_text : Sequential → List Expectation → Found → List ℕ
found_text s goal f = runs_text f ++ 10 ∷ best_text s (best_of goal f.table.ends)

-- what is printed, of all ends or of the best that meets a goal
abbrev pub explored_text : Sequential → Option (List Expectation) → Found → List ℕ
explored_text s None f = all_text s f
explored_text s (Some goal) f = found_text s goal f
