-- What a run came to (our own profile): what `play` prints of its cluster, as a value.
use Rattle.std.specs.Prelude.{ℕ, Bool, false, ◌&&◌, List, ◌++◌, Option, Some, None}
use Rattle.std.specs.Cmp.Lexicographic.{pointwise}
use Rattle.std.specs.List.{slice_get}
use Rattle.std.specs.Option.{option_eq}
use Rattle.std.specs.Str.{bytes_eq}
use Rattle.std.proofs.Math.Bool.{beq}
use Rattle.mr_ids.specs.Attempt.{Attempt}
use Rattle.mr_ids.specs.Same.{same_attempt}
use Rattle.mr_script.specs.declared.expectation.Expectation.{Expectation}
use Rattle.mr_script.specs.declared.expectation.Expectation.TheVariants as expected
use Rattle.mr_script_writer.specs.Results.{winners_text, line_of_marker, line_of_outcome}

pub record Outcome : Type 0 where
  pub winners : List (Option Attempt)  -- of each reduce, by its number
  pub marker : Bool  -- whether the success marker is there
  pub outcome : Option Bool  -- whether the job succeeded, if that was told
  pub files : List ℕ  -- the visible files by rising name, each with its name and length, as they are printed

-- as it is printed: the lines of the winners, of the marker and of the outcome, and the files
abbrev pub outcome_text : Outcome → List ℕ
outcome_text o = winners_text 0 o.winners ++ line_of_marker o.marker ++ line_of_outcome o.outcome ++ o.files

-- two are the same in each part
abbrev pub same_outcome : Outcome → Outcome → Bool
same_outcome a b = beq a.marker b.marker && (option_eq beq a.outcome b.outcome && (pointwise (option_eq same_attempt) a.winners b.winners && bytes_eq a.files b.files))

-- there is such a reduce, and this is its winner, or it has none
abbrev pub has_winner : Option Attempt → Option (Option Attempt) → Bool
has_winner won None = false
has_winner won (Some found) = option_eq same_attempt found won

-- it is as is expected
abbrev pub is_so : Outcome → Expectation → Bool
is_so o (expected.Winner r won) = has_winner won (slice_get o.winners r)
is_so o (expected.Marker there) = beq o.marker there
is_so o (expected.Outcome told) = option_eq beq o.outcome told
