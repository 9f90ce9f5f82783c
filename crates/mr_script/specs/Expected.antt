-- What a script expects of a run, in the words that `play` prints: a reduce's winner, whether the success marker is there, and the outcome that was told. The command is our own.
use Rattle.std.specs.Prelude.{◌<◌, ◌^◌, ℕ, Bool, true, false, List, Option, Some, None, codes, decimal}
use Rattle.mr_ids.specs.Attempt.{Attempt}
use Rattle.mr_ids.specs.Text.{IsAttempt}
use Rattle.mr_script.specs.declared.expectation.Expectation.{Expectation}
use Rattle.mr_script.specs.declared.expectation.Expectation.TheVariants.{Winner, Marker, Outcome}
use Rattle.mr_script.specs.Words.{with_word, attempt_word}

-- a reduce's winner, if it has one
abbrev pub winner_word : Option Attempt → List ℕ
winner_word None = codes "none"
winner_word (Some a) = attempt_word a

-- whether the marker is there
abbrev pub marker_word : Bool → List ℕ
marker_word true = codes "yes"
marker_word false = codes "no"

-- the outcome that was told, if one was
abbrev pub outcome_word : Option Bool → List ℕ
outcome_word None = codes "none"
outcome_word (Some true) = codes "succeeded"
outcome_word (Some false) = codes "failed"

-- what it speaks of: a reduce, the marker, or the outcome
abbrev pub subject_words : Expectation → List ℕ
subject_words (Winner r a) = with_word (codes "r") (decimal r)
subject_words (Marker there) = codes "marker"
subject_words (Outcome told) = codes "outcome"

-- what is expected of it
abbrev pub value_word : Expectation → List ℕ
value_word (Winner r a) = winner_word a
value_word (Marker there) = marker_word there
value_word (Outcome told) = outcome_word told

abbrev pub expected_words : Expectation → List ℕ
expected_words e = with_word (subject_words e) (value_word e)

abbrev pub IsWinner : Option Attempt → Type 0
IsWinner None = Unit {0}
IsWinner (Some a) = IsAttempt a

-- what may be expected: any attempt may be, and the reduce need not be there
abbrev pub IsExpectation : Expectation → Type 0
IsExpectation (Winner r a) = (r < 2 ^ 32) × IsWinner a
IsExpectation (Marker there) = Unit {0}
IsExpectation (Outcome told) = Unit {0}
