-- Ends that are sought (our own profile).
use Rattle.std.specs.Prelude.{◌≡◌, ℕ, Bool, false, not, ◌&&◌, List, [], ◌∷◌, ◌++◌, ◌==◌, cond, if◌then◌else◌, Option, Some, None}
use Rattle.std.specs.List.{list_all, list_any}
use Rattle.std.specs.Option.{option_eq}
use Rattle.std.proofs.Math.Bool.{beq}
use Rattle.mr_ids.specs.Same.{same_attempt}
use Rattle.mr_script.specs.declared.expectation.Expectation.{Expectation}
use Rattle.mr_script.specs.declared.expectation.Expectation.TheVariants as expected
use Rattle.mr_script.specs.Expected.{IsExpectation, expected_words}
use Rattle.mr_script.specs.Lines.{onto_line}
use Rattle.mr_explore_ends.specs.Outcomes.{Outcome, is_so}
use Rattle.mr_explore_ends.specs.Table.{End, is_shorter}

-- the end is as each line of the goal says
abbrev pub meets : List Expectation → Outcome → Bool
meets goal end = list_all (is_so end) goal

-- both tell of the same, and differ
abbrev pub is_against : Expectation → Expectation → Bool
is_against (expected.Winner r won) (expected.Winner s other) = (r == s) && not (option_eq same_attempt won other)
is_against (expected.Marker there) (expected.Marker other) = not (beq there other)
is_against (expected.Outcome told) (expected.Outcome other) = not (option_eq beq told other)
is_against _ _ = false

-- two lines of the goal can't be so at once
abbrev pub is_contrary : List Expectation → Bool
is_contrary goal = list_any (λ e. list_any (is_against e) goal) goal

-- ---- the best of them

abbrev pub better : Option End → End → Option End
better None e = Some e
better (Some best) e = if is_shorter e.faults e.events best then Some e else Some best

-- of these that meet the goal, and the best so far, the first of those with the fewest faults and events
abbrev pub best_from : List Expectation → Option End → List End → Option End
best_from goal best [] = best
best_from goal best (e ∷ es) = best_from goal (if meets goal e.end then better best e else best) es

abbrev pub best_of : List Expectation → List End → Option End
best_of goal es = best_from goal None es

-- ---- how a goal is written

-- the pieces of a text between these bytes, one more than there are of them
abbrev pub cut_at : ℕ → List ℕ → List (List ℕ)
cut_at b [] = [] ∷ []
cut_at b (x ∷ xs) = cond (x == b) ([] ∷ cut_at b xs) (onto_line x (cut_at b xs))

-- without the blank that it begins with, if it does
abbrev pub without_blank : List ℕ → List ℕ
without_blank [] = []
without_blank (b ∷ bytes) = cond (b == 32) bytes (b ∷ bytes)

-- the line is written as this is expected
abbrev pub IsExpected : List ℕ → Expectation → Type 0
IsExpected line e = IsExpectation e × (without_blank line ≡ expected_words e)

-- the lines are written so, one for each
abbrev pub AreExpected : List (List ℕ) → List Expectation → Type 0
AreExpected [] [] = Unit {0}
AreExpected (line ∷ lines) (e ∷ es) = IsExpected line e × AreExpected lines es
AreExpected [] (e ∷ es) = ⊥
AreExpected (line ∷ lines) [] = ⊥

-- a text is this goal: its lines have commas between, and a blank may be before each; they are those that `play` may print of winners, the marker or the outcome
abbrev pub IsGoal : List ℕ → List Expectation → Type 0
IsGoal text goal = AreExpected (cut_at 44 text) goal

-- one of them is no such line
pub record IsNoGoal (text : List ℕ) : Type 0 where
  pub before : List (List ℕ)
  pub line : List ℕ
  pub behind : List (List ℕ)
  pub are : cut_at 44 text ≡ before ++ line ∷ behind
  pub none : (e : Expectation) → IsExpected line e → ⊥
