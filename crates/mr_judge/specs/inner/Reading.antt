-- The parts of a line that tells of a call.
use Rattle.std.specs.Prelude.{◌≡◌, ◌⊎◌, ℕ, List, ◌∷◌, ◌++◌, Option, Some, None, codes, decimal}
use Rattle.mr_ids.specs.Attempt.{Attempt}
use Rattle.mr_names.specs.declared.op.Caller.{Caller}
use Rattle.mr_names.specs.declared.op.Op.{Op}
use Rattle.mr_script.specs.Script.{IsGeneration}
use Rattle.mr_script.specs.Words.{with_word}
use Rattle.mr_call_words.specs.Words.{IsCall, call_line}
use Rattle.mr_judge.specs.declared.line.Told.{Told}
use Rattle.mr_judge.specs.declared.line.Told.TheVariants.{Raised, Called}
use Rattle.mr_judge.specs.Trace.{IsWho, who_word}

-- the call that has these words
abbrev pub ReadsAnswered : Caller → List ℕ → List ℕ → Option Told → Type 0
ReadsAnswered caller text answer None = (call : Op) → IsCall call → text ≡ call_line call → ⊥
ReadsAnswered caller text answer (Some told) = (call : Op) × IsCall call × (text ≡ call_line call) × (told ≡ Called caller call answer)

-- what stands behind the generation
abbrev pub rest_line : Option Attempt → Op → List ℕ → List ℕ
rest_line who call answer = with_word (who_word who) (call_line call ++ 58 ∷ 32 ∷ answer)

abbrev pub ReadsCalled : ℕ → List ℕ → Option Told → Type 0
ReadsCalled app rest None = (who : Option Attempt) (call : Op) (answer : List ℕ) → IsWho who → IsCall call → rest ≡ rest_line who call answer → ⊥
ReadsCalled app rest (Some told) =
    (who : Option Attempt) × (call : Op) × (answer : List ℕ) × IsWho who × IsCall call × (rest ≡ rest_line who call answer) × (told ≡ Called (record { app = app; attempt = who }) call answer)

-- what stands behind who makes it
abbrev pub ReadsSaid : Caller → List ℕ → Option Told → Type 0
ReadsSaid caller behind None = (call : Op) (answer : List ℕ) → IsCall call → behind ≡ call_line call ++ 58 ∷ 32 ∷ answer → ⊥
ReadsSaid caller behind (Some told) = (call : Op) × (answer : List ℕ) × IsCall call × (behind ≡ call_line call ++ 58 ∷ 32 ∷ answer) × (told ≡ Called caller call answer)

-- the first word, and what stands behind it
abbrev pub ReadsTold : List ℕ → List ℕ → Option Told → Type 0
ReadsTold word rest None =
    (word ≡ codes "raise" → (k : ℕ) → IsGeneration k → rest ≡ decimal k → ⊥)
    × ((k : ℕ) → IsGeneration k → word ≡ decimal k → ReadsCalled k rest None)
ReadsTold word rest (Some told) =
    ((k : ℕ) × IsGeneration k × (word ≡ codes "raise") × (rest ≡ decimal k) × (told ≡ Raised k))
    ⊎ ((k : ℕ) × IsGeneration k × (word ≡ decimal k) × ReadsCalled k rest (Some told))
