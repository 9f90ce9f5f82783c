-- A line is read by its parts.
use Rattle.std.proofs.Common.{◌≡◌, ℕ, List, ◌∷◌, ◌++◌, Option, Some, None, codes, sym, ap, ◌∙◌}
use Rattle.mr_ids.specs.Attempt.{Attempt}
use Rattle.mr_ids.specs.Text.{IsAttempt}
use Rattle.mr_script.specs.Lines.{before, after, IsNoLine}
use Rattle.mr_script.specs.Words.{attempt_word}
use Rattle.mr_script.proofs.Words.{front-is, no-cut, rest-is}
use Rattle.mr_task_talk.specs.Line.{IsLine, verb_text}
use Rattle.mr_task_talk.specs.declared.line.Line.{Line}
use Rattle.mr_task_talk.specs.declared.line.Line.TheVariants.{Launch, Of}
use Rattle.mr_task_talk.specs.declared.line.Verb.{Verb}
use Rattle.mr_task_talk.proofs.Verbs.{verb_lacks}

pub is_launch : (line : List ℕ) → line ≡ codes "launch" → IsLine line Launch
is_launch line is = (tt, is)

pub is_of : (line word rest : List ℕ) (v : Verb) (a : Attempt) → line ≡ word ++ 32 ∷ rest → word ≡ verb_text v → IsAttempt a → rest ≡ attempt_word a → IsLine line (Of v a)
is_of line word rest v a whole is fits same = (fits, whole ∙ ap (λ w. w ++ 32 ∷ rest) is ∙ ap (λ r. verb_text v ++ 32 ∷ r) same)

pub no_word : (line : List ℕ) → (line ≡ codes "launch" → ⊥) → after 32 line ≡ None → IsNoLine IsLine line
no_word line other none Launch h = other h.1
no_word line other none (Of v a) h = no-cut 32 line (verb_text v) (attempt_word a) (verb_lacks v) none h.1

pub no_verb : (line word : List ℕ) → (line ≡ codes "launch" → ⊥) → before 32 line ≡ word → ((v : Verb) → word ≡ verb_text v → ⊥) → IsNoLine IsLine line
no_verb line word other cut none Launch h = other h.1
no_verb line word other cut none (Of v a) h = none v (front-is 32 line word (verb_text v) (attempt_word a) (verb_lacks v) cut h.1)

pub no_attempt : (line rest : List ℕ) → (line ≡ codes "launch" → ⊥) → after 32 line ≡ Some rest → ((a : Attempt) → IsAttempt a → rest ≡ attempt_word a → ⊥) → IsNoLine IsLine line
no_attempt line rest other cut none Launch h = other h.1
no_attempt line rest other cut none (Of v a) h = none a h.0 (rest-is 32 line rest (verb_text v) (attempt_word a) (verb_lacks v) cut h.1)
