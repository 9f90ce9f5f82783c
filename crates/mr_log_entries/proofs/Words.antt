-- Which line a text tells, by the word with which it begins.
use Rattle.std.proofs.Common.{◌≡◌, ◌≢◌, ℕ, List, ◌∷◌, ◌++◌, codes, get_or, refl, sym, ap, ◌∙◌, arith}
use Rattle.std.proofs.lemmas.List.{append_cancel_left}
use Rattle.mr_ids.specs.Attempt.{Attempt}
use Rattle.mr_ids.specs.declared.id.JobId.{JobId}
use Rattle.mr_log_entries.specs.declared.line.Handed.{Handed}
use Rattle.mr_log_entries.specs.declared.line.Line.{Line}
use Rattle.mr_log_entries.specs.declared.line.Line.TheVariants.{Started, Won, Failed, Interrupted, Unsuccessful, Publish, Published}
use Rattle.mr_log_entries.specs.Texts.{attempt_name, handed_text, line_text, IsLineOf, IsAttemptOf, IsHanded}

-- two texts that differ in their first byte
apart : (b c : ℕ) (xs ys : List ℕ) → (b ≡ c → ⊥) → get_or xs 0 0 ≡ b → get_or ys 0 0 ≡ c → xs ≡ ys → ⊥
apart b c xs ys other x y e = other (sym x ∙ ap (λ (l : List ℕ). get_or l 0 0) e ∙ y)

pub record IsStarted (j : JobId) (rest : List ℕ) (line : Line) : Type 0 where
  pub attempt : Attempt
  pub is : line ≡ Started attempt
  pub of : IsAttemptOf j attempt
  pub text : rest ≡ attempt_name attempt

pub only_started : (j : JobId) (rest : List ℕ) (line : Line) → IsLineOf j line → codes "started " ++ rest ≡ line_text line → IsStarted j rest line
unfolding line_text
only_started j rest (Started a) of e = record { attempt = a; is = refl; of = of; text = append_cancel_left (codes "started ") rest (attempt_name a) e }
only_started j rest (Won a h) of e = absurd (apart 115 119 _ _ (λ i. omega (arith, i)) refl refl e)
only_started j rest (Failed a) of e = absurd (apart 115 102 _ _ (λ i. omega (arith, i)) refl refl e)
only_started j rest (Interrupted a) of e = absurd (apart 115 105 _ _ (λ i. omega (arith, i)) refl refl e)
only_started j rest Unsuccessful of e = absurd (apart 115 117 _ _ (λ i. omega (arith, i)) refl refl e)
only_started j rest Publish of e = absurd (apart 115 112 _ _ (λ i. omega (arith, i)) refl refl e)
only_started j rest Published of e = absurd (apart 115 112 _ _ (λ i. omega (arith, i)) refl refl e)

pub record IsWon (j : JobId) (rest : List ℕ) (line : Line) : Type 0 where
  pub attempt : Attempt
  pub handed : Handed
  pub is : line ≡ Won attempt handed
  pub of : IsAttemptOf j attempt
  pub fits : IsHanded handed
  pub text : rest ≡ attempt_name attempt ++ 32 ∷ handed_text handed

pub only_won : (j : JobId) (rest : List ℕ) (line : Line) → IsLineOf j line → codes "won " ++ rest ≡ line_text line → IsWon j rest line
unfolding line_text
only_won j rest (Won a h) of e = record { attempt = a; handed = h; is = refl; of = of.0; fits = of.1; text = append_cancel_left (codes "won ") rest (attempt_name a ++ 32 ∷ handed_text h) e }
only_won j rest (Started a) of e = absurd (apart 119 115 _ _ (λ i. omega (arith, i)) refl refl e)
only_won j rest (Failed a) of e = absurd (apart 119 102 _ _ (λ i. omega (arith, i)) refl refl e)
only_won j rest (Interrupted a) of e = absurd (apart 119 105 _ _ (λ i. omega (arith, i)) refl refl e)
only_won j rest Unsuccessful of e = absurd (apart 119 117 _ _ (λ i. omega (arith, i)) refl refl e)
only_won j rest Publish of e = absurd (apart 119 112 _ _ (λ i. omega (arith, i)) refl refl e)
only_won j rest Published of e = absurd (apart 119 112 _ _ (λ i. omega (arith, i)) refl refl e)

pub record IsFailed (j : JobId) (rest : List ℕ) (line : Line) : Type 0 where
  pub attempt : Attempt
  pub is : line ≡ Failed attempt
  pub of : IsAttemptOf j attempt
  pub text : rest ≡ attempt_name attempt

pub only_failed : (j : JobId) (rest : List ℕ) (line : Line) → IsLineOf j line → codes "failed " ++ rest ≡ line_text line → IsFailed j rest line
unfolding line_text
only_failed j rest (Failed a) of e = record { attempt = a; is = refl; of = of; text = append_cancel_left (codes "failed ") rest (attempt_name a) e }
only_failed j rest (Started a) of e = absurd (apart 102 115 _ _ (λ i. omega (arith, i)) refl refl e)
only_failed j rest (Won a h) of e = absurd (apart 102 119 _ _ (λ i. omega (arith, i)) refl refl e)
only_failed j rest (Interrupted a) of e = absurd (apart 102 105 _ _ (λ i. omega (arith, i)) refl refl e)
only_failed j rest Unsuccessful of e = absurd (apart 102 117 _ _ (λ i. omega (arith, i)) refl refl e)
only_failed j rest Publish of e = absurd (apart 102 112 _ _ (λ i. omega (arith, i)) refl refl e)
only_failed j rest Published of e = absurd (apart 102 112 _ _ (λ i. omega (arith, i)) refl refl e)

pub record IsInterrupted (j : JobId) (rest : List ℕ) (line : Line) : Type 0 where
  pub attempt : Attempt
  pub is : line ≡ Interrupted attempt
  pub of : IsAttemptOf j attempt
  pub text : rest ≡ attempt_name attempt

pub only_interrupted : (j : JobId) (rest : List ℕ) (line : Line) → IsLineOf j line → codes "interrupted " ++ rest ≡ line_text line → IsInterrupted j rest line
unfolding line_text
only_interrupted j rest (Interrupted a) of e = record { attempt = a; is = refl; of = of; text = append_cancel_left (codes "interrupted ") rest (attempt_name a) e }
only_interrupted j rest (Started a) of e = absurd (apart 105 115 _ _ (λ i. omega (arith, i)) refl refl e)
only_interrupted j rest (Won a h) of e = absurd (apart 105 119 _ _ (λ i. omega (arith, i)) refl refl e)
only_interrupted j rest (Failed a) of e = absurd (apart 105 102 _ _ (λ i. omega (arith, i)) refl refl e)
only_interrupted j rest Unsuccessful of e = absurd (apart 105 117 _ _ (λ i. omega (arith, i)) refl refl e)
only_interrupted j rest Publish of e = absurd (apart 105 112 _ _ (λ i. omega (arith, i)) refl refl e)
only_interrupted j rest Published of e = absurd (apart 105 112 _ _ (λ i. omega (arith, i)) refl refl e)

-- what begins with none of these words names no attempt
pub data Decided (text : List ℕ) (line : Line) : Type 0 where
  unsuccessful : line ≡ Unsuccessful → text ≡ codes "unsuccessful" → Decided text line
  publish : line ≡ Publish → text ≡ codes "publish" → Decided text line
  published : line ≡ Published → text ≡ codes "published" → Decided text line

pub only_decided : (text : List ℕ) (line : Line)
    → ((rest : List ℕ) → text ≢ codes "started " ++ rest)
    → ((rest : List ℕ) → text ≢ codes "won " ++ rest)
    → ((rest : List ℕ) → text ≢ codes "failed " ++ rest)
    → ((rest : List ℕ) → text ≢ codes "interrupted " ++ rest)
    → text ≡ line_text line → Decided text line
unfolding line_text
only_decided text (Started a) one two three four e = absurd (one (attempt_name a) e)
only_decided text (Won a h) one two three four e = absurd (two (attempt_name a ++ 32 ∷ handed_text h) e)
only_decided text (Failed a) one two three four e = absurd (three (attempt_name a) e)
only_decided text (Interrupted a) one two three four e = absurd (four (attempt_name a) e)
only_decided text Unsuccessful one two three four e = unsuccessful refl e
only_decided text Publish one two three four e = publish refl e
only_decided text Published one two three four e = published refl e
