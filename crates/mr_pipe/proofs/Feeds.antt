-- The first line of a stream, and those behind it.
use Rattle.std.proofs.Common.{◌≡◌, ◌≢◌, ℕ, Bool, true, false, List, [], ◌∷◌, ◌++◌, ◌==◌, cond, Option, Some, None, refl, sym, ap, ◌∙◌, arith}
use Rattle.std.proofs.lemmas.Bool.Decides.{nat_tests}
use Rattle.std.specs.Io.BufRead.{take_through, drop_through}
use Rattle.mr_pipe.specs.Stream.{GivesLine, IsFirst, lines_in, onto_line}
use Rattle.mr_pipe.specs.inner.Reading.{TakesFeed}

none_left : (line : List ℕ) → [] ≡ line ++ 10 ∷ [] → ⊥
none_left [] e = cc
none_left (b ∷ line) e = cc

first_line : (bytes line : List ℕ) → take_through 10 bytes ≡ line ++ 10 ∷ [] → lines_in bytes ≡ line ∷ lines_in (drop_through 10 bytes)
first_line [] line e = absurd (none_left line e)
first_line (b ∷ bytes) line e = by (b == 10) refl (first_line bytes) line e
  where
    by : (t : Bool) → (b == 10) ≡ t → ((line : List ℕ) → take_through 10 bytes ≡ line ++ 10 ∷ [] → lines_in bytes ≡ line ∷ lines_in (drop_through 10 bytes)) → (line : List ℕ) →
        cond t (b ∷ []) (b ∷ take_through 10 bytes) ≡ line ++ 10 ∷ [] → cond t ([] ∷ lines_in bytes) (onto_line b (lines_in bytes)) ≡ line ∷ lines_in (cond t bytes (drop_through 10 bytes))
    by true is go [] e = refl
    by true is go (c ∷ line) e = absurd (none_left line cc)
    by false is go [] e = let same : b ≡ 10 = cc in absurd (grind (arith, nat_tests))
    by false is go (c ∷ line) e =
        let same : b ≡ c = cc in
        let rest : take_through 10 bytes ≡ line ++ 10 ∷ [] = cc in
        ap (onto_line b) (go line rest) ∙ ap (λ x. (x ∷ line) ∷ lines_in (drop_through 10 bytes)) same

no_line : (bytes : List ℕ) → ((line : List ℕ) → take_through 10 bytes ≢ line ++ 10 ∷ []) → lines_in bytes ≡ []
no_line [] none = refl
no_line (b ∷ bytes) none = by (b == 10) refl (no_line bytes) none
  where
    by : (t : Bool) → (b == 10) ≡ t → (((line : List ℕ) → take_through 10 bytes ≢ line ++ 10 ∷ []) → lines_in bytes ≡ []) →
        ((line : List ℕ) → cond t (b ∷ []) (b ∷ take_through 10 bytes) ≢ line ++ 10 ∷ []) → cond t ([] ∷ lines_in bytes) (onto_line b (lines_in bytes)) ≡ []
    by true is go none = absurd (none [] (let same : b ≡ 10 = grind (arith, nat_tests) in ap (λ x. x ∷ []) same))
    by false is go none = ap (onto_line b) (go (λ line e. none (b ∷ line) (ap (λ l. b ∷ l) e)))

is_first : (some : Bool) (line read before : List ℕ) → read ≡ take_through 10 before → TakesFeed read line some → IsFirst some line before (drop_through 10 before)
is_first true line read before is takes = first_line before line (sym is ∙ takes)
is_first false line read before is takes = no_line before (λ l e. takes l (is ∙ e))

-- what a read up to the line feed gives, and the line feed taken off
pub gives_line : (some : Bool) (line read : List ℕ) (old new : Option (List ℕ)) → ((before : List ℕ) → old ≡ Some before → (read ≡ take_through 10 before) × (new ≡ Some (drop_through 10 before))) → TakesFeed read line some → GivesLine some line old new
gives_line some line read None new known takes = tt
gives_line some line read (Some before) new known takes =
    let is = known before refl in
    (drop_through 10 before, is.1, is_first some line read before is.0 takes)
