-- A text cut at its first line feed.
use Rattle.std.proofs.Common.{◌≡◌, ◌<◌, ℕ, Bool, true, false, cond, ◌==◌, List, [], ◌∷◌, ◌++◌, length, Some, None, refl, sym, ap, ◌∙◌, arith}
use Rattle.std.specs.List.{flat_map}
use Rattle.mr_script.specs.Lines.{before, after, onto_line, pieces_of}
use Rattle.mr_script_writer.specs.Repeating.{comment, commented}

some_is : {A : Type 0} (x y : A) → Some x ≡ Some y → x ≡ y
some_is x y e = cc

not_some : {A : Type 0} (x : A) → None ≡ Some x → ⊥
not_some x e = cc

pieces-cut : (bytes rest : List ℕ) → after 10 bytes ≡ Some rest → pieces_of bytes ≡ before 10 bytes ∷ pieces_of rest
pieces-cut [] rest e = absurd (not_some rest e)
pieces-cut (b ∷ bytes) rest e = by (b == 10) (pieces-cut bytes rest) e
  where
    by : (t : Bool) → (after 10 bytes ≡ Some rest → pieces_of bytes ≡ before 10 bytes ∷ pieces_of rest) → cond t (Some bytes) (after 10 bytes) ≡ Some rest →
        cond t ([] ∷ pieces_of bytes) (onto_line b (pieces_of bytes)) ≡ cond t [] (b ∷ before 10 bytes) ∷ pieces_of rest
    by true more e = ap (λ z. [] ∷ pieces_of z) (some_is bytes rest e)
    by false more e = ap (onto_line b) (more e)

pieces-last : (bytes : List ℕ) → after 10 bytes ≡ None → 0 < length bytes → pieces_of bytes ≡ bytes ∷ []
pieces-last [] e some = absurd (omega (arith, some))
pieces-last (b ∷ bytes) e some = by (b == 10) e (one bytes (pieces-last bytes))
  where
    one : (bs : List ℕ) → (after 10 bs ≡ None → 0 < length bs → pieces_of bs ≡ bs ∷ []) → after 10 bs ≡ None → onto_line b (pieces_of bs) ≡ (b ∷ bs) ∷ []
    one [] more e = refl
    one (c ∷ bs) more e = ap (onto_line b) (more e (omega arith))

    by : (t : Bool) → cond t (Some bytes) (after 10 bytes) ≡ None → (after 10 bytes ≡ None → onto_line b (pieces_of bytes) ≡ (b ∷ bytes) ∷ []) →
        cond t ([] ∷ pieces_of bytes) (onto_line b (pieces_of bytes)) ≡ (b ∷ bytes) ∷ []
    by true e more = absurd (not_some bytes (sym e))
    by false e more = more e

pub commented-cut : (bytes line rest : List ℕ) → before 10 bytes ≡ line → after 10 bytes ≡ Some rest → commented bytes ≡ comment line ++ commented rest
commented-cut bytes line rest front e = ap (flat_map comment) (pieces-cut bytes rest e) ∙ ap (λ z. comment z ++ commented rest) front

pub commented-last : (bytes : List ℕ) → after 10 bytes ≡ None → 0 < length bytes → commented bytes ≡ comment bytes
commented-last bytes e some = ap (flat_map comment) (pieces-last bytes e some) ∙ append-nil-of (comment bytes)
  where
    append-nil-of : (xs : List ℕ) → xs ++ [] ≡ xs
    append-nil-of [] = refl
    append-nil-of (x ∷ xs) = ap (λ z. x ∷ z) (append-nil-of xs)
