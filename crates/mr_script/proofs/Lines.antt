-- A script cut at its first line feed, and what is one of a script in any language.
use Rattle.std.proofs.Common.{◌≡◌, ◌≢◌, ◌<◌, ℕ, List, [], ◌∷◌, ◌++◌, ◌+◌, length, refl, sym, ap, ap₂, ◌∙◌, inl, inr, map, ne_eqb, arith}
use Rattle.std.specs.List.{AllByRecursion, All}
use Rattle.std.proofs.lemmas.List.Elements.{recursion_from_All}
use Rattle.mr_script.specs.Lines.{onto_line, pieces_of, said, lines_of, AreLines, IsFirstNoLine}

pieces_by : (w rest : List ℕ) → AllByRecursion (λ b. b ≢ 10) w → pieces_of (w ++ 10 ∷ rest) ≡ w ∷ pieces_of rest
pieces_by [] rest h = refl
pieces_by (b ∷ w) rest h = rw (ne_eqb b 10 h.0) (ap (onto_line b) (pieces_by w rest h.1))

last_by : (b : ℕ) (w : List ℕ) → AllByRecursion (λ b. b ≢ 10) (b ∷ w) → pieces_of (b ∷ w) ≡ (b ∷ w) ∷ []
last_by b [] h = rw (ne_eqb b 10 h.0) refl
last_by b (c ∷ w) h = rw (ne_eqb b 10 h.0) (ap (onto_line b) (last_by c w h.1))

some_last : (w : List ℕ) → AllByRecursion (λ b. b ≢ 10) w → 0 < length w → pieces_of w ≡ w ∷ []
some_last [] h some = absurd (omega arith)
some_last (b ∷ w) h some = last_by b w h

pub lines_of-cut : (w rest : List ℕ) → All (λ b. b ≢ 10) w → lines_of (w ++ 10 ∷ rest) ≡ said w ∷ lines_of rest
lines_of-cut w rest h = ap (map said) (pieces_by w rest (recursion_from_All (λ b. b ≢ 10) w h))

pub lines_of-last : (w : List ℕ) → All (λ b. b ≢ 10) w → 0 < length w → lines_of w ≡ said w ∷ []
lines_of-last w h some = ap (map said) (some_last w (recursion_from_All (λ b. b ≢ 10) w h) some)

-- ---- scripts in any language

module _ {C : Type 0} (IsLine : List ℕ → C → Type 0) where
  -- where a line is at most one command, a script has at most one reading
  pub same-lines : ((line : List ℕ) (c d : C) → IsLine line c → IsLine line d → c ≡ d) → (n : ℕ) (lines : List (List ℕ)) (cs ds : List (ℕ × C)) → AreLines IsLine n lines cs → AreLines IsLine n lines ds → cs ≡ ds
  same-lines one n [] [] [] x y = refl
  same-lines one n [] [] (d ∷ ds) x y = absurd y
  same-lines one n [] (c ∷ cs) ds x y = absurd x
  same-lines one n ([] ∷ lines) cs ds x y = same-lines one (n + 1) lines cs ds x y
  same-lines one n ((b ∷ line) ∷ lines) [] ds x y = absurd x
  same-lines one n ((b ∷ line) ∷ lines) (c ∷ cs) [] x y = absurd y
  same-lines one n ((b ∷ line) ∷ lines) (c ∷ cs) (d ∷ ds) x y =
      ap₂ (λ (q : ℕ × C) (qs : List (ℕ × C)). q ∷ qs) (ap₂ (λ (m : ℕ) (q : C). (m, q)) (x.0 ∙ sym y.0) (one (b ∷ line) c.1 d.1 x.1 y.1)) (same-lines one (n + 1) lines cs ds x.2 y.2)

  -- a script that is read has no first line that is no command
  pub not-both : (n : ℕ) (lines : List (List ℕ)) (cs : List (ℕ × C)) (k : ℕ) → AreLines IsLine n lines cs → IsFirstNoLine IsLine n lines k → ⊥
  not-both n [] cs k x y = y
  not-both n ([] ∷ lines) cs k x y = not-both (n + 1) lines cs k x y
  not-both n ((b ∷ line) ∷ lines) [] k x y = x
  not-both n ((b ∷ line) ∷ lines) (c ∷ cs) k x (inl h) = h.1 c.1 x.1
  not-both n ((b ∷ line) ∷ lines) (c ∷ cs) k x (inr h) = not-both (n + 1) lines cs k x.2 h.1

  -- and no script has two
  pub same-first : (n : ℕ) (lines : List (List ℕ)) (j k : ℕ) → IsFirstNoLine IsLine n lines j → IsFirstNoLine IsLine n lines k → j ≡ k
  same-first n [] j k x y = absurd x
  same-first n ([] ∷ lines) j k x y = same-first (n + 1) lines j k x y
  same-first n ((b ∷ line) ∷ lines) j k (inl g) (inl h) = g.0 ∙ sym h.0
  same-first n ((b ∷ line) ∷ lines) j k (inl g) (inr h) = absurd (g.1 h.0.0 h.0.1)
  same-first n ((b ∷ line) ∷ lines) j k (inr g) (inl h) = absurd (h.1 g.0.0 g.0.1)
  same-first n ((b ∷ line) ∷ lines) j k (inr g) (inr h) = same-first (n + 1) lines j k g.1 h.1
