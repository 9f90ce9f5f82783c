-- Bytes that are cut at the first of some byte, and which bytes the texts in a line lack.
use Rattle.std.proofs.Common.{◌≡◌, ◌≢◌, ◌<◌, ◌^◌, ℕ, true, List, [], ◌∷◌, ◌++◌, get_or, drop, decimal, refl, sym, ap, ap₂, ◌∙◌, arith, true≢false}
use Rattle.std.specs.List.{AllByRecursion, list_all}
use Rattle.std.specs.Char.{digit_value}
use Rattle.std.specs.Str.Parse.{AllDigits}
use Rattle.std.proofs.lemmas.Bool.{and_parts}
use Rattle.std.proofs.lemmas.Fmt.{decimal_is_IsNumeral}
use Rattle.mr_ids.specs.Attempt.{Attempt}
use Rattle.mr_ids.specs.Text.{attempt_text}
use Rattle.mr_history.proofs.Texts.{plain, attempt_plain}

-- none of the bytes is b
abbrev pub Lacks : ℕ → List ℕ → Type 0
Lacks b = AllByRecursion (λ x. x ≢ b)

pub no_cut : (b : ℕ) (front rest : List ℕ) → Lacks b (front ++ b ∷ rest) → ⊥
no_cut b [] rest h = h.0 refl
no_cut b (x ∷ front) rest h = no_cut b front rest h.1

first_same : (x y : ℕ) (xs ys : List ℕ) → x ∷ xs ≡ y ∷ ys → x ≡ y
first_same x y xs ys e = ap (λ (l : List ℕ). get_or l 0 0) e

rest_same : (x y : ℕ) (xs ys : List ℕ) → x ∷ xs ≡ y ∷ ys → xs ≡ ys
rest_same x y xs ys e = ap (λ (l : List ℕ). drop 1 l) e

-- one place is the first
pub same_cut : (b : ℕ) (front other rest more : List ℕ) → Lacks b front → Lacks b other → front ++ b ∷ rest ≡ other ++ b ∷ more → (front ≡ other) × (rest ≡ more)
same_cut b [] [] rest more g h e = (refl, rest_same b b rest more e)
same_cut b [] (y ∷ other) rest more g h e = absurd (h.0 (sym (first_same b y rest (other ++ b ∷ more) e)))
same_cut b (x ∷ front) [] rest more g h e = absurd (g.0 (first_same x b (front ++ b ∷ rest) more e))
same_cut b (x ∷ front) (y ∷ other) rest more g h e =
    let p = same_cut b front other rest more g.1 h.1 (rest_same x y (front ++ b ∷ rest) (other ++ b ∷ more) e) in
    (ap₂ (λ (a : ℕ) (l : List ℕ). a ∷ l) (first_same x y (front ++ b ∷ rest) (other ++ b ∷ more) e) p.0, p.1)

digits_lack : (b : ℕ) → (digit_value b < 10 → ⊥) → (ds : List ℕ) → AllDigits 10 ds → Lacks b ds
digits_lack b h [] g = tt
digits_lack b h (d ∷ ds) g = (λ e. h (rw (sym e) g.0), digits_lack b h ds g.1)

pub decimal_lacks_comma : (n : ℕ) → n < 2 ^ 32 → Lacks 44 (decimal n)
decimal_lacks_comma n h = digits_lack 44 (λ g. absurd (omega (arith, g))) (decimal n) (decimal_is_IsNumeral n (omega arith)).0.1

plain_lacks_quote : (xs : List ℕ) → list_all plain xs ≡ true → Lacks 34 xs
plain_lacks_quote [] h = tt
plain_lacks_quote (x ∷ xs) h =
    let p = and_parts (plain x) (list_all plain xs) h in
    (λ e. true≢false (sym p.0 ∙ ap plain e), plain_lacks_quote xs p.1)

pub attempt_lacks_quote : (a : Attempt) → Lacks 34 (attempt_text a)
attempt_lacks_quote a = plain_lacks_quote (attempt_text a) (attempt_plain a)
