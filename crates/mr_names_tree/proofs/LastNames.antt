-- Paths and their last names.
use Rattle.std.proofs.Common.{◌≡◌, ℕ, true, false, List, [], ◌∷◌, ◌++◌, append-nil, append_assoc, refl, sym, ap, ◌∙◌, Option, Some, None, is_some, true≢false}
use Rattle.mr_paths.specs.Path.{strip}
use Rattle.mr_paths.proofs.Paths.{strip-append, append-strip}

abbrev pub Names : Type 0
Names = List (List ℕ)

pub snoc_same : (p q : Names) (n m : List ℕ) → p ++ n ∷ [] ≡ q ++ m ∷ [] → (p ≡ q) × (n ≡ m)
snoc_same [] [] n m e = (refl, cc)
snoc_same [] (x ∷ []) n m e = absurd (cc)
snoc_same [] (x ∷ y ∷ q) n m e = absurd (cc)
snoc_same (x ∷ []) [] n m e = absurd (cc)
snoc_same (x ∷ y ∷ p) [] n m e = absurd (cc)
snoc_same (x ∷ p) (y ∷ q) n m e =
    let heads : x ≡ y = cc in
    let tails : p ++ n ∷ [] ≡ q ++ m ∷ [] = cc in
    let rest = snoc_same p q n m tails in
    let more : x ∷ p ≡ y ∷ q = λ i. heads i ∷ rest.0 i in
    (more, rest.1)

-- a path that is not empty has a last name
last_of : (n : List ℕ) (r : Names) → (s : Names) × (m : List ℕ) × (n ∷ r ≡ s ++ m ∷ [])
last_of n [] = ([], n, refl)
last_of n (m ∷ r) = let v = last_of m r in (n ∷ v.0, v.1, ap (λ x. n ∷ x) v.2)

pub no_end : (p : Names) (n : List ℕ) → p ++ n ∷ [] ≡ [] → ⊥
no_end [] n e = cc
no_end (x ∷ p) n e = cc

pub beneath_nothing : (p : Names) (n : List ℕ) → strip (p ++ n ∷ []) [] ≡ None
beneath_nothing [] n = refl
beneath_nothing (x ∷ p) n = refl

-- one name more beneath a path
pub strip_more : (t p r : Names) (n : List ℕ) → strip t p ≡ Some r → strip t (p ++ n ∷ []) ≡ Some (r ++ n ∷ [])
strip_more t p r n e = ap (λ x. strip t (x ++ n ∷ [])) (append-strip t p r e) ∙ ap (strip t) (append_assoc t r (n ∷ [])) ∙ strip-append t (r ++ n ∷ [])

-- what is beneath a path only with its last name is that path
pub strip_first : (t p r : Names) (n : List ℕ) → strip t p ≡ None → strip t (p ++ n ∷ []) ≡ Some r → p ++ n ∷ [] ≡ t
strip_first t p [] n none e = append-strip t (p ++ n ∷ []) [] e ∙ append-nil t
strip_first t p (x ∷ r) n none e =
    let v = last_of x r in
    let whole : p ++ n ∷ [] ≡ (t ++ v.0) ++ v.1 ∷ [] = append-strip t (p ++ n ∷ []) (x ∷ r) e ∙ ap (λ y. t ++ y) v.2 ∙ sym (append_assoc t v.0 (v.1 ∷ [])) in
    let here : p ≡ t ++ v.0 = (snoc_same p (t ++ v.0) n v.1 whole).0 in
    absurd (true≢false (ap is_some (sym (strip-append t v.0)) ∙ ap (λ y. is_some (strip t y)) (sym here) ∙ ap is_some none))
