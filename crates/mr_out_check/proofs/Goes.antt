-- Loops over a list, item by item: what is done, and what is left, are all.
use Rattle.std.proofs.Common.{◌≡◌, ◌<◌, ◌+◌, ℕ, suc, Bool, true, false, List, [], ◌∷◌, ◌++◌, ◌||◌, append_assoc, append-nil, length, map, drop, get_or, drop-cons, refl, sym, ap, ◌∙◌, arith}
use Rattle.std.specs.List.{flat_map, list_any}

next : {A : Type 0} (xs : List A) (i : ℕ) (x : A) → i < length xs → x ≡ get_or xs i x → drop i xs ≡ x ∷ drop (i + 1) xs
next xs i x few is = drop-cons xs i x few ∙ (ap (λ y. y ∷ drop (suc i) xs) (sym is) ∙ ap (λ j. x ∷ drop j xs) (let e : suc i ≡ i + 1 = omega arith in e))

-- a text that is written item by item
pub text-goes : {A B : Type 0} (v : A → B) (f : B → List ℕ) (xs : List A) (i : ℕ) (x : A) (out new all : List ℕ) → i < length xs → x ≡ get_or xs i x → new ≡ out ++ f (v x) →
    out ++ flat_map f (map v (drop i xs)) ≡ all → new ++ flat_map f (map v (drop (i + 1) xs)) ≡ all
text-goes v f xs i x out new all few is written before =
    ap (λ ys. ys ++ flat_map f (map v (drop (i + 1) xs))) written
    ∙ (append_assoc out (f (v x)) (flat_map f (map v (drop (i + 1) xs)))
    ∙ (ap (λ es. out ++ flat_map f (map v es)) (sym (next xs i x few is)) ∙ before))

pub plain-goes : {A : Type 0} (f : A → List ℕ) (xs : List A) (i : ℕ) (x : A) (out new all : List ℕ) → i < length xs → x ≡ get_or xs i x → new ≡ out ++ f x →
    out ++ flat_map f (drop i xs) ≡ all → new ++ flat_map f (drop (i + 1) xs) ≡ all
plain-goes f xs i x out new all few is written before =
    ap (λ ys. ys ++ flat_map f (drop (i + 1) xs)) written
    ∙ (append_assoc out (f x) (flat_map f (drop (i + 1) xs))
    ∙ (ap (λ es. out ++ flat_map f es) (sym (next xs i x few is)) ∙ before))
