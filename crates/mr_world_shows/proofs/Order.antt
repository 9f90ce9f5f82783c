-- Who lives, in order: how many a dead master launched beyond those who live makes no difference.
use Rattle.std.proofs.Common.{ℕ, zero, suc, ◌+◌, ◌<◌, ◌≡◌, refl, sym, ◌∙◌, ap, arith, Bool, true, false, List, [], ◌∷◌, ◌++◌, map, filter, cond}
use Rattle.std.specs.List.{flat_map, range_with_len}
use Rattle.mr_world_model.specs.Ids.{ContainerId}

abbrev pub numbered : ℕ → ℕ → ℕ → List ContainerId
numbered k a n = map (λ i. record { app = k; number = i }) (range_with_len a n)

-- who passes has a number below both
abbrev pub Below : (ContainerId → Bool) → (k a m n : ℕ) → Type 0
Below p k a m n = (i : ℕ) → p (record { app = k; number = i }) ≡ true → (i < a + m) × (i < a + n)

pub trimmed : (p : ContainerId → Bool) (k a m n : ℕ) → Below p k a m n → filter p (numbered k a m) ≡ filter p (numbered k a n)
trimmed p k a zero zero f = refl
trimmed p k a (suc m) zero f = by (p (record { app = k; number = a })) refl (trimmed p k (a + 1) m zero (λ i e. let l = f i e in let x = l.0 in let y = l.1 in (omega (arith, x), omega (arith, y))))
  where
    by : (b : Bool) → p (record { app = k; number = a }) ≡ b → filter p (numbered k (a + 1) m) ≡ [] → cond b (record { app = k; number = a } ∷ filter p (numbered k (a + 1) m)) (filter p (numbered k (a + 1) m)) ≡ []
    by true e rest = let l = (f a e).1 in absurd (omega (arith, l))
    by false e rest = rest
trimmed p k a zero (suc n) f = by (p (record { app = k; number = a })) refl (trimmed p k (a + 1) zero n (λ i e. let l = f i e in let x = l.0 in let y = l.1 in (omega (arith, x), omega (arith, y))))
  where
    by : (b : Bool) → p (record { app = k; number = a }) ≡ b → [] ≡ filter p (numbered k (a + 1) n) → [] ≡ cond b (record { app = k; number = a } ∷ filter p (numbered k (a + 1) n)) (filter p (numbered k (a + 1) n))
    by true e rest = let l = (f a e).0 in absurd (omega (arith, l))
    by false e rest = rest
trimmed p k a (suc m) (suc n) f = by (p (record { app = k; number = a })) (trimmed p k (a + 1) m n (λ i e. let l = f i e in let x = l.0 in let y = l.1 in (omega (arith, x), omega (arith, y))))
  where
    by : (b : Bool) → filter p (numbered k (a + 1) m) ≡ filter p (numbered k (a + 1) n)
        → cond b (record { app = k; number = a } ∷ filter p (numbered k (a + 1) m)) (filter p (numbered k (a + 1) m)) ≡ cond b (record { app = k; number = a } ∷ filter p (numbered k (a + 1) n)) (filter p (numbered k (a + 1) n))
    by true rest = ap (λ (l : List ContainerId). record { app = k; number = a } ∷ l) rest
    by false rest = rest

filter-append : (p : ContainerId → Bool) (xs ys : List ContainerId) → filter p (xs ++ ys) ≡ filter p xs ++ filter p ys
filter-append p [] ys = refl
filter-append p (x ∷ xs) ys = by (p x) (filter-append p xs ys)
  where
    by : (b : Bool) → filter p (xs ++ ys) ≡ filter p xs ++ filter p ys → cond b (x ∷ filter p (xs ++ ys)) (filter p (xs ++ ys)) ≡ cond b (x ∷ filter p xs) (filter p xs) ++ filter p ys
    by true e = ap (λ (l : List ContainerId). x ∷ l) e
    by false e = e

-- block by block
pub blocks-same : (p : ContainerId → Bool) (f g : ℕ → List ContainerId) → ((k : ℕ) → filter p (f k) ≡ filter p (g k)) → (ks : List ℕ) → filter p (flat_map f ks) ≡ filter p (flat_map g ks)
blocks-same p f g e [] = refl
blocks-same p f g e (k ∷ ks) =
    let here = e k in
    let rest = blocks-same p f g e ks in
    filter-append p (f k) (flat_map f ks) ∙ ((λ i. here i ++ rest i) ∙ sym (filter-append p (g k) (flat_map g ks)))
