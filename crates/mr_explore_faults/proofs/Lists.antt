-- Lists that are added to.
use Rattle.std.proofs.Common.{◌≡◌, ◌+◌, ℕ, zero, suc, List, [], ◌∷◌, ◌++◌, map, append_assoc, append-nil, refl, sym, ap, ◌∙◌, arith}
use Rattle.std.specs.List.{flat_map, range_with_len}

module _ {X : Type 0} where
  range_from : (f : ℕ → List X) (i n : ℕ) → flat_map f (range_with_len i (suc n)) ≡ flat_map f (range_with_len i n) ++ f (i + n)
  range_from f i zero = append-nil (f i) ∙ ap f (let e : i ≡ i + 0 = omega arith in e)
  range_from f i (suc n) = ap (λ xs. f i ++ xs) (range_from f (i + 1) n)
      ∙ (sym (append_assoc (f i) (flat_map f (range_with_len (i + 1) n)) (f (i + 1 + n)))
      ∙ ap (λ k. (f i ++ flat_map f (range_with_len (i + 1) n)) ++ f k) (let e : i + 1 + n ≡ i + suc n = omega arith in e))

  pub range_more : (f : ℕ → List X) (n : ℕ) → flat_map f (range_with_len 0 (n + 1)) ≡ flat_map f (range_with_len 0 n) ++ f n
  range_more f n = ap (λ m. flat_map f (range_with_len 0 m)) (let e : n + 1 ≡ suc n = omega arith in e) ∙ (range_from f 0 n ∙ ap (λ k. flat_map f (range_with_len 0 n) ++ f k) (let e : 0 + n ≡ n = omega arith in e))

  map_from : (f : ℕ → X) (i n : ℕ) → map f (range_with_len i (suc n)) ≡ map f (range_with_len i n) ++ f (i + n) ∷ []
  map_from f i zero = ap (λ k. f k ∷ []) (let e : i ≡ i + 0 = omega arith in e)
  map_from f i (suc n) = ap (λ xs. f i ∷ xs) (map_from f (i + 1) n)
      ∙ ap (λ k. f i ∷ (map f (range_with_len (i + 1) n) ++ f k ∷ [])) (let e : i + 1 + n ≡ i + suc n = omega arith in e)

  pub map_more : (f : ℕ → X) (n : ℕ) → map f (range_with_len 0 (n + 1)) ≡ map f (range_with_len 0 n) ++ f n ∷ []
  map_more f n = ap (λ m. map f (range_with_len 0 m)) (let e : n + 1 ≡ suc n = omega arith in e) ∙ (map_from f 0 n ∙ ap (λ k. map f (range_with_len 0 n) ++ f k ∷ []) (let e : 0 + n ≡ n = omega arith in e))

  -- one more was added behind those of the numbers before it
  pub one_more : (f : ℕ → List X) (start before after : List X) (n : ℕ) → before ≡ start ++ flat_map f (range_with_len 0 n) → after ≡ before ++ f n → after ≡ start ++ flat_map f (range_with_len 0 (n + 1))
  one_more f start before after n h e = e ∙ (ap (λ xs. xs ++ f n) h ∙ (append_assoc start (flat_map f (range_with_len 0 n)) (f n) ∙ ap (λ xs. start ++ xs) (sym (range_more f n))))

  pub one_mapped : (f : ℕ → X) (start before after : List X) (n : ℕ) → before ≡ start ++ map f (range_with_len 0 n) → after ≡ before ++ f n ∷ [] → after ≡ start ++ map f (range_with_len 0 (n + 1))
  one_mapped f start before after n h e = e ∙ (ap (λ xs. xs ++ f n ∷ []) h ∙ (append_assoc start (map f (range_with_len 0 n)) (f n ∷ []) ∙ ap (λ xs. start ++ xs) (sym (map_more f n))))
