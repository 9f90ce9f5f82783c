-- One item more of a list, and one text more, behind a separator where texts stand before it.
use Rattle.std.proofs.Common.{◌≡◌, ℕ, zero, suc, eqb, true, false, ◌+◌, ◌<◌, List, [], ◌∷◌, ◌++◌, map, take, length, get_or, refl, ap, ◌∙◌, sym, arith, append_assoc}
use Rattle.std.specs.List.{join_with_byte}
use Rattle.std.proofs.lemmas.List.{length-append, map_push, take_more}
use Rattle.std.proofs.lemmas.Bool.{eqb-true}

-- one item more is mapped
pub mapped_more : {A B : Type 0} (f : A → B) (was now : List B) (xs : List A) (x : A) → was ≡ map f xs → now ≡ was ++ f x ∷ [] → now ≡ map f (xs ++ x ∷ [])
mapped_more f was now xs x so_far is = is ∙ ap (λ ys. ys ++ f x ∷ []) so_far ∙ sym (map_push f xs x)

positive : (n : ℕ) → eqb n 0 ≡ false → 0 < n
positive zero h = cc
positive (suc n) h = omega arith

pub join-push : (c : ℕ) (text : List ℕ) (texts : List (List ℕ)) (last : List ℕ) → join_with_byte c ((text ∷ texts) ++ last ∷ []) ≡ join_with_byte c (text ∷ texts) ++ c ∷ last
join-push c text [] last = refl
join-push c text (next ∷ texts) last =
    ap (λ (rest : List ℕ). text ++ c ∷ rest) (join-push c next texts last)
    ∙ sym (append_assoc text (c ∷ join_with_byte c (next ∷ texts)) (c ∷ last))

module _ {A : Type 0} (text_of : A → List ℕ) (some : (x : A) → 0 < length (text_of x)) where
  join-some : (c : ℕ) (x : A) (xs : List A) → 0 < length (join_with_byte c (map text_of (x ∷ xs)))
  join-some c x [] = some x
  join-some c x (y ∷ xs) = let h = some x in omega (arith, length-append (text_of x) (c ∷ join_with_byte c (map text_of (y ∷ xs))))

  -- no text stands before it
  pub join_first : (c : ℕ) (xs : List A) (x : A) → length (join_with_byte c (map text_of xs)) ≡ 0 → join_with_byte c (map text_of xs) ++ text_of x ≡ join_with_byte c (map text_of (xs ++ x ∷ []))
  join_first c [] x h = refl
  join_first c (y ∷ xs) x h = let h' = join-some c y xs in absurd (omega arith)

  -- a text stands before it
  pub join_next : (c : ℕ) (xs : List A) (x : A) → 0 < length (join_with_byte c (map text_of xs)) → (join_with_byte c (map text_of xs) ++ c ∷ []) ++ text_of x ≡ join_with_byte c (map text_of (xs ++ x ∷ []))
  join_next c [] x h = absurd (omega arith)
  join_next c (y ∷ xs) x h =
      append_assoc (join_with_byte c (map text_of (y ∷ xs))) (c ∷ []) (text_of x)
      ∙ sym (join-push c (text_of y) (map text_of xs) (text_of x))
      ∙ ap (λ (texts : List (List ℕ)). join_with_byte c (text_of y ∷ texts)) (sym (map_push text_of xs x))

  -- a loop's step: the text so far, with a separator where it is not empty, and one text more
  pub join_more_first : (c : ℕ) (xs : List A) (i : ℕ) (d : A) (n : ℕ) (was mid now : List ℕ) → i < length xs → was ≡ join_with_byte c (map text_of (take i xs)) → n ≡ length was → eqb n 0 ≡ true → mid ≡ was → now ≡ mid ++ text_of (get_or xs i d) → now ≡ join_with_byte c (map text_of (take (i + 1) xs))
  join_more_first c xs i d n was mid now l is count none same wrote =
      let empty : n ≡ 0 = eqb-true n 0 none in
      let zero_is : length (join_with_byte c (map text_of (take i xs))) ≡ 0 = ap length (sym is) ∙ sym count ∙ empty in
      wrote ∙ ap (λ (t : List ℕ). t ++ text_of (get_or xs i d)) (same ∙ is)
      ∙ join_first c (take i xs) (get_or xs i d) zero_is
      ∙ ap (λ (xs : List A). join_with_byte c (map text_of xs)) (sym (take_more xs i d l))

  pub join_more_next : (c : ℕ) (xs : List A) (i : ℕ) (d : A) (n : ℕ) (was mid now : List ℕ) → i < length xs → was ≡ join_with_byte c (map text_of (take i xs)) → n ≡ length was → eqb n 0 ≡ false → mid ≡ was ++ c ∷ [] → now ≡ mid ++ text_of (get_or xs i d) → now ≡ join_with_byte c (map text_of (take (i + 1) xs))
  join_more_next c xs i d n was mid now l is count some same wrote =
      let len : length was ≡ length (join_with_byte c (map text_of (take i xs))) = ap length is in
      let above = positive n some in
      wrote ∙ ap (λ (t : List ℕ). t ++ text_of (get_or xs i d)) (same ∙ ap (λ (t : List ℕ). t ++ c ∷ []) is)
      ∙ join_next c (take i xs) (get_or xs i d) (omega arith)
      ∙ ap (λ (xs : List A). join_with_byte c (map text_of xs)) (sym (take_more xs i d l))
