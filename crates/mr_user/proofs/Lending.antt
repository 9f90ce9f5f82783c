-- Lists that are made of the items of others, one after the other.
use Rattle.std.proofs.Common.{◌≡◌, ℕ, ◌+◌, ◌<◌, ◌≤◌, List, [], ◌∷◌, ◌++◌, map, length, get_or, take, sym, ap, ◌∙◌}
use Rattle.std.proofs.lemmas.List.{map-append, take_more, take_all}

module _ {A B W : Type 0} (of : B → W) (from : A → W) where
  -- one item more
  pub lent_more : (lists now : List B) (item : B) (xs : List A) (i : ℕ) (x : A) → i < length xs → x ≡ get_or xs i x →
      map of lists ≡ map from (take i xs) → now ≡ lists ++ item ∷ [] → of item ≡ from x → map of now ≡ map from (take (i + 1) xs)
  lent_more lists now item xs i x within at so_far is one =
      ap (map of) is
      ∙ map-append of lists (item ∷ [])
      ∙ ap (λ ws. ws ++ of item ∷ []) so_far
      ∙ ap (λ w. map from (take i xs) ++ w ∷ []) one
      ∙ sym (map-append from (take i xs) (x ∷ []))
      ∙ ap (map from) (sym (take_more xs i x within ∙ ap (λ y. take i xs ++ y ∷ []) (sym at)))

  -- all items
  pub lent_all : (lists : List B) (xs : List A) (i : ℕ) → length xs ≤ i → map of lists ≡ map from (take i xs) → map of lists ≡ map from xs
  lent_all lists xs i all so_far = so_far ∙ ap (map from) (take_all i xs all)
