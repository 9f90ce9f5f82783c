-- Each pair goes to the share of its reduce, and each share becomes a file.
use Rattle.std.proofs.Common.{◌≡◌, ℕ, zero, suc, ◌<◌, cond, eqb, true, false, List, [], ◌∷◌, ◌++◌, filter, length, get_or, set, Some, refl, sym, ap, subst, ◌∙◌, arith}
use Rattle.std.specs.Prelude.{slice_get}
use Rattle.std.specs.Option.{option_map}
use Rattle.std.proofs.lemmas.Bool.{eqb-true, eqb-false}
use Rattle.std.proofs.lemmas.List.{append-nil, length-set, get_or-set_same, get_or-set_other, nil_from_length}
use Rattle.std.proofs.lemmas.List.Elements.{filter-append}
use Rattle.std.proofs.lemmas.Option.{slice_get-get_or, same_Some}

module _ {A W : Type 0} (items : W → List A) where
  pub empty_share : (ws : List W) (r : ℕ) → r < length ws → ((k : ℕ) (d : W) → k < length ws → length (items (get_or ws k d)) ≡ 0) → option_map items (slice_get ws r) ≡ Some []
  empty_share [] r l h = absurd (omega arith)
  empty_share (w ∷ ws) zero l h = ap Some (nil_from_length (items w) (h zero w (omega arith)))
  empty_share (w ∷ ws) (suc r) l h = empty_share ws r (omega arith) (λ k d m. h (suc k) d (omega arith))

  module _ (place : A → ℕ) where
    -- those of a list that go to reduce r
    abbrev of : ℕ → List A → List A
    of r ps = filter (λ p. eqb (place p) r) ps

    pub share_more : (ws : List W) (w : W) (p : A) (ps : List A) (reduces : ℕ) → length ws ≡ reduces → place p < reduces → items w ≡ items (get_or ws (place p) w) ++ p ∷ [] →
        ((r : ℕ) → r < reduces → option_map items (slice_get ws r) ≡ Some (of r ps)) →
        (r : ℕ) → r < reduces → option_map items (slice_get (set ws (place p) w) r) ≡ Some (of r (ps ++ p ∷ []))
    share_more ws w p ps reduces count below more was r l =
        let q = place p in
        let at = slice_get-get_or (set ws q w) r w (omega (arith, length-set ws q w)) in
        let old : Some (items (get_or ws r w)) ≡ Some (of r ps) = ap (option_map items) (sym (slice_get-get_or ws r w (omega arith))) ∙ was r l in
        ap (option_map items) at
        ∙ elim (eqb q r) as (λ t. eqb q r ≡ t → Some (items (get_or (set ws q w) r w)) ≡ Some (of r ps ++ cond t (p ∷ []) [])) [
          | true ↦ λ t.
              let same : q ≡ r = eqb-true q r t in
              ap (λ i. Some (items (get_or (set ws q w) i w))) (sym same)
              ∙ ap (λ v. Some (items v)) (get_or-set_same ws q w w (omega arith))
              ∙ ap Some (more ∙ ap (λ i. items (get_or ws i w) ++ p ∷ []) same ∙ ap (λ (qs : List A). qs ++ p ∷ []) (same_Some _ _ old))
          | false ↦ λ t.
              ap (λ v. Some (items v)) (get_or-set_other ws q r w w (λ e. eqb-false q r t (sym e)))
              ∙ old ∙ ap Some (sym (append-nil (of r ps)))
        ] refl
        ∙ ap Some (sym (filter-append (λ p. eqb (place p) r) ps (p ∷ [])))

    -- the same, where the place and the share were read
    pub share_more_at : (ws : List W) (u w : W) (p : A) (ps : List A) (reduces q : ℕ) → place p ≡ q → length ws ≡ reduces → q < reduces → u ≡ get_or ws q u → items w ≡ items u ++ p ∷ [] →
        ((r : ℕ) → r < reduces → option_map items (slice_get ws r) ≡ Some (of r ps)) →
        (r : ℕ) → r < reduces → option_map items (slice_get (set ws q w) r) ≡ Some (of r (ps ++ p ∷ []))
    share_more_at ws u w p ps reduces q e count below read more was =
        let one : get_or ws q u ≡ get_or ws q w = same_Some _ _ (sym (slice_get-get_or ws q u (omega arith)) ∙ slice_get-get_or ws q w (omega arith)) in
        subst (λ (q : ℕ). q < reduces → items w ≡ items (get_or ws q w) ++ p ∷ [] → (r : ℕ) → r < reduces → option_map items (slice_get (set ws q w) r) ≡ Some (of r (ps ++ p ∷ []))) e
        (λ below more. share_more ws w p ps reduces count below more was) below (more ∙ ap (λ v. items v ++ p ∷ []) (read ∙ one))
