-- Places of a run, one behind the other.
use Rattle.std.proofs.Common.{◌≡◌, ◌≤◌, ◌⊎◌, inl, inr, ℕ, zero, suc, List, [], length, slice_get, Some, refl, sym, ap, subst, arith}
use Rattle.mr_explore_search.specs.Steps.{Onward, Goes, Ends, Full, Steps}
use Rattle.mr_explore_alike.specs.Leaving.{Here}
use Rattle.mr_explore_places.specs.Places.{DepartsByFault, DepartsLate, IsWithin, behind_step, further, trail}
use Rattle.mr_explore_search.specs.Laws.{In}
use Rattle.mr_explore_places.proofs.Lists.{got_in}

pub same_goes : {S : Type 0} (o : Onward S) (t u : S) → o ≡ Goes t → o ≡ Goes u → t ≡ u
same_goes o t u g e = cc

pub same_ends : {S : Type 0} (o : Onward S) (t u : S) → o ≡ Ends t → o ≡ Ends u → t ≡ u
same_ends o t u g e = cc

pub goes_or_ends : {S : Type 0} (o : Onward S) (t u : S) → o ≡ Goes t → o ≡ Ends u → ⊥
goes_or_ends o t u g e = cc

-- the run of a place made a step
pub stepped : {S F : Type 0} (h : Here S F) (n : ℕ) (t : S) → n ≡ length h.owed → record { faults = h.faults; ripe = n; owed = h.owed; run = t } ≡ behind_step h t
stepped {S} {F} h n t e = let at : ℕ → Here S F = λ m. record { faults = h.faults; ripe = m; owed = h.owed; run = t } in ap at e

module _ {S F : Type 0} (steps : Steps S F) where
  -- the second place is n steps behind the first one
  abbrev pub IsAt : ℕ → Here S F → Here S F → Type 0
  IsAt zero h p = h ≡ p
  IsAt (suc n) h p = (t : S) × (steps.onward h.run ≡ Goes t) × IsAt n (behind_step h t) p

  pub at_next : (n : ℕ) (h p : Here S F) (t : S) → IsAt n h p → steps.onward p.run ≡ Goes t → IsAt (suc n) h (behind_step p t)
  at_next zero h p t a w = (t, subst (λ (z : Here S F). steps.onward z.run ≡ Goes t) (sym a) w, ap (λ (z : Here S F). behind_step z t) a)
  at_next (suc n) h p t a w = (a.0, a.1, at_next n (behind_step h a.0) p t a.2 w)

  module _ (P : Here S F → Type 0) where
    pub within_more : (n : ℕ) (h : Here S F) → IsWithin steps P n h → IsWithin steps P (suc n) h
    within_more zero h i = absurd i
    within_more (suc n) h (inl p) = inl p
    within_more (suc n) h (inr i) = inr (i.0, i.1, within_more n (behind_step h i.0) i.2)

    pub within_last : (n : ℕ) (h p : Here S F) → IsAt n h p → P p → IsWithin steps P (suc n) h
    within_last zero h p a x = inl (subst (λ (z : Here S F). P z) (sym a) x)
    within_last (suc n) h p a x = inr (a.0, a.1, within_last n (behind_step h a.0) p a.2 x)

    -- of one place more: it is the last one, or one before
    pub within_split : (n : ℕ) (h p : Here S F) → IsAt n h p → IsWithin steps P (suc n) h → IsWithin steps P n h ⊎ P p
    within_split zero h p a (inl x) = inr (subst (λ (z : Here S F). P z) a x)
    within_split zero h p a (inr i) = absurd i.2
    within_split (suc n) h p a (inl x) = inl (inl x)
    within_split (suc n) h p a (inr i) =
        let same : i.0 ≡ a.0 = same_goes (steps.onward h.run) i.0 a.0 i.1 a.1 in
        by (within_split n (behind_step h a.0) p a.2 (subst (λ (z : S). IsWithin steps P (suc n) (behind_step h z)) same i.2)) where
          by : IsWithin steps P n (behind_step h a.0) ⊎ P p → IsWithin steps P (suc n) h ⊎ P p
          by (inl x) = inl (inr (a.0, a.1, x))
          by (inr x) = inr x

  -- no fault departs from a run that may have no more
  pub no_faults : (budget n : ℕ) (x h : Here S F) → budget ≤ h.faults → IsWithin steps (DepartsByFault steps budget x) n h → ⊥
  no_faults budget zero x h all i = i
  no_faults budget (suc n) x h all (inl d) = let few = d.3 in absurd (omega (arith, few, all))
  no_faults budget (suc n) x h all (inr i) = no_faults budget n x (behind_step h i.0) all i.2

  -- nothing comes later to a run of which nothing was put off
  pub no_late : (n : ℕ) (x h : Here S F) → h.owed ≡ [] → IsWithin steps (DepartsLate steps x) n h → ⊥
  no_late zero x h none i = i
  no_late (suc n) x h none (inl d) = got_in [] d.0 d.1 (subst (λ (z : List F). slice_get z d.0 ≡ Some d.1) none d.4)
  no_late (suc n) x h none (inr i) = no_late n x (behind_step h i.0) none i.2

  -- what is on a trail stands in its list, and nothing else does
  pub trail_has : (n : ℕ) (h x : Here S F) → IsWithin steps (λ z. z ≡ x) n h → In x (trail steps n h)
  trail_has zero h x i = absurd i
  trail_has (suc n) h x (inl e) = inl e
  trail_has (suc n) h x (inr i) = inr (subst (λ (o : Onward S). In x (further steps (λ t. trail steps n (behind_step h t)) o)) (sym i.1) (trail_has n (behind_step h i.0) x i.2))

  pub has_trail : (n : ℕ) (h x : Here S F) → In x (trail steps n h) → IsWithin steps (λ z. z ≡ x) n h
  has_trail zero h x i = absurd i
  has_trail (suc n) h x (inl e) = inl e
  has_trail (suc n) h x (inr i) = by (λ t j. has_trail n (behind_step h t) x j) (steps.onward h.run) refl i where
    by : ((t : S) → In x (trail steps n (behind_step h t)) → IsWithin steps (λ z. z ≡ x) n (behind_step h t)) → (o : Onward S) → steps.onward h.run ≡ o → In x (further steps (λ t. trail steps n (behind_step h t)) o)
        → IsWithin steps (λ z. z ≡ x) (suc n) h
    by f (Goes t) w j = inr (t, w, f t j)
    by f (Ends t) w j = absurd j
    by f Full w j = absurd j
