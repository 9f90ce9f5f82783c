use Rattle.std.proofs.Common.{ℕ, ◌≡◌, ◌≤◌, ◌<◌, ◌⊎◌, inl, inr, subst, true, List, [], ◌∷◌, slice_get, arith, IfSome}
use Rattle.std.specs.Bool.{⊤}
use Rattle.std.specs.BTreeSet.{contains}
use Rattle.std.specs.BTreeMap.Range.{IsLeBy}
use Rattle.mr_master_tables.specs.declared.spots.Spot.{Spot}
use Rattle.mr_master_tables.specs.Spots.{spot_cmp}
use Rattle.mr_master_tables.proofs.Spreading.{not-true, le-is, le-here}
use Rattle.mr_master_tables.proofs.spots.next_of.Goals as goal

pub returns-then-spot-node-clause-first : goal.returns-then-spot-node-clause-first
returns-then-spot-node-clause-first c = λ other high low. not-true _ (λ there. apart other low (least other high there))
  where
    spot : Spot
    spot = c.in-Some.spot.now

    least : (other : ℕ) → c.args.from ≤ other → contains spot_cmp c.args.spots.now (record { node = c.args.node; number = other }) ≡ true → IsLeBy spot_cmp spot (record { node = c.args.node; number = other })
    least other high there =
        subst (λ (r : List Spot). IfSome (slice_get r 0) (λ k. IsLeBy spot_cmp k (record { node = c.args.node; number = other }))) c.in-Some.ensures.steps
        ((c.range.ensures.in_range tt).2 (record { node = c.args.node; number = other }) (le-here c.args.node c.args.from other high, tt) there)

    apart : (other : ℕ) → other < spot.number → IsLeBy spot_cmp spot (record { node = c.args.node; number = other }) → ⊥
    apart other low le = by (le-is spot (record { node = c.args.node; number = other }) le)
      where
        by : (spot.node < c.args.node) ⊎ ((spot.node ≡ c.args.node) × (spot.number ≤ other)) → ⊥
        by (inl below) = let e = c.if-spot-node.true in omega arith
        by (inr same) = let e = same.1 in omega arith

pub returns-else-spot-node-clause-none : goal.returns-else-spot-node-clause-none
returns-else-spot-node-clause-none c = λ other high. not-true _ (λ there. apart (le-is spot (record { node = c.args.node; number = other }) (least other high there)) (le-is (record { node = c.args.node; number = c.args.from }) spot behind))
  where
    spot : Spot
    spot = c.in-Some.spot.now

    least : (other : ℕ) → c.args.from ≤ other → contains spot_cmp c.args.spots.now (record { node = c.args.node; number = other }) ≡ true → IsLeBy spot_cmp spot (record { node = c.args.node; number = other })
    least other high there =
        subst (λ (r : List Spot). IfSome (slice_get r 0) (λ k. IsLeBy spot_cmp k (record { node = c.args.node; number = other }))) c.in-Some.ensures.steps
        ((c.range.ensures.in_range tt).2 (record { node = c.args.node; number = other }) (le-here c.args.node c.args.from other high, tt) there)

    behind : IsLeBy spot_cmp (record { node = c.args.node; number = c.args.from }) spot
    behind =
        (subst (λ (r : List Spot). IfSome (slice_get r 0) (λ k. IsLeBy spot_cmp (record { node = c.args.node; number = c.args.from }) k)) c.in-Some.ensures.steps
        (first_in _ ((c.range.ensures.in_range tt).1)))
      where
        first_in : (r : List Spot) → IfSome (slice_get r 0) (λ k. (IsLeBy spot_cmp (record { node = c.args.node; number = c.args.from }) k × ⊤) × (contains spot_cmp c.args.spots.now k ≡ true))
            → IfSome (slice_get r 0) (λ k. IsLeBy spot_cmp (record { node = c.args.node; number = c.args.from }) k)
        first_in [] h = h
        first_in (k ∷ ks) h = h.0.0

    apart : {other from : ℕ} → (spot.node < c.args.node) ⊎ ((spot.node ≡ c.args.node) × (spot.number ≤ other)) → (c.args.node < spot.node) ⊎ ((c.args.node ≡ spot.node) × (from ≤ spot.number)) → ⊥
    apart (inl a) (inl b) = omega arith
    apart (inl a) (inr b) = let e = b.0 in omega arith
    apart (inr a) (inl b) = let e = a.0 in omega arith
    apart (inr a) (inr b) = c.if-spot-node.false a.0

pub returns-in-None-clause-none : goal.returns-in-None-clause-none
returns-in-None-clause-none c = λ other high. (c.range.ensures.in_range tt).5 c.in-None.ensures.steps.0 (record { node = c.args.node; number = other }) (le-here c.args.node c.args.from other high, tt)
