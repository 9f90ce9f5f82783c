-- Which rows meet a goal.
use Rattle.std.proofs.Common.{◌≡◌, ◌⊎◌, inl, inr, Bool, true, false, List, [], ◌∷◌, Some, None, refl, subst}
use Rattle.std.specs.Prelude.{if◌then◌else◌}
use Rattle.mr_script.specs.declared.expectation.Expectation.{Expectation}
use Rattle.mr_explore_ends.specs.Goals.{meets}
use Rattle.mr_explore_least.specs.Laws.{Has}
use Rattle.mr_explore_least.specs.Table.{Arrival, least_of}

same_some : (a b : Arrival) → Some a ≡ Some b → a ≡ b
same_some a b e = cc

-- a row that is told meets it
pub told_meets : (goal : List Expectation) (rows : List Arrival) (r : Arrival) → least_of goal rows ≡ Some r → Has rows r × (meets goal r.end ≡ true)
told_meets goal [] r e = absurd (cc)
told_meets goal (x ∷ rows) r e = by (meets goal x.end) refl e (λ q. told_meets goal rows r q) where
  by : (b : Bool) → meets goal x.end ≡ b → (if b then Some x else least_of goal rows) ≡ Some r → (least_of goal rows ≡ Some r → Has rows r × (meets goal r.end ≡ true)) → ((x ≡ r) ⊎ Has rows r) × (meets goal r.end ≡ true)
  by true m q more = let same = same_some x r q in (inl same, subst (λ (y : Arrival). meets goal y.end ≡ true) same m)
  by false m q more = let z = more q in (inr z.0, z.1)

-- where none is told, none meets it
pub none_meets : (goal : List Expectation) (rows : List Arrival) → least_of goal rows ≡ None → (r : Arrival) → Has rows r → meets goal r.end ≡ false
none_meets goal [] e r h = absurd h
none_meets goal (x ∷ rows) e r h = by (meets goal x.end) refl e h (λ q i. none_meets goal rows q r i) where
  by : (b : Bool) → meets goal x.end ≡ b → (if b then Some x else least_of goal rows) ≡ None → (x ≡ r) ⊎ Has rows r → (least_of goal rows ≡ None → Has rows r → meets goal r.end ≡ false) → meets goal r.end ≡ false
  by true m q i more = absurd (cc)
  by false m q (inl same) more = subst (λ (y : Arrival). meets goal y.end ≡ false) same m
  by false m q (inr i) more = more q i
