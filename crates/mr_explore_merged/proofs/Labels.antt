-- A run is told with as many faults as it has.
use Rattle.std.proofs.Common.{◌≡◌, ◌≤◌, ℕ, List, [], ◌++◌, length, remove, option_to_list, refl, arith}
use Rattle.mr_explore_search.specs.Steps.{Steps}
use Rattle.mr_explore_search.specs.Runs.{Found, Run, PassesLimit}
use Rattle.mr_explore_search.specs.Laws.{Departs, Has_ended, Has_made_all, Would_pass, Went, Was_befallen, Came_later, IsOneBy}

module _ {S F : Type 0} (steps : Steps S F) where
  abbrev Labelled : ℕ → Found S → Type 0
  Labelled total (Run k s) = k ≡ total
  Labelled total PassesLimit = Unit {0}

  label : (most total m i a : ℕ) (os : List F) (v : S) (q : Found S) → Departs steps most total m i a os v q → Labelled total q
  label most total m i a os v q (Has_ended ripe left o s t w) = refl
  label most total m i a os v q (Has_made_all ripe o s) = refl
  label most total m i a os v q (Would_pass n ripe left o s w) = tt
  label most total m i a os v q (Went n ripe left o s t r w d) = label most total n (length o) left o t r d
  label most total m i a os v q (Was_befallen n ripe left o s t r f x w d) = label most total n (length o) most (o ++ option_to_list (steps.later f)) t r d
  label most total m i a os v q (Came_later n ripe left o s t r place f lt g w d) = label most total n (length (remove o place)) most (remove o place) t r d

  -- it has no more faults than it may have
  pub has_few : (most faults k : ℕ) (first s : S) → IsOneBy steps most faults first (Run k s) → k ≤ faults
  has_few most faults k first s d =
      let few = d.1 in
      let same = label most d.0 d.0 0 most [] first (Run k s) d.2 in
      omega (arith, few, same)

  -- it is a run by as few faults as it has, or more
  pub of_few : (most faults few k : ℕ) (first s : S) → IsOneBy steps most faults first (Run k s) → k ≤ few → IsOneBy steps most few first (Run k s)
  of_few most faults few k first s d le =
      let same = label most d.0 d.0 0 most [] first (Run k s) d.2 in
      (d.0, omega (arith, le, same), d.2)

  pub of_more : (most faults more : ℕ) (first : S) (r : Found S) → IsOneBy steps most faults first r → faults ≤ more → IsOneBy steps most more first r
  of_more most faults more first r d le = let few = d.1 in (d.0, omega (arith, few, le), d.2)
