-- What a map keeps of its pairs before it merges them (our own profile).
use Rattle.std.specs.Prelude.{◌≡◌, ℕ, List, ◌++◌, filter, length, Some}
use Rattle.std.specs.List.{slice_get}
use Rattle.std.specs.Ordering.{eq_by_cmp}
use Rattle.std.specs.declared.cmp.Ordering.{Ordering}
use Rattle.mr_user.specs.Computation.{Computation}
use Rattle.mr_user.specs.Sequential.{part_of}
use Rattle.mr_mapside.specs.Runs.{pairs_in_all, AreRuns}

-- pairs have the same values for each key, in the same order
abbrev pub SameValues : {K V : Type 0} → (K → K → Ordering) → List (K × V) → List (K × V) → Type 0
SameValues {K} cmp xs ys = (k : K) → filter (λ p. eq_by_cmp cmp k p.0) xs ≡ filter (λ p. eq_by_cmp cmp k p.0) ys

module _ {K V : Type 0} (job : Computation K V) where
  -- The pairs for reduce r: those of the runs that are kept for it, and then those of a run that is not kept yet.
  -- They have the values of what goes to r of all pairs.
  pub record KeptAt (reduces r : ℕ) (runs : List (List ℕ)) (run done : List (K × V)) : Type 0 where
    pub rising : AreRuns job runs
    pub same : SameValues job.cmp (pairs_in_all job runs ++ part_of job reduces r run) (part_of job reduces r done)

  -- the runs that are kept for each reduce
  pub record Kept (reduces : ℕ) (kept : List (List (List ℕ))) (run done : List (K × V)) : Type 0 where
    pub many : length kept ≡ reduces
    pub each : (r : ℕ) (runs : List (List ℕ)) → slice_get kept r ≡ Some runs → KeptAt reduces r runs run done
