-- What a sequential execution holds of the pairs that it has seen (our own profile).
use Rattle.std.specs.Prelude.{◌≡◌, ◌<◌, ℕ, List, [], ◌∷◌, ◌++◌, length, Some}
use Rattle.std.specs.List.{slice_get}
use Rattle.std.specs.Ordering.{match_ordering}
use Rattle.std.specs.declared.cmp.Ordering.{Ordering}
use Rattle.mr_user.specs.Computation.{Computation}
use Rattle.mr_user.specs.Groups.{groups_of}
use Rattle.mr_user.specs.Sequential.{part_of}

module _ {K V : Type 0} (cmp : K → K → Ordering) where
  -- a pair goes to the end of its key's group, or is a new group at its place among rising keys
  abbrev pub put_pair : List (K × List V) → K × V → List (K × List V)
  put_pair [] p = (p.0, p.1 ∷ []) ∷ []
  put_pair (g ∷ gs) p = match_ordering (cmp p.0 g.0) ((p.0, p.1 ∷ []) ∷ g ∷ gs) ((g.0, g.1 ++ p.1 ∷ []) ∷ gs) (g ∷ put_pair gs p)

module _ {K V : Type 0} (job : Computation K V) where
  -- the groups of the pairs of each reduce
  pub record IsGathered (reduces : ℕ) (parts : List (List (K × List V))) (ps : List (K × V)) : Type 0 where
    pub count : length parts ≡ reduces
    pub each : (r : ℕ) → r < reduces → slice_get parts r ≡ Some (groups_of job.cmp (part_of job reduces r ps))
