-- Paths as lists of names, and names as lists of bytes. Our own profile, after the absolute paths of a file system.
use Rattle.std.specs.Prelude.{◌≡◌, ◌≢◌, ◌<◌, ◌≤◌, ◌⊎◌, ℕ, false, List, [], ◌∷◌, ◌++◌, length, All, Option, Some, None, if◌then◌else◌, nat_eq, take, map, ◌-◌}
use Rattle.std.specs.Cmp.Lexicographic.{slice_cmp, pointwise, lists_total, lists_ties, nat_list_cmp_total, texts_ties}
use Rattle.std.specs.Cmp.{IsTotalOrder}
use Rattle.std.specs.FinMap.{IsAntisymmetric, slice_cmp-IsAntisymmetric, nat_cmp-IsAntisymmetric}
use Rattle.std.specs.declared.cmp.Ordering.{Ordering}
use Rattle.std.specs.Ordering.{nat_cmp, eq_by_cmp}

-- a name of a path: 1 to 255 bytes with no slash (our own profile)
pub record IsName (bytes : List ℕ) : Type 0 where
  pub some : 0 < length bytes
  pub fits : length bytes ≤ 255
  pub slash_free : All (λ b. b ≢ 47) bytes

-- names by their bytes, and paths by their names from the left
abbrev pub path_cmp : List (List ℕ) → List (List ℕ) → Ordering
path_cmp = slice_cmp (slice_cmp nat_cmp)

-- what is left of a path beneath top: none where the path is not within top
abbrev pub strip : List (List ℕ) → List (List ℕ) → Option (List (List ℕ))
strip [] path = Some path
strip (n ∷ top) [] = None
strip (n ∷ top) (m ∷ path) = if pointwise nat_eq n m then strip top path else None

-- the path at which a path stands, once what is at and beneath from is at and beneath to
abbrev pub rebased_by : List (List ℕ) → List (List ℕ) → Option (List (List ℕ)) → List (List ℕ)
rebased_by to path None = path
rebased_by to path (Some rest) = to ++ rest

abbrev pub rebased : List (List ℕ) → List (List ℕ) → List (List ℕ) → List (List ℕ)
rebased from to path = rebased_by to path (strip from path)

-- the laws of the comparison

pub path_total : IsTotalOrder path_cmp
path_total = lists_total nat_list_cmp_total

pub path_ties : (x y : List (List ℕ)) → pointwise (pointwise nat_eq) x y ≡ eq_by_cmp path_cmp x y
path_ties = lists_ties (slice_cmp nat_cmp) texts_ties

pub path_exact : IsAntisymmetric path_cmp
path_exact = slice_cmp-IsAntisymmetric (slice_cmp-IsAntisymmetric nat_cmp-IsAntisymmetric)

-- the path on which a path's entry stands: the root's is the root
abbrev pub parent : List (List ℕ) → List (List ℕ)
parent path = take (length path - 1) path

-- the root, and each path on the way down to a path, which is the last
abbrev pub prefixes : List (List ℕ) → List (List (List ℕ))
prefixes [] = [] ∷ []
prefixes (n ∷ path) = [] ∷ map (λ p. n ∷ p) (prefixes path)

-- the last name of a path that stands directly beneath top
abbrev pub only_name : Option (List (List ℕ)) → Option (List ℕ)
only_name None = None
only_name (Some []) = None
only_name (Some (name ∷ [])) = Some name
only_name (Some (name ∷ next ∷ rest)) = None

abbrev pub child_of : List (List ℕ) → List (List ℕ) → Option (List ℕ)
child_of top path = only_name (strip top path)

-- two paths part ways: at some place their names differ. So neither stands at or beneath the other
abbrev pub Diverge : List (List ℕ) → List (List ℕ) → Type 0
Diverge [] q = ⊥
Diverge (n ∷ p) [] = ⊥
Diverge (n ∷ p) (m ∷ q) = (pointwise nat_eq n m ≡ false) ⊎ Diverge p q
