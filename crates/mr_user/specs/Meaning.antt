-- What the lines of a split and the rising keys of a list are, told by what they are made of.
-- These laws bear the definitions in Sequential and Groups out. Our own: it follows from Sequential and Groups.
use Rattle.std.specs.Prelude.{◌≡◌, ◌≢◌, ℕ, true, false, not, List, [], ◌∷◌, ◌++◌, map, filter}
use Rattle.std.specs.List.{AllByRecursion, list_any}
use Rattle.std.specs.FinMap.{IsAntisymmetric}
use Rattle.std.specs.Ordering.{eq_by_cmp, is_gt}
use Rattle.std.specs.declared.cmp.Ordering.{Ordering}
use Rattle.std.specs.declared.cmp.Ordering.TheVariants.{Less}
use Rattle.mr_user.specs.Groups.{rising, values_of, groups_of}
use Rattle.mr_user.specs.Sequential.{lines_of}

abbrev pub HasNoLineFeed : List ℕ → Type 0
HasNoLineFeed bytes = AllByRecursion (λ b. b ≢ 10) bytes

-- a line is the piece before each line feed, and the rest after the last one if that is not empty
pub record LinesArePieces : Type 0 where
  pub none : lines_of [] ≡ []
  pub before : (line rest : List ℕ) → HasNoLineFeed line → lines_of (line ++ 10 ∷ rest) ≡ line ∷ lines_of rest
  pub last : (line : List ℕ) → HasNoLineFeed line → line ≢ [] → lines_of line ≡ line ∷ []

module _ {K : Type 0} (cmp : K → K → Ordering) where
  -- each key is less than all that follow it
  abbrev pub IsRising : List K → Type 0
  IsRising [] = Unit {0}
  IsRising (k ∷ ks) = AllByRecursion (λ q. cmp k q ≡ Less) ks × IsRising ks

  -- the rising keys are those of the list, each once, and each less than the next
  pub record KeysRise : Type 0 where
    pub in_order : (ks : List K) → IsRising (rising cmp ks)
    pub same : (ks : List K) (k : K) → list_any (eq_by_cmp cmp k) (rising cmp ks) ≡ list_any (eq_by_cmp cmp k) ks

module _ {K V : Type 0} (cmp : K → K → Ordering) where
  -- the pairs of other keys
  abbrev pub others_of : K → List (K × V) → List (K × V)
  others_of k ps = filter (λ p. not (eq_by_cmp cmp k p.0)) ps

-- where k is a key of pairs and none is less, its group comes first, and then the groups of the pairs of other keys
abbrev pub LeastGroupFirst : {K : Type 0} (V : Type 0) → (K → K → Ordering) → Type 0
LeastGroupFirst {K} V cmp =
    (k : K) (ps : List (K × V)) → IsAntisymmetric cmp → list_any (eq_by_cmp cmp k) (map (λ p. p.0) ps) ≡ true → AllByRecursion (λ p. is_gt (cmp k p.0) ≡ false) ps →
    groups_of cmp ps ≡ (k, values_of cmp k ps) ∷ groups_of cmp (others_of cmp k ps)
