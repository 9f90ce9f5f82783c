-- The first pairs of lists, in a heap.
use Rattle.std.specs.Prelude.{◌≡◌, ℕ, Bool, true, false, nat_eq, cond, List, [], ◌∷◌, ◌++◌, length, drop, get_or, Some}
use Rattle.std.specs.Option.{option_map_or}
use Rattle.std.specs.List.{AllByRecursion, slice_get, sum_by}
use Rattle.std.specs.List.Sorted.{IsPermutation}
use Rattle.std.specs.Ordering.{ordering_then, nat_cmp, is_gt, eq_by_cmp}
use Rattle.std.specs.BinaryHeap.{IsHeap}
use Rattle.std.specs.declared.cmp.Ordering.{Ordering}
use Rattle.std.specs.declared.cmp.Reverse.{Reverse}
use Rattle.std.proofs.Math.ListN.{set}
use Rattle.mr_user.specs.Computation.{Computation}
use Rattle.mr_mapside.specs.declared.front.Front.{Front}
use Rattle.mr_user.specs.Groups.{values_of}
use Rattle.mr_user.specs.Meaning.{others_of}
use Rattle.mr_mapside.specs.Runs.{pair_at, pairs_in, pairs_in_all, AreRuns}

-- one for a front of the list at a place
abbrev pub at : {K V : Type 0} → ℕ → Reverse (Front K V) → ℕ
at i f = cond (nat_eq f.0.list i) 1 0

-- one where the list at a place has something left
abbrev pub left_at : List (List ℕ) → ℕ → ℕ
left_at lists i = option_map_or (λ bytes. cond (nat_eq (length bytes) 0) 0 1) (slice_get lists i) 0

module _ {K V : Type 0} (cmp : K → K → Ordering) where
  -- no key is below k
  abbrev pub NotBelow : K → List (K × V) → Type 0
  NotBelow k ps = AllByRecursion (λ p. is_gt (cmp k p.0) ≡ false) ps

  -- no key is k
  abbrev pub Without : K → List (K × V) → Type 0
  Without k ps = AllByRecursion (λ p. eq_by_cmp cmp k p.0 ≡ false) ps

module _ {K V : Type 0} (job : Computation K V) where
  -- the greatest has the least key, and of those the least place
  abbrev pub front_cmp : Reverse (Front K V) → Reverse (Front K V) → Ordering
  front_cmp x y = ordering_then (job.cmp y.0.key x.0.key) (nat_cmp y.0.list x.0.list)

  -- a front is the first pair of its list
  pub record IsFirst (lists : List (List ℕ)) (f : Front K V) : Type 0 where
    pub bytes : List ℕ
    pub there : slice_get lists f.list ≡ Some bytes
    pub pair : pair_at job bytes ≡ Some ((f.key, f.value), f.len)

  -- the fronts of lists, of each list as many as is said
  pub record AreFronts (many : ℕ → ℕ) (lists : List (List ℕ)) (fronts : List (Reverse (Front K V))) : Type 0 where
    pub order : IsHeap front_cmp fronts
    pub first : AllByRecursion (λ f. IsFirst lists f.0) fronts
    pub once : (i : ℕ) → sum_by (at i) fronts ≡ many i

  -- the fronts of all lists that have something left, where the lists are runs
  pub record Holds (lists : List (List ℕ)) (fronts : List (Reverse (Front K V))) : Type 0 where
    pub all : AreFronts (left_at lists) lists fronts
    pub runs : AreRuns job lists

  -- the front of bytes, which are the list at a place, is added where there is one
  pub record Adds (i : ℕ) (bytes : List ℕ) (before after : List (Reverse (Front K V))) : Type 0 where
    pub order : IsHeap front_cmp before → IsHeap front_cmp after
    pub added : List (Reverse (Front K V))
    pub all : IsPermutation (added ++ before) after
    pub many : length added ≡ cond (nat_eq (length bytes) 0) 0 1
    pub first : AllByRecursion (λ f. (f.0.list ≡ i) × (pair_at job bytes ≡ Some ((f.0.key, f.0.value), f.0.len))) added

-- the list at a place without its first bytes
abbrev pub rest_at : List (List ℕ) → ℕ → ℕ → List ℕ
rest_at lists i len = drop len (get_or lists i [])

module _ {K V : Type 0} (job : Computation K V) where
  -- bytes begin with pairs of a key that have these values, and the rest follows
  abbrev pub BeginWith : K → List V → List ℕ → List ℕ → Type 0
  BeginWith k [] bytes rest = bytes ≡ rest
  BeginWith k (v ∷ vs) bytes rest = (len : ℕ) × (pair_at job bytes ≡ Some ((k, v), len)) × BeginWith k vs (drop len bytes) rest

  -- The list at a place becomes what follows some pairs of a key that bytes begin with. Their values are taken, and
  -- the front of what follows is added.
  pub record TakesRun (k : K) (i : ℕ) (bytes : List ℕ) (lists : List (List ℕ)) (fronts : List (Reverse (Front K V))) (values : List V) (lists_then : List (List ℕ)) (fronts_then : List (Reverse (Front K V))) (values_then : List V) : Type 0 where
    pub taken : List V
    pub rest : List ℕ
    pub begins : BeginWith k taken bytes rest
    pub now : lists_then ≡ set lists i rest
    pub more : values_then ≡ values ++ taken
    pub front : Adds job i rest fronts fronts_then

  -- no list has a key below k
  abbrev pub AreNotBelow : K → List (List ℕ) → Type 0
  AreNotBelow k lists = AllByRecursion (λ bytes. NotBelow job.cmp k (pairs_in job bytes)) lists

  -- the first values of a key are taken off the lists, and nothing of other keys
  pub record Passes (k : K) (vs : List V) (before after : List (List ℕ)) : Type 0 where
    pub values : values_of job.cmp k (pairs_in_all job before) ≡ vs ++ values_of job.cmp k (pairs_in_all job after)
    pub others : others_of job.cmp k (pairs_in_all job before) ≡ others_of job.cmp k (pairs_in_all job after)

  -- the first values of a key are taken off the lists, one at least, if they have one
  abbrev pub Takes : K → List (List ℕ) → List V → Bool → List (List ℕ) → List V → Type 0
  Takes k before values false after then = (after ≡ before) × (then ≡ values) × Without job.cmp k (pairs_in_all job before)
  Takes k before values true after then = (v : V) × (vs : List V) × (then ≡ values ++ v ∷ vs) × Passes k (v ∷ vs) before after
