-- Runs: pairs by rising keys, kept as they are written, and merged by key. The values of a key come by run and then
-- by place. Our own profile.
use Rattle.std.specs.Prelude.{◌≡◌, ℕ, IsTrue, zero, suc, ◌+◌, nat_eq, cond, false, List, [], ◌∷◌, length, drop, Option, Some, None}
use Rattle.std.specs.Option.{option_map, option_map_or, option_and_then}
use Rattle.std.specs.List.{flat_map, starts_with, AllByRecursion}
use Rattle.std.specs.Ordering.{is_lt}
use Rattle.mr_user.specs.Computation.{Codec, Computation}
use Rattle.mr_user.specs.Groups.{groups_of}

-- a key that fits, as it is written
abbrev pub IsName : {K : Type 0} → Codec K → K → List ℕ → Type 0
IsName codec k name = IsTrue (codec.fits k) × (name ≡ codec.written k)

module _ {K V : Type 0} (job : Computation K V) where
  -- the pair at the front of bytes, and its length
  abbrev pub pair_at : List ℕ → Option ((K × V) × ℕ)
  pair_at bytes = option_and_then (λ key. option_map (λ value. ((key.0, value.0), key.1 + value.1)) (job.value.read_at (drop key.1 bytes))) (job.key.read_at bytes)

  -- the pair at the front of bytes that begin with a name, and its length
  abbrev pub named_at : List ℕ → List ℕ → Option ((K × V) × ℕ)
  named_at name bytes = cond (starts_with nat_eq bytes name) (pair_at bytes) None

  -- the pairs that bytes begin with, up to a number of them
  abbrev pub pairs_upto : ℕ → List ℕ → List (K × V)
  pairs_upto zero bytes = []
  pairs_upto (suc most) bytes = option_map_or (λ found. found.0 ∷ pairs_upto most (drop found.1 bytes)) (pair_at bytes) []

  -- the pairs that bytes begin with: each has a byte at least
  abbrev pub pairs_in : List ℕ → List (K × V)
  pairs_in bytes = pairs_upto (length bytes) bytes

  -- what is left of bytes behind the pairs that they begin with, up to a number of them
  abbrev pub unread_upto : ℕ → List ℕ → List ℕ
  unread_upto zero bytes = bytes
  unread_upto (suc most) bytes = option_map_or (λ found. unread_upto most (drop found.1 bytes)) (pair_at bytes) bytes

  -- bytes are pairs to their end
  abbrev pub ArePairs : List ℕ → Type 0
  ArePairs bytes = unread_upto (length bytes) bytes ≡ []

  -- no key is less than one before it
  abbrev pub IsRun : List (K × V) → Type 0
  IsRun [] = Unit {0}
  IsRun (p ∷ ps) = AllByRecursion (λ q. is_lt (job.cmp q.0 p.0) ≡ false) ps × IsRun ps

  -- each list is pairs to its end, by rising keys
  abbrev pub AreRuns : List (List ℕ) → Type 0
  AreRuns lists = AllByRecursion (λ bytes. ArePairs bytes × IsRun (pairs_in bytes)) lists

  -- the pairs in lists, by list and then by place
  abbrev pub pairs_in_all : List (List ℕ) → List (K × V)
  pairs_in_all lists = flat_map pairs_in lists

  -- the groups of the pairs in lists
  abbrev pub merged : List (List ℕ) → List (K × List V)
  merged lists = groups_of job.cmp (pairs_in_all lists)

-- What is given, where the groups of the first list were to come and those of the second are left. It is the first
-- group that was to come, or none.
abbrev pub GivesGroup : {K V W : Type 0} → (W → List V) → List (K × List V) → Option (K × W) → List (K × List V) → Type 0
GivesGroup values before None after = (before ≡ []) × (after ≡ [])
GivesGroup values before (Some group) after = before ≡ (group.0, values group.1) ∷ after
