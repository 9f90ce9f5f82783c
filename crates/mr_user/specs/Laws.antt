-- The job laws: what is asked of the parts of a job (a profile of its own).
use Rattle.std.specs.Prelude.{◌≡◌, ℕ, ◌<◌, ◌≤◌, ◌^◌, List, [], ◌++◌, length, drop, Some, ◌≢◌, IsTrue}
use Rattle.std.specs.List.{AllByRecursion}
use Rattle.std.specs.FinMap.{IsAntisymmetric}
use Rattle.mr_user.specs.Computation.{Codec, Computation}

-- numbers that are bytes
abbrev pub AreBytes : List ℕ → Type 0
AreBytes bytes = AllByRecursion (λ b. b < 256) bytes

-- the laws of a form of values as bytes
pub record CodecLaws {A : Type 0} (c : Codec A) : Type 0 where
  -- what was written is read again, whatever follows it
  pub read_written : (v : A) (rest : List ℕ) → IsTrue (c.fits v) → c.read_at (c.written v ++ rest) ≡ Some (v, length (c.written v))
  -- what is read fits, and its own bytes begin the bytes
  pub written_read : (bytes : List ℕ) (v : A) (n : ℕ) → AreBytes bytes → c.read_at bytes ≡ Some (v, n) → IsTrue (c.fits v) × (bytes ≡ c.written v ++ drop n bytes) × (n ≡ length (c.written v))
  -- a reading takes a byte at least, and no more than there are
  pub read_some : (bytes : List ℕ) (v : A) (n : ℕ) → c.read_at bytes ≡ Some (v, n) → (0 < n) × (n ≤ length bytes)
  -- no value is written as nothing
  pub not_empty : (v : A) → 0 < length (c.written v)

-- each of a list fits
abbrev pub AllFit : {A : Type 0} → Codec A → List A → Type 0
AllFit c vs = AllByRecursion (λ v. IsTrue (c.fits v)) vs

module _ {K V : Type 0} (job : Computation K V) where
  abbrev pub PairFits : K × V → Type 0
  PairFits p = IsTrue (job.key.fits p.0) × IsTrue (job.value.fits p.1)

  abbrev pub PairsFit : List (K × V) → Type 0
  PairsFit ps = AllByRecursion PairFits ps

-- the laws of a job, over keys and values that fit
pub record JobLaws {K V : Type 0} (job : Computation K V) : Type 0 where
  -- keys that compare equal are one value
  pub same_key : IsAntisymmetric job.cmp
  -- what a line gives fits
  pub mapped_fit : (split n : ℕ) (line : List ℕ) (ps : List (K × V)) → split < 2 ^ 32 → n < 2 ^ 64 → AreBytes line → length line ≤ 2 ^ 24 → job.functions.mapped split n line ≡ Some ps → PairsFit job ps
  -- each key goes to one of the reduces
  pub partition_below : (k : K) (reduces : ℕ) → IsTrue (job.key.fits k) → 0 < reduces → job.functions.partition_of k reduces < reduces
  -- a key that had values still has one
  pub combined_some : (k : K) (vs : List V) → IsTrue (job.key.fits k) → AllFit job.value vs → vs ≢ [] → job.functions.combined k vs ≢ []
  -- what is combined fits
  pub combined_fit : (k : K) (vs : List V) → IsTrue (job.key.fits k) → AllFit job.value vs → vs ≢ [] → AllFit job.value (job.functions.combined k vs)
  -- combining some neighbours first changes no value text
  pub reduced_combined : (k : K) (x y z : List V) → IsTrue (job.key.fits k) → AllFit job.value x → AllFit job.value y → AllFit job.value z → y ≢ [] → job.functions.reduced k (x ++ job.functions.combined k y ++ z) ≡ job.functions.reduced k (x ++ y ++ z)
