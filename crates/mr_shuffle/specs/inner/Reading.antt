-- One pair of a piece is read behind another (a profile of its own).
use Rattle.std.specs.Prelude.{◌≡◌, ℕ, true, false, List, Option, Some, None}
use Rattle.mr_user.specs.Computation.{Codec, Computation}
use Rattle.mr_mapside.specs.Runs.{IsName, pair_at}
use Rattle.mr_mapside.specs.declared.fault.ShuffleFault.{ShuffleFault}
use Rattle.mr_mapside.specs.declared.fault.ShuffleFault.TheVariants as shuffle
use Rattle.mr_shuffle.specs.Part.{goes_down}

-- the key, if there is one, as it is written
abbrev pub IsNamed : {K : Type 0} → Codec K → Option K → List ℕ → Type 0
IsNamed codec None name = Unit {0}
IsNamed codec (Some key) name = IsName codec key name

-- bytes begin with a pair of such a length, whose key is not less than the one before it and is the last then
pub record ReadsPair {K V : Type 0} (job : Computation K V) (before : Option K) (bytes : List ℕ) (len : ℕ) (last : Option K) : Type 0 where
  pub pair : K × V
  pub read : pair_at job bytes ≡ Some (pair, len)
  pub level : goes_down job before pair.0 ≡ false
  pub is_last : last ≡ Some pair.0

-- bytes begin with no pair, or with one whose key is less than the one before it; or an allocation failure
abbrev pub NoPairIs : {K V : Type 0} → ShuffleFault → Computation K V → Option K → List ℕ → Type 0
NoPairIs shuffle.NoMemory job before bytes = Unit {0}
NoPairIs shuffle.WrongPiece job before bytes = ⊥
NoPairIs shuffle.Truncated job before bytes = pair_at job bytes ≡ None
NoPairIs {K} {V} shuffle.Disorder job before bytes = (pair : K × V) × (len : ℕ) × (pair_at job bytes ≡ Some (pair, len)) × (goes_down job before pair.0 ≡ true)
