-- What the bytes of a piece say, in whole lists (our own profile).
use Rattle.std.specs.Prelude.{◌≡◌, ◌≢◌, ◌↔◌, ℕ, true, false, List, [], ◌∷◌, ◌++◌, Option, Some, None, Result, Ok, Err}
use Rattle.mr_user.specs.Computation.{Computation}
use Rattle.mr_user.specs.Laws.{PairFits, PairsFit, AreBytes}
use Rattle.mr_mapside.specs.Block.{spelled_pair, spelled}
use Rattle.mr_mapside.specs.declared.fault.ShuffleFault.{ShuffleFault}
use Rattle.mr_mapside.specs.declared.fault.ShuffleFault.TheVariants as shuffle
use Rattle.mr_shuffle.specs.Part.{last_key, goes_down, pairs_of_piece}

module _ {K V : Type 0} (job : Computation K V) where
  -- no key is less than the one before it
  abbrev pub IsLevel : Option K → List (K × V) → Type 0
  IsLevel before [] = Unit {0}
  IsLevel before (p ∷ ps) = (goes_down job before p.0 ≡ false) × IsLevel (Some p.0) ps

  -- pairs that fit, no key less than the one before it, and then more bytes
  pub record ArePairsThen (piece : List ℕ) (ps : List (K × V)) (rest : List ℕ) : Type 0 where
    pub bytes : piece ≡ spelled job ps ++ rest
    pub fit : PairsFit job ps
    pub level : IsLevel None ps

  -- the bytes do not begin with a pair that fits
  abbrev pub BeginsNoPair : List ℕ → Type 0
  BeginsNoPair bytes = (p : K × V) (rest : List ℕ) → PairFits job p → bytes ≢ spelled_pair job p ++ rest

  -- Ok ps: the bytes are these pairs and nothing more. Truncated: they are pairs and then a rest, not empty, with
  -- which no pair begins. Disorder: they are pairs, a pair whose key is less than the last, and a rest. No piece says
  -- another fault.
  abbrev pub Says : List ℕ → Result (List (K × V)) ShuffleFault → Type 0
  Says piece (Ok ps) = ArePairsThen piece ps []
  Says piece (Err shuffle.Truncated) = (ps : List (K × V)) × (rest : List ℕ) × ArePairsThen piece ps rest × (rest ≢ []) × BeginsNoPair rest
  Says piece (Err shuffle.Disorder) = (ps : List (K × V)) × (p : K × V) × (rest : List ℕ) × ArePairsThen piece ps (spelled_pair job p ++ rest) × PairFits job p × (goes_down job (last_key ps) p.0 ≡ true)
  Says piece (Err shuffle.WrongPiece) = ⊥
  Says piece (Err shuffle.NoMemory) = ⊥

  -- the pairs of a piece, or its first fault, are what its bytes say
  abbrev pub PieceIsWhatItSays : Type 0
  PieceIsWhatItSays = (piece : List ℕ) (said : Result (List (K × V)) ShuffleFault) → AreBytes piece → (pairs_of_piece job piece ≡ said) ↔ Says piece said
