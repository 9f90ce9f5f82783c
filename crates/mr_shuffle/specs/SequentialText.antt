-- Shuffle gives the sequential text (Dean and Ghemawat 2004, section 3.3: with deterministic functions a distributed
-- execution gives what a sequential one would have given).
use Rattle.std.specs.Prelude.{◌≡◌, ℕ, ◌+◌, ◌<◌, ◌≤◌, ◌^◌, List, [], ◌∷◌, length, Some, Ok}
use Rattle.std.specs.List.{AllByRecursion, slice_get}
use Rattle.std.specs.Option.{option_map}
use Rattle.mr_user.specs.Computation.{Computation}
use Rattle.mr_user.specs.Laws.{AreBytes}
use Rattle.mr_user.specs.Sequential.{output}
use Rattle.mr_mapside.specs.Block.{blocks_from, map_output}
use Rattle.mr_mapside.specs.Cutting.{AreBlocks}
use Rattle.mr_shuffle.specs.Part.{part}

-- splits as a cluster takes them: at most 1,000, each of bytes and at most 2^24 long
pub record AreSplits (splits : List (List ℕ)) : Type 0 where
  pub few : length splits ≤ 1000
  pub bytes : AllByRecursion (λ split. (length split ≤ 2 ^ 24) × AreBytes split) splits

-- The maps hand blocks to reduce r exactly where the sequential execution has a text for it, and then the part of the
-- blocks is that text.
abbrev pub ShuffleGivesSequentialText : {K V : Type 0} → Computation K V → Type 0
ShuffleGivesSequentialText job =
    (splits : List (List ℕ)) (reduces r : ℕ) → AreSplits splits → option_map (part job) (blocks_from job reduces r 0 splits) ≡ option_map Ok (output job reduces r splits)

module _ {K V : Type 0} (job : Computation K V) where
  -- the piece that reduce r gets of map m: the block at place r of the blocks that the output of a map work over the
  -- split is cut into
  pub record IsPieceOf (reduces r m : ℕ) (split piece : List ℕ) : Type 0 where
    pub output : List ℕ
    pub blocks : List (List ℕ)
    pub made : map_output job reduces m split ≡ Some output
    pub fits : length output ≤ 2 ^ 24
    pub cut : AreBlocks output reduces blocks
    pub taken : slice_get blocks r ≡ Some piece

  -- the pieces that reduce r gets of the maps of splits that are numbered from m
  abbrev pub ArePiecesOfSplits : ℕ → ℕ → ℕ → List (List ℕ) → List (List ℕ) → Type 0
  ArePiecesOfSplits reduces r m [] [] = Unit {0}
  ArePiecesOfSplits reduces r m [] (piece ∷ pieces) = ⊥
  ArePiecesOfSplits reduces r m (split ∷ splits) [] = ⊥
  ArePiecesOfSplits reduces r m (split ∷ splits) (piece ∷ pieces) = IsPieceOf reduces r m split piece × ArePiecesOfSplits reduces r (m + 1) splits pieces

  -- Let each map work over the splits give an output, and take the blocks of these for reduce r. Then the sequential
  -- execution has a text for r, and the part of the blocks is that text.
  abbrev pub WorksGiveSequentialText : Type 0
  WorksGiveSequentialText =
      (splits pieces : List (List ℕ)) (reduces r : ℕ) → AreSplits splits → r < reduces → ArePiecesOfSplits reduces r 0 splits pieces →
      (text : List ℕ) × (output job reduces r splits ≡ Some text) × (part job pieces ≡ Ok text)
