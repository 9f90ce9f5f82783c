-- Laws of the definitions.
use Rattle.std.specs.Prelude.{◌≡◌, ℕ, ◌<◌, ◌≤◌, ◌^◌, List, length, Some}
use Rattle.std.specs.List.{slice_get}
use Rattle.mr_user.specs.Computation.{Computation}
use Rattle.mr_mapside.specs.Block.{block, map_output}
use Rattle.mr_mapside.specs.Cutting.{AreBlocks}

-- bytes are a number of blocks in one way alone
abbrev pub BlocksAreOne : Type 0
BlocksAreOne = (bytes : List ℕ) (count : ℕ) (blocks others : List (List ℕ)) → AreBlocks bytes count blocks → AreBlocks bytes count others → blocks ≡ others

-- a map's output is cut into the blocks that the map hands to the reduces
abbrev pub OutputIsItsBlocks : {K V : Type 0} → Computation K V → Type 0
OutputIsItsBlocks job =
    (reduces m : ℕ) (split bytes : List ℕ) → map_output job reduces m split ≡ Some bytes → length bytes ≤ 2 ^ 24 →
    (blocks : List (List ℕ)) × AreBlocks bytes reduces blocks × ((r : ℕ) → r < reduces → block job reduces r m split ≡ slice_get blocks r)
