-- What a map work hands to the reduces (Dean and Ghemawat 2004, sections 3.1 and 4.3: intermediate pairs, partitioned,
-- and combined where they are made). The bytes of a block and of a map's output are our own profile.
use Rattle.std.specs.Prelude.{ℕ, ◌+◌, List, [], ◌∷◌, ◌++◌, map, length, Option, Some}
use Rattle.std.specs.Option.{option_map}
use Rattle.std.specs.List.{flat_map, range_with_len}
use Rattle.std.specs.Int.{w32, to_be_bytes}
use Rattle.mr_user.specs.Computation.{Computation}
use Rattle.mr_user.specs.Groups.{groups_of}
use Rattle.mr_user.specs.Sequential.{both, pairs_of_split, part_of}

-- a block behind its length, in four bytes
abbrev pub framed : List ℕ → List ℕ
framed block = to_be_bytes w32 (length block) ++ block

module _ {K V : Type 0} (job : Computation K V) where
  -- the combined pairs of a group
  abbrev pub combined_group : K × List V → List (K × V)
  combined_group g = map (λ v. (g.0, v)) (job.functions.combined g.0 g.1)

  -- the keys of pairs, rising, each with what its values are combined to
  abbrev pub combined_pairs : List (K × V) → List (K × V)
  combined_pairs ps = flat_map combined_group (groups_of job.cmp ps)

  -- a pair as it is written: the key, then the value
  abbrev pub spelled_pair : K × V → List ℕ
  spelled_pair p = job.key.written p.0 ++ job.value.written p.1

  -- pairs as they are written, one after the other
  abbrev pub spelled : List (K × V) → List ℕ
  spelled ps = flat_map spelled_pair ps

  -- the block of pairs for reduce r
  abbrev pub block_of : ℕ → ℕ → List (K × V) → List ℕ
  block_of reduces r ps = spelled (combined_pairs (part_of job reduces r ps))

  -- the block: what map m hands to reduce r, unless it refuses a line
  abbrev pub block : ℕ → ℕ → ℕ → List ℕ → Option (List ℕ)
  block reduces r m split = option_map (block_of reduces r) (pairs_of_split job m split)

  -- what the maps that are numbered from m hand to reduce r
  abbrev pub blocks_from : ℕ → ℕ → ℕ → List (List ℕ) → Option (List (List ℕ))
  blocks_from reduces r m [] = Some []
  blocks_from reduces r m (split ∷ splits) = both (option_map (λ bytes. bytes ∷ []) (block reduces r m split)) (blocks_from reduces r (m + 1) splits)

  -- a map's output: for each reduce, in order, its block behind the block's length
  abbrev pub output_of : ℕ → List (K × V) → List ℕ
  output_of reduces ps = flat_map (λ r. framed (block_of reduces r ps)) (range_with_len 0 reduces)

  -- what map m gives, unless it refuses a line
  abbrev pub map_output : ℕ → ℕ → List ℕ → Option (List ℕ)
  map_output reduces m split = option_map (output_of reduces) (pairs_of_split job m split)
