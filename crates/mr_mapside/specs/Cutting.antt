-- The blocks that a map's output is cut into (our own profile).
use Rattle.std.specs.Prelude.{◌≡◌, ℕ, zero, suc, ◌<◌, ◌^◌, nat_lt, cond, List, [], ◌∷◌, length, take, drop, Option, Some, None}
use Rattle.std.specs.Option.{option_map, option_and_then}
use Rattle.std.specs.List.{AllByRecursion, flat_map}
use Rattle.std.specs.Int.{w32, from_be_bytes}
use Rattle.mr_mapside.specs.Block.{framed}

-- a length that four bytes hold
abbrev pub IsShort : List ℕ → Type 0
IsShort block = length block < 2 ^ 32

-- bytes are this many blocks, each behind its length, and nothing else
pub record AreBlocks (bytes : List ℕ) (count : ℕ) (blocks : List (List ℕ)) : Type 0 where
  pub whole : bytes ≡ flat_map framed blocks
  pub many : length blocks ≡ count
  pub short : AllByRecursion IsShort blocks

-- the first bytes, as many as is said, and the bytes after them
abbrev pub parted : ℕ → List ℕ → Option (List ℕ × List ℕ)
parted len bytes = cond (nat_lt (length bytes) len) None (Some (take len bytes, drop len bytes))

-- the block that bytes begin with, and the bytes after it
abbrev pub first_block : List ℕ → Option (List ℕ × List ℕ)
first_block bytes = option_and_then (λ found. parted (from_be_bytes w32 found.0) found.1) (parted 4 bytes)

-- the blocks of bytes that are this many blocks
abbrev pub cut : ℕ → List ℕ → Option (List (List ℕ))
cut zero [] = Some []
cut zero (b ∷ bytes) = None
cut (suc count) bytes = option_and_then (λ found. option_map (λ blocks. found.0 ∷ blocks) (cut count found.1)) (first_block bytes)
