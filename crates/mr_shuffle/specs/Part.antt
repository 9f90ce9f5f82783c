-- What a reduce makes of the pieces that the maps handed to it (Dean and Ghemawat 2004, section 3.1). The reduce
-- worker reads all intermediate pairs, sorted by key so that all values of a key stand together. It passes each key
-- with its values to the reduce function. The bytes of a piece and the faults are our own profile.
use Rattle.std.specs.Prelude.{ℕ, zero, suc, Bool, false, cond, List, [], ◌∷◌, length, drop, Option, Some, None, Result, Ok, Err}
use Rattle.std.specs.Option.{option_map_or}
use Rattle.std.specs.List.{flat_map}
use Rattle.std.specs.Ordering.{is_lt}
use Rattle.mr_user.specs.Computation.{Computation}
use Rattle.mr_user.specs.Sequential.{text_of}
use Rattle.mr_mapside.specs.Runs.{pair_at}
use Rattle.mr_mapside.specs.declared.fault.ShuffleFault.{ShuffleFault}
use Rattle.mr_mapside.specs.declared.fault.ShuffleFault.TheVariants.{Truncated, Disorder}

abbrev pub result_map : {A B E : Type 0} → (A → B) → Result A E → Result B E
result_map f (Ok x) = Ok (f x)
result_map f (Err e) = Err e

-- a value in front of a list, where there is a list
abbrev pub in_front : {A E : Type 0} → A → Result (List A) E → Result (List A) E
in_front x (Ok xs) = Ok (x ∷ xs)
in_front x (Err e) = Err e

-- a result before others: the first fault
abbrev pub first_then : {A E : Type 0} → Result A E → Result (List A) E → Result (List A) E
first_then (Err e) rest = Err e
first_then (Ok x) rest = in_front x rest

-- the key of the last pair
abbrev pub last_key : {K V : Type 0} → List (K × V) → Option K
last_key [] = None
last_key (p ∷ []) = Some p.0
last_key (p ∷ q ∷ ps) = last_key (q ∷ ps)

module _ {K V : Type 0} (job : Computation K V) where
  -- a key is less than the one before it
  abbrev pub goes_down : Option K → K → Bool
  goes_down None key = false
  goes_down (Some before) key = is_lt (job.cmp key before)

  -- the pairs that bytes say, up to a number of them, after a key; or the first fault
  abbrev pub pairs_at : ℕ → Option K → List ℕ → Result (List (K × V)) ShuffleFault
  pairs_at most before [] = Ok []
  pairs_at zero before (b ∷ bytes) = Err Truncated
  pairs_at (suc most) before (b ∷ bytes) =
      option_map_or (λ found. cond (goes_down before found.0.0) (Err Disorder) (in_front found.0 (pairs_at most (Some found.0.0) (drop found.1 (b ∷ bytes))))) (pair_at job (b ∷ bytes)) (Err Truncated)

  -- the pairs of a piece, or its first fault: each pair has a byte at least
  abbrev pub pairs_of_piece : List ℕ → Result (List (K × V)) ShuffleFault
  pairs_of_piece piece = pairs_at (length piece) None piece

  -- the pairs of each piece, or the first fault in the order of the pieces
  abbrev pub pairs_of_pieces : List (List ℕ) → Result (List (List (K × V))) ShuffleFault
  pairs_of_pieces [] = Ok []
  pairs_of_pieces (piece ∷ pieces) = first_then (pairs_of_piece piece) (pairs_of_pieces pieces)

  -- the pairs of all pieces, by piece and then by place, or the first fault in that order
  abbrev pub pairs_of_all : List (List ℕ) → Result (List (K × V)) ShuffleFault
  pairs_of_all pieces = result_map (flat_map (λ ps. ps)) (pairs_of_pieces pieces)

  -- the part: the text that a reduce makes of its pieces, in the order of the maps, or the first fault
  abbrev pub part : List (List ℕ) → Result (List ℕ) ShuffleFault
  part pieces = result_map (text_of job) (pairs_of_all pieces)
