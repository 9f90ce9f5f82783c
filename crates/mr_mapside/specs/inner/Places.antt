-- Where the blocks of a map's output lie (our own profile).
use Rattle.std.specs.Prelude.{◌≡◌, ℕ, ◌-◌, ◌≤◌, nat_eq, cond, List, map, length, take, drop, Option, Some, None}
use Rattle.std.specs.List.{AllByRecursion}
use Rattle.std.specs.Option.{option_and_then, IfSome}
use Rattle.mr_mapside.specs.Cutting.{cut}
use Rattle.mr_mapside.specs.declared.cut_output.Place.{Place}

-- the bytes from a place's start to before its end
abbrev pub at_place : List ℕ → Place → List ℕ
at_place bytes place = take (place.end - place.start) (drop place.start bytes)

abbrev pub IsWithin : List ℕ → Place → Type 0
IsWithin bytes place = (place.start ≤ place.end) × (place.end ≤ length bytes)

-- the blocks at places, if these are as many as is said
abbrev pub blocks_at : ℕ → List ℕ → List Place → Option (List (List ℕ))
blocks_at count bytes places = cond (nat_eq (length places) count) (Some (map (at_place bytes) places)) None

-- The places are those of the blocks that bytes are cut into; none where the bytes are not blocks in any number.
pub record ArePlaces (bytes : List ℕ) (places : Option (List Place)) : Type 0 where
  pub within : IfSome places (AllByRecursion (IsWithin bytes))
  pub cut : (count : ℕ) → cut count bytes ≡ option_and_then (blocks_at count bytes) places
