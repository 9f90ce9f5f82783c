-- Runs that go on side by side (our own profile).
use Rattle.std.specs.Prelude.{◌≡◌, ◌↔◌, ℕ, List, ◌∷◌, Option, Some, None}
use Rattle.mr_explore_search.specs.Laws.{In}
use Rattle.mr_explore_alike.specs.Leaving.{Here}

-- a run is here, and makes so many steps more by itself at most
pub record Underway (S F : Type 0) : Type 0 where
  pub left : ℕ
  pub here : Here S F

-- one of these runs is here
abbrev pub IsUnderway : {S F : Type 0} → List (Underway S F) → Here S F → Type 0
IsUnderway {S} {F} going h = (g : Underway S F) × In g going × (g.here ≡ h)

-- the same runs, in whichever order
abbrev pub AreSame : {S F : Type 0} → (old new : List (Underway S F)) → Type 0
AreSame {S} {F} old new = (g : Underway S F) → In g old ↔ In g new

-- one of them leaves, if one does
abbrev pub Leaves : {S F : Type 0} → List (Underway S F) → Option (Underway S F) → List (Underway S F) → Type 0
Leaves old None new = AreSame old new
Leaves old (Some g) new = AreSame old (g ∷ new)
