-- The places that are kept (our own profile).
use Rattle.std.specs.Prelude.{◌≡◌, ◌⊎◌, ℕ, Bool, true, false, List, [], ◌∷◌}
use Rattle.mr_explore_search.specs.Steps.{Steps}
use Rattle.mr_explore_search.specs.Laws.{In}
use Rattle.mr_explore_alike.specs.Leaving.{Here}
use Rattle.mr_explore_places.specs.Covering.{OneStandsFor}
use Rattle.mr_explore_places.specs.Levels.{IsOnTrail}
use Rattle.mr_explore_places.specs.declared.level.Level.{Level}
use Rattle.mr_explore_places.specs.declared.stores.Kept.{Kept}
use Rattle.mr_explore_places.specs.declared.stores.Row.{Row}
use Rattle.mr_explore_places.specs.declared.stores.Stores.{Stores}

-- the place is kept in this row
abbrev pub IsInRow : {S F : Type 0} → List (Kept S F) → Here S F → Type 0
IsInRow [] h = ⊥
IsInRow (k ∷ ks) h = (k.place.value ≡ h) ⊎ IsInRow ks h

-- in one of these rows
abbrev pub IsKept : {S F : Type 0} → List (Row S F) → Here S F → Type 0
IsKept [] h = ⊥
IsKept (r ∷ rs) h = IsInRow r.kept.items h ⊎ IsKept rs h

abbrev pub IsHeld : {S F : Type 0} → Stores S F → Here S F → Type 0
IsHeld s h = IsKept s.rows.items h

-- all that are kept are among these
abbrev pub AreMade : {S F : Type 0} → Stores S F → List (Here S F) → Type 0
AreMade {S} {F} s made = (h : Here S F) → IsHeld s h → In h made

module _ {S F : Type 0} (before : S → S → Bool) (like : S → List F → S → List F → Type 0) where
  -- A place is looked up: it has to be made, and may be kept; or a kept one stands for it. No other one is kept that was not.
  abbrev pub Visits : Stores S F → Here S F → Bool → Stores S F → Type 0
  Visits old h true new = (x : Here S F) → IsHeld new x → (h ≡ x) ⊎ IsHeld old x
  Visits old h false new = OneStandsFor before like (IsHeld old) h × ((x : Here S F) → IsHeld new x → IsHeld old x)

module _ {S F : Type 0} (steps : Steps S F) (budget : ℕ) where
  -- no place is kept that was not, but for those along which faults of the level are tried
  abbrev pub KeepsTrail : Level S F → Stores S F → Stores S F → Type 0
  KeepsTrail l old new = (x : Here S F) → IsHeld new x → IsOnTrail steps budget l x ⊎ IsHeld old x
