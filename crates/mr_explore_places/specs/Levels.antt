-- What is left of a search, the level that comes next first (our own profile).
use Rattle.std.specs.Prelude.{◌≡◌, ◌≤◌, ◌⊎◌, ◌↔◌, ℕ, zero, suc, List, [], ◌∷◌, Option, Some, None}
use Rattle.mr_explore_search.specs.Steps.{Steps}
use Rattle.mr_explore_alike.specs.Leaving.{Here}
use Rattle.mr_explore_places.specs.Places.{Befalls, Comes, DepartsByFault, DepartsLate, IsBeyond, IsWithin, trail}
use Rattle.mr_explore_places.specs.declared.level.Level.{Level}
use Rattle.mr_explore_places.specs.declared.level.Coming.{Coming}
use Rattle.mr_explore_places.specs.declared.level.Trying.{Trying}
use Rattle.mr_explore_places.specs.declared.level.Level.TheVariants as level

module _ {S F : Type 0} (steps : Steps S F) (budget : ℕ) where
  -- Where the level leads: it begins at a place, or faults are tried along a run, or what was put off comes along it.
  abbrev pub LeadsTo : Level S F → Here S F → Type 0
  LeadsTo (level.Begin h) x = h ≡ x
  LeadsTo (level.Faults l) x = Befalls steps budget l.faults l.place x ⊎ IsBeyond steps (DepartsByFault steps budget x) l.beyond l.place
  LeadsTo (level.Late l) x = Comes steps l.late l.place x ⊎ IsBeyond steps (DepartsLate steps x) l.beyond l.place

  -- one of these levels leads to the place
  abbrev pub IsLeft : List (Level S F) → Here S F → Type 0
  IsLeft [] x = ⊥
  IsLeft (l ∷ ls) x = LeadsTo l x ⊎ IsLeft ls x

  -- The place is one of those along which faults are tried: of a level that has such, the one where it is, or one behind.
  abbrev pub IsOnTrail : Level S F → Here S F → Type 0
  IsOnTrail (level.Begin h) x = ⊥
  IsOnTrail (level.Faults l) x = IsWithin steps (λ h. h ≡ x) (suc l.beyond) l.place
  IsOnTrail (level.Late l) x = ⊥

  -- one of these levels has it on its trail
  abbrev pub IsOnTrails : List (Level S F) → Here S F → Type 0
  IsOnTrails [] x = ⊥
  IsOnTrails (l ∷ ls) x = IsOnTrail l x ⊎ IsOnTrails ls x

  -- those along which faults are tried
  abbrev pub trail_of : Level S F → List (Here S F)
  trail_of (level.Begin h) = []
  trail_of (level.Faults l) = trail steps (suc l.beyond) l.place
  trail_of (level.Late l) = []

  -- they lead to the same places, and the new ones have no other trails
  pub record LeadAlike (old new : List (Level S F)) : Type 0 where
    pub leads : (x : Here S F) → IsLeft old x ↔ IsLeft new x
    pub trails : (x : Here S F) → IsOnTrails new x → IsOnTrails old x

  -- n places of a run were made, from this one on: what departs from them is left
  abbrev pub laid : ℕ → Here S F → List (Level S F) → List (Level S F)
  laid zero h ls = ls
  laid (suc n) h ls = level.Faults (record { place = h; faults = steps.faults h.run; beyond = n }) ∷ level.Late (record { place = h; late = h.ripe; beyond = n }) ∷ ls

  -- the faults that are tried from this place on; none where it may have no more
  abbrev pub AreFaultsOf : Here S F → Option (Trying S F) → Type 0
  AreFaultsOf h None = budget ≤ h.faults
  AreFaultsOf h (Some l) = l ≡ record { place = h; faults = steps.faults h.run; beyond = 0 }

-- what comes later from this place on; nothing where nothing was put off
abbrev pub AreLateOf : {S F : Type 0} → Here S F → Option (Coming S F) → Type 0
AreLateOf h None = h.owed ≡ []
AreLateOf h (Some l) = l ≡ record { place = h; late = h.ripe; beyond = 0 }

-- it comes next, if there is one
abbrev pub with_begun : {S F : Type 0} → Option (Here S F) → List (Level S F) → List (Level S F)
with_begun None ls = ls
with_begun (Some h) ls = level.Begin h ∷ ls

abbrev pub with_faults : {S F : Type 0} → Option (Trying S F) → ℕ → List (Level S F) → List (Level S F)
with_faults None beyond ls = ls
with_faults (Some l) beyond ls = level.Faults (record l { beyond = beyond }) ∷ ls

abbrev pub with_late : {S F : Type 0} → Option (Coming S F) → ℕ → List (Level S F) → List (Level S F)
with_late None beyond ls = ls
with_late (Some l) beyond ls = level.Late (record l { beyond = beyond }) ∷ ls
