-- What a search has done, and what its calls answer (our own profile).
use Rattle.std.specs.Prelude.{◌≡◌, ◌≤◌, ◌⊎◌, ℕ, suc, Bool, false, List, [], ◌∷◌, ◌++◌, Option, Some, None, Result, Ok, Err}
use Rattle.mr_explore_search.specs.Steps.{Goes, Ends, Steps}
use Rattle.mr_explore_search.specs.Runs.{Found, Run}
use Rattle.mr_explore_search.specs.Laws.{In, IsOneBy}
use Rattle.mr_explore_search.specs.declared.ended.Ended.{Ended}
use Rattle.mr_explore_search.specs.declared.fault.WalkFault.{WalkFault}
use Rattle.mr_explore_alike.specs.Leaving.{Here, IsTaken}
use Rattle.mr_explore_places.specs.Places.{DepartsByFault, DepartsLate, IsOnItsWay, behind_step}
use Rattle.mr_explore_places.specs.Going.{Stops}
use Rattle.mr_explore_places.specs.Fronts.{IsUnderway, Underway}
use Rattle.mr_explore_places.specs.Levels.{IsLeft, IsOnTrails, laid}
use Rattle.mr_explore_places.specs.Keeping.{AreMade}
use Rattle.mr_explore_places.specs.declared.level.Level.{Level}
use Rattle.mr_explore_places.specs.declared.stores.Stores.{Stores}
use Rattle.mr_explore_places.specs.declared.part.Next.{Next}
use Rattle.mr_explore_places.specs.declared.part.Next.TheVariants as next
use Rattle.mr_explore_places.specs.declared.following.Trail.{Trail}

module _ {S F : Type 0} (steps : Steps S F) (rest : S → ℕ) (before : S → S → Bool) (void : S → Bool) (like : S → List F → S → List F → Type 0) (ends : S → S → Type 0) (budget most : ℕ) where
  -- it is taken, or it is one of the next
  abbrev pub WillBeTaken : (next made : List (Here S F)) → Here S F → Type 0
  WillBeTaken next made x = IsTaken steps rest before void like ends made x.faults x.ripe x.owed x.run ⊎ In x next

  -- a run that may have no more faults goes on, from a place that was made
  pub record GoesOn (first : S) (made : List (Here S F)) (g : Underway S F) : Type 0 where
    pub made_so : In g.here made
    pub way : IsOnItsWay steps budget most first g.left g.here
    pub last : budget ≤ g.here.faults

  -- What a search has done that had these levels before it at first, which are parts of a search from the first run. It made these places, knows those of others, found
  -- these runs, and has these places next, these runs going on and these levels left. Each place to which a made one leads, or a level of those at first, is taken, or is one
  -- of the next, or is left, or a run goes on to it. Each place along which faults are left to be tried is made, or known.
  pub record HasDone (first : S) (parts : List (Level S F)) (known : List (Here S F)) (next : List (Here S F)) (going : List (Underway S F)) (left : List (Level S F)) (made : List (Here S F)) (found : List (Found S)) : Type 0 where
    pub on_way : (x : Here S F) → IsLeft steps budget left x → IsOnItsWay steps budget most first most x
    pub go_on : (g : Underway S F) → In g going → GoesOn first made g
    pub runs : (r : Found S) → In r found → IsOneBy steps most budget first r
    pub trodden : (x : Here S F) → IsOnTrails steps budget left x → In x (made ++ known)
    pub began : (x : Here S F) → IsLeft steps budget parts x → void x.run ≡ false → WillBeTaken next (made ++ known) x ⊎ IsLeft steps budget left x
    pub goes : (h : Here S F) (t : S) → In h made → steps.onward h.run ≡ Goes t → WillBeTaken next (made ++ known) (behind_step h t) ⊎ IsUnderway going h
    pub ended : (h : Here S F) (t : S) → In h made → steps.onward h.run ≡ Ends t → In (Run h.faults t) found ⊎ IsUnderway going h
    pub befalls : (h x : Here S F) → In h made → DepartsByFault steps budget x h → void x.run ≡ false → WillBeTaken next (made ++ known) x ⊎ IsLeft steps budget left x
    pub comes : (h x : Here S F) → In h made → DepartsLate steps x h → void x.run ≡ false → WillBeTaken next (made ++ known) x ⊎ IsLeft steps budget left x

  -- These places are known of the parts: whoever gave them away had made the places along which their faults are tried.
  abbrev pub AreKnownOf : (parts : List (Level S F)) (known : List (Here S F)) → Type 0
  AreKnownOf parts known = (x : Here S F) → In x known → IsOnTrails steps budget parts x

  -- the same, with any places that were made, and any that are known of the parts: those that are kept are among them
  abbrev pub HasSearched : (first : S) (parts : List (Level S F)) (kept : Stores S F) (going : List (Underway S F)) (left : List (Level S F)) (found : List (Found S)) → Type 0
  HasSearched first parts kept going left found = (made : List (Here S F)) × (known : List (Here S F)) × HasDone first parts known [] going left made found × AreMade kept (made ++ known) × AreKnownOf parts known

  -- ---- what the calls promise

  -- a run was found, if one was
  abbrev pub with_ended : Option (Ended S) → List (Found S) → List (Found S)
  with_ended None found = found
  with_ended (Some e) found = Run e.faults e.run ∷ found

  -- a run is followed so far: each of its places is made
  abbrev pub FollowedTo : (first : S) (parts : List (Level S F)) (origin : Here S F) (going : List (Underway S F)) (left : List (Level S F)) (found : List (Found S)) → Result (Trail S) WalkFault → Stores S F → Type 0
  FollowedTo first parts origin going left found (Ok trail) new = HasSearched first parts new going (laid steps budget (suc trail.beyond) origin left) (with_ended trail.ended found)
  FollowedTo first parts origin going left found (Err f) new = Stops steps budget most first f

  abbrev pub Follows : (origin : Here S F) → Stores S F → Result (Trail S) WalkFault → Stores S F → Type 0
  Follows origin old result new = (first : S) (parts : List (Level S F)) (known : List (Here S F)) (going : List (Underway S F)) (left : List (Level S F)) (made : List (Here S F)) (found : List (Found S)) → IsOnItsWay steps budget most first most origin
      → HasDone first parts known (origin ∷ []) going left made found → AreMade old (origin ∷ made ++ known) → AreKnownOf parts known → FollowedTo first parts origin going left found result new

  -- a turn was made: a run was found, or none was
  abbrev pub Turned : (first : S) (parts : List (Level S F)) (given : List (Level S F)) (found : List (Found S)) → Result (Option (Ended S)) WalkFault → Stores S F → List (Underway S F) → List (Level S F) → Type 0
  Turned first parts given found (Ok o) kept going left = HasSearched first parts kept going (left ++ given) (with_ended o found)
  Turned first parts given found (Err f) kept going left = Stops steps budget most first f

  -- the level that came next makes a turn; others, which are given away, stay
  abbrev pub Turns : Level S F → Stores S F → List (Underway S F) → List (Level S F) → Result (Option (Ended S)) WalkFault → Stores S F → List (Underway S F) → List (Level S F) → Type 0
  Turns l old-kept old-going old result kept going left = (first : S) (parts given : List (Level S F)) (found : List (Found S)) → HasSearched first parts old-kept old-going (l ∷ old ++ given) found → Turned first parts given found result kept going left

  -- a run that has so many steps left comes to this place: it is made, unless a made one stands for it
  abbrev pub Reaches : (left : ℕ) → Here S F → Stores S F → List (Underway S F) → List (Level S F) → List (Underway S F) → List (Level S F) → Type 0
  Reaches left p kept old-going old going new = (first : S) (parts : List (Level S F)) (known : List (Here S F)) (given : List (Level S F)) (made : List (Here S F)) (found : List (Found S)) → IsOnItsWay steps budget most first left p → budget ≤ p.faults
      → HasDone first parts known (p ∷ []) old-going (old ++ given) made found → AreMade kept (made ++ known) → AreKnownOf parts known → HasSearched first parts kept going (new ++ given) found

  -- the run that left the others makes a step
  abbrev pub Advances : Underway S F → Stores S F → List (Underway S F) → List (Level S F) → Result (Option (Ended S)) WalkFault → List (Underway S F) → List (Level S F) → Type 0
  Advances g kept old-going old result going left = (first : S) (parts given : List (Level S F)) (found : List (Found S)) → HasSearched first parts kept (g ∷ old-going) (old ++ given) found → Turned first parts given found result kept going left

  -- turns are made until a run was found; where none was, nothing is left
  abbrev pub Sought : (first : S) (parts : List (Level S F)) (given : List (Level S F)) (found : List (Found S)) → Result (Option (Ended S)) WalkFault → Stores S F → List (Underway S F) → List (Level S F) → Type 0
  Sought first parts given found (Ok None) kept going left = HasSearched first parts kept [] given found × (going ≡ []) × (left ≡ [])
  Sought first parts given found (Ok (Some e)) kept going left = HasSearched first parts kept going (left ++ given) (Run e.faults e.run ∷ found)
  Sought first parts given found (Err f) kept going left = Stops steps budget most first f

  abbrev pub Seeks : Stores S F → List (Underway S F) → List (Level S F) → Result (Option (Ended S)) WalkFault → Stores S F → List (Underway S F) → List (Level S F) → Type 0
  Seeks old-kept old-going old result kept going left = (first : S) (parts given : List (Level S F)) (found : List (Found S)) → HasSearched first parts old-kept old-going (old ++ given) found → Sought first parts given found result kept going left

  -- the same, until a run was found, or a part comes next, which is given away
  abbrev pub SoughtApart : (first : S) (parts : List (Level S F)) (given : List (Level S F)) (found : List (Found S)) → Result (Option (Next S F)) WalkFault → Stores S F → List (Underway S F) → List (Level S F) → Type 0
  SoughtApart first parts given found (Ok None) kept going left = HasSearched first parts kept [] given found × (going ≡ []) × (left ≡ [])
  SoughtApart first parts given found (Ok (Some (next.Run e))) kept going left = HasSearched first parts kept going (left ++ given) (Run e.faults e.run ∷ found)
  SoughtApart first parts given found (Ok (Some (next.Part l))) kept going left = HasSearched first parts kept going (left ++ l ∷ given) found
  SoughtApart first parts given found (Err f) kept going left = Stops steps budget most first f

  abbrev pub SeeksApart : Stores S F → List (Underway S F) → List (Level S F) → Result (Option (Next S F)) WalkFault → Stores S F → List (Underway S F) → List (Level S F) → Type 0
  SeeksApart old-kept old-going old result kept going left = (first : S) (parts given : List (Level S F)) (found : List (Found S)) → HasSearched first parts old-kept old-going (old ++ given) found → SoughtApart first parts given found result kept going left
