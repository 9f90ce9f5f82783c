-- Which places stand for others (our own profile).
use Rattle.std.specs.Prelude.{◌≤◌, Bool, List}
use Rattle.mr_explore_alike.specs.Leaving.{Here, IsEarlier}

module _ {S F : Type 0} (before : S → S → Bool) (like : S → List F → S → List F → Type 0) where
  -- the made place is like the other one and earlier, and as much of what was put off may come there
  abbrev pub StandsFor : (made : Here S F) → Here S F → Type 0
  StandsFor made h = like h.run h.owed made.run made.owed × (h.ripe ≤ made.ripe) × IsEarlier before made.faults made.run h.faults h.run

  -- one of these places stands for it
  abbrev pub OneStandsFor : (Here S F → Type 0) → Here S F → Type 0
  OneStandsFor these h = (m : Here S F) × these m × StandsFor m h
