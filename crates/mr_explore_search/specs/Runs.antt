-- Every run that comes of one by at most a given number of faults, in the order in which they are made (our own profile):
-- first the run without a fault, then those with one, and so on. At each place of a run, where it has ended too, each
-- fault is tried in turn, then each thing that an earlier fault put off; then it goes on by itself.
use Rattle.std.specs.Prelude.{ℕ, zero, suc, ◌+◌, List, [], ◌∷◌, ◌++◌, length, remove, slice_get, Option, Some, None, option_to_list}
use Rattle.std.specs.List.{flat_map, range_with_len}
use Rattle.mr_explore_search.specs.Steps.{Onward, Goes, Ends, Full, Steps}

-- a run at its end, and how many faults it has; or a run would pass a limit
pub data Found (S : Type 0) : Type 0 where
  Run : ℕ → S → Found S
  PassesLimit : Found S

-- `total` is how many faults these runs have
module _ {S F : Type 0} (steps : Steps S F) (total : ℕ) where
  -- What comes of a run by n faults more, of what was put off, and of how many of these may come where it is: the last
  -- fault's own may not, since nothing came behind it yet.
  abbrev pub Comes : Type 0
  Comes = (n ripe : ℕ) → (owed : List F) → S → List (Found S)

  abbrev pub if_befallen : (S → List (Found S)) → Option S → List (Found S)
  if_befallen behind None = []
  if_befallen behind (Some s) = behind s

  -- with one fault less, if there may be one
  abbrev pub fewer : Comes → Comes
  fewer behind zero = λ ripe owed s. []
  fewer behind (suc n) = behind n

  -- each of these faults, and what comes behind it
  abbrev pub tried : Comes → ℕ → List F → List F → S → List (Found S)
  tried behind n owed [] s = []
  tried behind n owed (f ∷ fs) s = if_befallen (fewer behind n (length owed) (owed ++ option_to_list (steps.later f))) (steps.befallen f s) ++ tried behind n owed fs s

  -- what was put off comes, if there is such
  abbrev pub if_owed : (S → List (Found S)) → Option F → S → List (Found S)
  if_owed behind None s = []
  if_owed behind (Some f) s = if_befallen behind (steps.befallen f s)

  -- each of the first so many that were put off, the last one first. It is put off no longer.
  abbrev pub came : Comes → ℕ → List F → ℕ → S → List (Found S)
  came behind n owed zero s = []
  came behind n owed (suc place) s = if_owed (behind n (length (remove owed place)) (remove owed place)) (slice_get owed place) s ++ came behind n owed place s

  -- a run at its end is one of these, if it has all its faults
  abbrev pub ended : ℕ → S → List (Found S)
  ended zero s = Run total s ∷ []
  ended (suc n) s = []

  abbrev pub if_goes : (S → List (Found S)) → ℕ → Onward S → List (Found S)
  if_goes on n (Goes s) = on s
  if_goes on n (Ends s) = ended n s
  if_goes on n Full = PassesLimit ∷ []

  -- it goes on by itself for at most this many steps, and behind each of them there is a place
  abbrev pub going : Comes → ℕ → List F → ℕ → S → List (Found S)
  going behind n owed zero s = ended n s
  going behind n owed (suc left) s = if_goes (λ t. tried behind n owed (steps.faults t) t ++ (came behind n owed (length owed) t ++ going behind n owed left t)) n (steps.onward s)

  -- all that comes of a run where it is
  abbrev pub here : Comes → (n ripe : ℕ) → List F → ℕ → S → List (Found S)
  here behind n ripe owed left s = tried behind n owed (steps.faults s) s ++ (came behind n owed ripe s ++ going behind n owed left s)

  -- what comes of a run, if by itself it makes at most `most` steps, by fewer departures than d: a fault is one, and so is what comes later
  abbrev pub by_fewer : ℕ → ℕ → Comes
  by_fewer most zero n ripe owed s = []
  by_fewer most (suc d) n ripe owed s = here (by_fewer most d) n ripe owed most s

module _ {S F : Type 0} (steps : Steps S F) where
  -- all runs with just n faults: each puts off one thing at most, so there are at most n + n departures
  abbrev pub exactly : (most n : ℕ) → S → List (Found S)
  exactly most n s = by_fewer steps n most (suc (n + n)) n 0 [] s

  -- all runs with at most `faults` faults
  abbrev pub runs : (most faults : ℕ) → S → List (Found S)
  runs most faults s = flat_map (λ n. exactly most n s) (range_with_len 0 (suc faults))
