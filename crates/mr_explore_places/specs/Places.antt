-- Where the runs at made places lead (our own profile).
use Rattle.std.specs.Prelude.{◌≡◌, ◌<◌, ◌≤◌, ◌⊎◌, ℕ, zero, suc, ◌+◌, List, [], ◌∷◌, ◌++◌, length, remove, slice_get, Option, Some, None, option_to_list}
use Rattle.mr_explore_search.specs.Steps.{Onward, Goes, Steps}
use Rattle.mr_explore_search.specs.Runs.{Found}
use Rattle.mr_explore_search.specs.Laws.{Departs, In}
use Rattle.mr_explore_alike.specs.Leaving.{Here}

-- the place where a run begins
abbrev pub beginning : {S F : Type 0} → S → Here S F
beginning first = record { faults = 0; ripe = 0; owed = []; run = first }

-- the place behind a step of a run by itself
abbrev pub behind_step : {S F : Type 0} → Here S F → S → Here S F
behind_step h t = record { faults = h.faults; ripe = length h.owed; owed = h.owed; run = t }

-- the place behind what was put off
abbrev pub behind_owed : {S F : Type 0} → Here S F → ℕ → S → Here S F
behind_owed h at t = record { faults = h.faults; ripe = length (remove h.owed at); owed = remove h.owed at; run = t }

module _ {S F : Type 0} (steps : Steps S F) where
  -- the place behind a fault
  abbrev pub behind_fault : Here S F → F → S → Here S F
  behind_fault h f t = record { faults = suc h.faults; ripe = length h.owed; owed = h.owed ++ option_to_list (steps.later f); run = t }

  -- one of these faults makes x of h, which may have one more
  abbrev pub Befalls : (budget : ℕ) → List F → Here S F → Here S F → Type 0
  Befalls budget fs h x = (f : F) × (t : S) × In f fs × (h.faults < budget) × (steps.befallen f h.run ≡ Some t) × (x ≡ behind_fault h f t)

  -- one of the first so many that were put off comes to h, and makes x of it
  abbrev pub Comes : (late : ℕ) → Here S F → Here S F → Type 0
  Comes late h x = (at : ℕ) × (f : F) × (t : S) × (at < late) × (slice_get h.owed at ≡ Some f) × (steps.befallen f h.run ≡ Some t) × (x ≡ behind_owed h at t)

  -- x departs from h by a fault
  abbrev pub DepartsByFault : (budget : ℕ) → Here S F → Here S F → Type 0
  DepartsByFault budget x h = Befalls budget (steps.faults h.run) h x

  -- x departs from h by what was put off
  abbrev pub DepartsLate : Here S F → Here S F → Type 0
  DepartsLate x h = Comes h.ripe h x

  -- P holds at one of the first n places of h by itself
  abbrev pub IsWithin : (P : Here S F → Type 0) → ℕ → Here S F → Type 0
  IsWithin P zero h = ⊥
  IsWithin P (suc n) h = P h ⊎ ((t : S) × (steps.onward h.run ≡ Goes t) × IsWithin P n (behind_step h t))

  -- P holds at one of the first n places behind h
  abbrev pub IsBeyond : (P : Here S F → Type 0) → ℕ → Here S F → Type 0
  IsBeyond P n h = (t : S) × (steps.onward h.run ≡ Goes t) × IsWithin P n (behind_step h t)

  -- the run behind a place, as far as it is told
  abbrev pub further : (S → List (Here S F)) → Onward S → List (Here S F)
  further f (Goes t) = f t
  further f _ = []

  -- the first n places of a run, from this one on
  abbrev pub trail : ℕ → Here S F → List (Here S F)
  trail zero h = []
  trail (suc n) h = h ∷ further (λ t. trail n (behind_step h t)) (steps.onward h.run)

  -- it is made of this option, if there is one
  abbrev pub made_of : (S → Here S F) → Option S → Option (Here S F)
  made_of behind None = None
  made_of behind (Some t) = Some (behind t)

  -- the place behind a fault, if it can befall the run
  abbrev pub if_befallen : Here S F → F → Option (Here S F)
  if_befallen h f = made_of (behind_fault h f) (steps.befallen f h.run)

  -- the place behind what was put off, if there is such, and it can come to the run
  abbrev pub if_owed : Here S F → ℕ → Option F → Option (Here S F)
  if_owed h at None = None
  if_owed h at (Some f) = made_of (behind_owed h at) (steps.befallen f h.run)

  -- a run of the definition is here, and may make `left` steps by itself: what comes of it here comes of the first one
  abbrev pub IsOnItsWay : (budget most : ℕ) (first : S) (left : ℕ) → Here S F → Type 0
  IsOnItsWay budget most first left h = (h.faults ≤ budget) × ((total n : ℕ) (r : Found S) → Departs steps most total n h.ripe left h.owed h.run r → Departs steps most total (h.faults + n) 0 most [] first r)
