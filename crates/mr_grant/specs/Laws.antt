-- What follows from the definition of a grant alone, for every list of calls, the newest first.
use Rattle.std.specs.Prelude.{◌≡◌, true, false, Bool, List, ◌++◌, Some}
use Rattle.std.specs.List.{list_any}
use Rattle.mr_ids.specs.Attempt.{Attempt}
use Rattle.mr_grant.specs.Attempts.{same_attempt, first_of, is_first}
use Rattle.mr_grant.specs.Grant.{Askers, nobody, Call, Pending, Release, Fix, after_calls}

-- the test for one attempt holds of an attempt and itself alone
pub record SameAttempts : Type 0 where
  pub itself : (a : Attempt) → same_attempt a a ≡ true
  pub alone : (a b : Attempt) → same_attempt a b ≡ true → a ≡ b

-- whether a call releases a
abbrev pub releases : Attempt → Call → Bool
releases a (Release b) = same_attempt b a
releases a (Pending b) = false
releases a (Fix b) = false

-- yes is for one attempt at a time, the first
pub record OneIsFirst : Type 0 where
  pub first : (xs : List Attempt) (a : Attempt) → first_of xs ≡ Some a → is_first xs a ≡ true
  pub alone : (xs : List Attempt) (a : Attempt) → is_first xs a ≡ true → first_of xs ≡ Some a

-- who is first stays so until it is released
abbrev pub FirstStays : Type 0
FirstStays = (g : Askers) (calls : List Call) (a : Attempt) → first_of g.attempts ≡ Some a → list_any (releases a) calls ≡ false
    → first_of (after_calls g calls).attempts ≡ Some a

-- a fixed grant stays fixed, and its attempts stay where they are: others only come behind
pub record FixedStays : Type 0 where
  pub fixed : (g : Askers) (calls : List Call) → g.is_fixed ≡ true → (after_calls g calls).is_fixed ≡ true
  pub behind : (g : Askers) (calls : List Call) → g.is_fixed ≡ true → (more : List Attempt) × ((after_calls g calls).attempts ≡ g.attempts ++ more)
  -- a grant that was made with nobody and is fixed has a first, and so has one for good
  pub first : (calls : List Call) → (after_calls nobody calls).is_fixed ≡ true → (a : Attempt) × (first_of (after_calls nobody calls).attempts ≡ Some a)
  pub for_good : (calls more : List Call) (a : Attempt) → (after_calls nobody calls).is_fixed ≡ true → first_of (after_calls nobody calls).attempts ≡ Some a
      → first_of (after_calls (after_calls nobody calls) more).attempts ≡ Some a
