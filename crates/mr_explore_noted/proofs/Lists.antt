-- Which runs stand in lists.
use Rattle.std.proofs.Common.{◌≡◌, ◌⊎◌, inl, inr, ◌&&◌, ◌||◌, ℕ, Bool, true, false, List, [], ◌∷◌, ◌++◌, refl}
use Rattle.mr_explore_search.specs.Runs.{Found, Run}
use Rattle.mr_explore_least.specs.Laws.{Has}
use Rattle.mr_explore_least.specs.Table.{Arrival, all_noted, noted}

pub has_front : (first second : List Arrival) (x : Arrival) → Has first x → Has (first ++ second) x
has_front [] second x h = absurd h
has_front (a ∷ first) second x (inl e) = inl e
has_front (a ∷ first) second x (inr h) = inr (has_front first second x h)

pub has_back : (first second : List Arrival) (x : Arrival) → Has second x → Has (first ++ second) x
has_back [] second x h = h
has_back (a ∷ first) second x h = inr (has_back first second x h)

pub has_either : (first second : List Arrival) (x : Arrival) → Has (first ++ second) x → Has first x ⊎ Has second x
has_either [] second x h = inr h
has_either (a ∷ first) second x (inl e) = inl (inl e)
has_either (a ∷ first) second x (inr h) = by (has_either first second x h) where
  by : Has first x ⊎ Has second x → Has (a ∷ first) x ⊎ Has second x
  by (inl k) = inl (inr k)
  by (inr k) = inr k

-- the last of some runs is noted last
pub noted_last : (came : List Arrival) (a : Arrival) (rows : List Arrival) → all_noted (came ++ a ∷ []) rows ≡ noted a (all_noted came rows)
noted_last [] a rows = refl
noted_last (b ∷ came) a rows = noted_last came a (noted b rows)

-- ---- of two flags

pub true_and_false : {b : Bool} → b ≡ true → b ≡ false → ⊥
true_and_false e f = absurd (cc)

pub one_of_two : (b c : Bool) → (b || c) ≡ true → (b ≡ true) ⊎ (c ≡ true)
one_of_two true c e = inl refl
one_of_two false c e = inr e

pub first_of_two : (b c : Bool) → b ≡ true → (b || c) ≡ true
first_of_two true c e = refl
first_of_two false c e = absurd (cc)

pub second_of_two : (b c : Bool) → c ≡ true → (b || c) ≡ true
second_of_two true c e = refl
second_of_two false c e = e

pub both_of_two : (b c : Bool) → b ≡ true → c ≡ true → (b && c) ≡ true
both_of_two true c e f = f
both_of_two false c e f = absurd (cc)

-- ---- of what was found

pub same_faults : {S : Type 0} (k n : ℕ) (s t : S) → ◌≡◌ {A = Found S} (Run k s) (Run n t) → k ≡ n
same_faults k n s t e = cc

pub same_run : {S : Type 0} (k n : ℕ) (s t : S) → ◌≡◌ {A = Found S} (Run k s) (Run n t) → s ≡ t
same_run k n s t e = cc
