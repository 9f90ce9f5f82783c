-- What the runs of a walk are, said without their order and without a search.
use Rattle.std.specs.Prelude.{◌≡◌, ◌≤◌, ◌<◌, ◌⊎◌, ◌↔◌, ℕ, zero, suc, List, [], ◌∷◌, ◌++◌, length, remove, slice_get, Some, option_to_list}
use Rattle.mr_explore_search.specs.Steps.{Goes, Ends, Full, Steps}
use Rattle.mr_explore_search.specs.Runs.{Found, Run, PassesLimit, runs}

-- x stands in the list
abbrev pub In : {A : Type 0} → A → List A → Type 0
In x [] = ⊥
In x (y ∷ ys) = (y ≡ x) ⊎ In x ys

-- A run departs at n places from how it goes on by itself, and this comes of it. At a place it makes a step by itself; or
-- a fault befalls it that may befall it there, which is a departure; or something comes that an earlier fault put off,
-- which is none: at any later place, behind whatever else came, once, or never. Of what is put off the first `ripe` may
-- come where it is: what the last fault put off comes behind something else. By itself it makes at most `left` steps more,
-- and `most` behind a fault or what comes later.
pub data Departs {S F : Type 0} (steps : Steps S F) (most total : ℕ) : (n ripe left : ℕ) → List F → S → Found S → Type 0 where
  Has_ended : (ripe left : ℕ) (owed : List F) (s t : S) → steps.onward s ≡ Ends t → Departs steps most total 0 ripe (suc left) owed s (Run total t)
  Has_made_all : (ripe : ℕ) (owed : List F) (s : S) → Departs steps most total 0 ripe zero owed s (Run total s)
  Would_pass : (n ripe left : ℕ) (owed : List F) (s : S) → steps.onward s ≡ Full → Departs steps most total n ripe (suc left) owed s PassesLimit
  Went : (n ripe left : ℕ) (owed : List F) (s t : S) (r : Found S) → steps.onward s ≡ Goes t → Departs steps most total n (length owed) left owed t r → Departs steps most total n ripe (suc left) owed s r
  Was_befallen : (n ripe left : ℕ) (owed : List F) (s t : S) (r : Found S) (f : F) → In f (steps.faults s) → steps.befallen f s ≡ Some t
      → Departs steps most total n (length owed) most (owed ++ option_to_list (steps.later f)) t r → Departs steps most total (suc n) ripe left owed s r
  Came_later : (n ripe left : ℕ) (owed : List F) (s t : S) (r : Found S) (place : ℕ) (f : F) → place < ripe → slice_get owed place ≡ Some f → steps.befallen f s ≡ Some t
      → Departs steps most total n (length (remove owed place)) most (remove owed place) t r → Departs steps most total n ripe left owed s r

-- it departs at as many places as are told, and these are at most `faults`
abbrev pub IsOneBy : {S F : Type 0} → Steps S F → (most faults : ℕ) → S → Found S → Type 0
IsOneBy steps most faults s r = (n : ℕ) × (n ≤ faults) × Departs steps most n n 0 most [] s r

-- the runs of a walk are just those that depart so
abbrev pub RunsAreAllThatDepart : {S F : Type 0} → Steps S F → Type 0
RunsAreAllThatDepart {S} steps = (most faults : ℕ) (s : S) (r : Found S) → In r (runs steps most faults s) ↔ IsOneBy steps most faults s r
