-- Which runs of a walk need not be made, and that no end and no least script is lost without them (our own profile).
use Rattle.std.specs.Prelude.{◌≡◌, ◌<◌, ◌≤◌, ◌⊎◌, ℕ, suc, Bool, true, false, List, [], ◌++◌, length, remove, slice_get, Some, option_to_list}
use Rattle.mr_explore_search.specs.Steps.{Goes, Ends, Steps}
use Rattle.mr_explore_search.specs.Runs.{Found, Run}
use Rattle.mr_explore_search.specs.Laws.{In, IsOneBy}
use Rattle.mr_explore_alike.specs.Likens.{Likens}

-- A made run was here: it has had so many faults. What was put off, and how many of these may come here, from the first on.
pub record Here (S F : Type 0) : Type 0 where
  pub faults : ℕ
  pub ripe : ℕ
  pub owed : List F
  pub run : S

-- of two runs: whether the script of the first comes before that of the second
module _ {S : Type 0} (before : S → S → Bool) where
  -- u, of j faults, is earlier than s, of k faults: it has fewer faults, or as many and its script comes before that of s
  abbrev pub IsEarlier : (j : ℕ) → S → (k : ℕ) → S → Type 0
  IsEarlier j u k s = (j < k) ⊎ ((j ≡ k) × (before u s ≡ true))

module _ {S F : Type 0} (steps : Steps S F) (rest : S → ℕ) (before : S → S → Bool) (void : S → Bool) (like : S → List F → S → List F → Type 0) (ends : S → S → Type 0) where
  -- a made run that is earlier was at a place that is like this one, where as much may come
  pub record IsCovered (made : List (Here S F)) (k ripe : ℕ) (o : List F) (s : S) : Type 0 where
    pub by : Here S F
    pub made_by : In by made
    pub alike : like s o by.run by.owed
    pub ripe_there : ripe ≤ by.ripe
    pub earlier : IsEarlier before by.faults by.run k s

  -- a place is made, or a made one is like it
  abbrev pub IsTaken : (made : List (Here S F)) (k ripe : ℕ) (o : List F) (s : S) → Type 0
  IsTaken made k ripe o s = In (record { faults = k; ripe = ripe; owed = o; run = s }) made ⊎ IsCovered made k ripe o s

  -- The end of each made run is found. Its next place by itself is taken, and so is what comes of each fault that may befall it, while it may have one more, and
  -- of what was put off and may come to it; void runs need not be.
  pub record IsEnough (budget : ℕ) (made : List (Here S F)) (found : List (Found S)) : Type 0 where
    pub goes : (h : Here S F) (t : S) → In h made → steps.onward h.run ≡ Goes t → IsTaken made h.faults (length h.owed) h.owed t
    pub ended : (h : Here S F) (t : S) → In h made → steps.onward h.run ≡ Ends t → In (Run h.faults t) found
    pub befalls : (h : Here S F) (f : F) (t : S) → In h made → h.faults < budget → In f (steps.faults h.run) → steps.befallen f h.run ≡ Some t → void t ≡ false
        → IsTaken made (suc h.faults) (length h.owed) (h.owed ++ option_to_list (steps.later f)) t
    pub comes : (h : Here S F) (place : ℕ) (f : F) (t : S) → In h made → place < h.ripe → slice_get h.owed place ≡ Some f → steps.befallen f h.run ≡ Some t → void t ≡ false
        → IsTaken made h.faults (length (remove h.owed place)) (remove h.owed place) t

  -- an earlier run is found that came to the same end as s, which has k faults
  pub record IsFoundEarlier (found : List (Found S)) (k : ℕ) (s : S) : Type 0 where
    pub faults : ℕ
    pub run : S
    pub found_so : In (Run faults run) found
    pub one : ends s run
    pub earlier : IsEarlier before faults run k s

  -- that very run is found, or an earlier one that came to the same end
  abbrev pub IsFound : (found : List (Found S)) (k : ℕ) (s : S) → Type 0
  IsFound found k s = In (Run k s) found ⊎ IsFoundEarlier found k s

  -- of all runs that depart at `budget` places at most, and are not void, each one is found, or an earlier one that came to the same end
  abbrev pub NoEndIsLost : Type 0
  NoEndIsLost = (most budget : ℕ) (made : List (Here S F)) (found : List (Found S)) (first : S) → Likens steps rest before void like ends most → like first [] first [] → rest first < most
      → IsEnough budget made found → IsTaken made 0 0 [] first
      → (k : ℕ) (s : S) → IsOneBy steps most budget first (Run k s) → void s ≡ false → IsFound found k s
