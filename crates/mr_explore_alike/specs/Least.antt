-- The least run to an end: none with this end is earlier. It has one script, and each search that leaves runs out finds it (our own profile).
use Rattle.std.specs.Prelude.{◌≡◌, ◌<◌, ℕ, Bool, false, List, []}
use Rattle.mr_explore_search.specs.Steps.{Steps}
use Rattle.mr_explore_search.specs.Runs.{Found, Run}
use Rattle.mr_explore_search.specs.Laws.{In, IsOneBy}
use Rattle.mr_explore_alike.specs.Likens.{Likens}
use Rattle.mr_explore_alike.specs.Leaving.{Here, IsEarlier, IsEnough, IsTaken}

module _ {S F : Type 0} (steps : Steps S F) (rest : S → ℕ) (before : S → S → Bool) (void : S → Bool) (like : S → List F → S → List F → Type 0) (ends : S → S → Type 0) where
  -- of these runs, none that came to the same end is earlier than s, which has k faults
  abbrev pub NoneIsEarlier : (is : ℕ → S → Type 0) (k : ℕ) → S → Type 0
  NoneIsEarlier is k s = (j : ℕ) (u : S) → is j u → ends s u → IsEarlier before j u k s → ⊥

  -- a run of k faults that comes of the first one by at most `budget` departures, and is not void
  abbrev pub IsRun : (most budget : ℕ) → S → (k : ℕ) → S → Type 0
  IsRun most budget first k s = IsOneBy steps most budget first (Run k s) × (void s ≡ false)

  -- Two runs that came to one end, and to which none of all runs is earlier, have as many faults, and neither's script comes before that of the other.
  abbrev pub LeastAreOne : Type 0
  LeastAreOne = (most budget : ℕ) (first : S) (j k : ℕ) (u s : S) → IsRun most budget first j u → IsRun most budget first k s → ends u s → ends s u
      → NoneIsEarlier (IsRun most budget first) j u → NoneIsEarlier (IsRun most budget first) k s → (j ≡ k) × (before u s ≡ false) × (before s u ≡ false)

  -- Where a run is left out only if an earlier one that is like it was made: of all runs none is earlier than the least that is found with the same end.
  abbrev pub LeastFoundIsLeast : Type 0
  LeastFoundIsLeast = (most budget : ℕ) (made : List (Here S F)) (found : List (Found S)) (first : S) → Likens steps rest before void like ends most → ((s t u : S) → ends s t → ends t u → ends s u)
      → like first [] first [] → rest first < most → IsEnough steps rest before void like ends budget made found → IsTaken steps rest before void like ends made 0 0 [] first
      → (k : ℕ) (s : S) → NoneIsEarlier (λ j u. In (Run j u) found) k s → NoneIsEarlier (IsRun most budget first) k s

  -- What a search made and found is enough, from the first run on, and each that is found is a run.
  pub record IsSearch (most budget : ℕ) (first : S) (made : List (Here S F)) (found : List (Found S)) : Type 0 where
    pub enough : IsEnough steps rest before void like ends budget made found
    pub begins : IsTaken steps rest before void like ends made 0 0 [] first
    pub are_runs : (k : ℕ) (s : S) → In (Run k s) found → IsRun most budget first k s

  -- Two searches of the same runs may leave out others. The least that they find with one end have as many faults, and neither's script comes before that of the other.
  abbrev pub SearchesFindOne : Type 0
  SearchesFindOne = (most budget : ℕ) (first : S) (made others : List (Here S F)) (found told : List (Found S)) → Likens steps rest before void like ends most → ((s t u : S) → ends s t → ends t u → ends s u)
      → like first [] first [] → rest first < most → IsSearch most budget first made found → IsSearch most budget first others told
      → (j k : ℕ) (u s : S) → In (Run j u) found → In (Run k s) told → ends u s → ends s u → NoneIsEarlier (λ i v. In (Run i v) found) j u → NoneIsEarlier (λ i v. In (Run i v) told) k s
      → (j ≡ k) × (before u s ≡ false) × (before s u ≡ false)
