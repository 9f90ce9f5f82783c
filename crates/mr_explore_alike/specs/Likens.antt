-- When two runs of a walk go on alike: whatever comes of one comes of the other (our own profile).
use Rattle.std.specs.Prelude.{◌≡◌, ◌<◌, ℕ, Bool, true, false, List, ◌++◌, length, remove, slice_get, Some, None, option_to_list}
use Rattle.mr_explore_search.specs.Steps.{Goes, Ends, Steps}
use Rattle.mr_explore_search.specs.Runs.{Found, Run, PassesLimit}
use Rattle.mr_explore_search.specs.Laws.{Departs, In}

-- Of a run: how many steps it makes by itself at most, and whether it is void: a limit forbids its last fault. Of two: whether the script of the first comes before that of
-- the second; with what was put off in each, whether they go on alike; and whether they came to one end.
module _ {S F : Type 0} (steps : Steps S F) (rest : S → ℕ) (before : S → S → Bool) (void : S → Bool) (like : S → List F → S → List F → Type 0) (ends : S → S → Type 0) where
  -- t's script, where it comes before s's, comes before it behind what comes of both
  abbrev pub StaysBefore : (s t s' t' : S) → Type 0
  StaysBefore s t s' t' = before t s ≡ true → before t' s' ≡ true

  -- s makes a step to s', and so does t, to a run that is like s'. Both have fewer steps left.
  pub record GoesToo (s s' : S) (o : List F) (t : S) (p : List F) : Type 0 where
    pub there : S
    pub goes : steps.onward t ≡ Goes there
    pub still : like s' o there p
    pub fewer : rest s' < rest s
    pub fewer_there : rest there < rest t
    pub stays_before : StaysBefore s t s' there

  -- s has ended as s', and t has ended too
  pub record EndsToo (s s' t : S) : Type 0 where
    pub there : S
    pub stops : steps.onward t ≡ Ends there
    pub one : ends s' there
    pub stays_before : StaysBefore s t s' there

  -- a fault made s' of s, and one that may befall t makes a run of t that is like s'
  pub record BefallsToo (most : ℕ) (s s' : S) (o : List F) (t : S) (p : List F) : Type 0 where
    pub fault : F
    pub may : In fault (steps.faults t)
    pub there : S
    pub befalls : steps.befallen fault t ≡ Some there
    pub still : like s' o there (p ++ option_to_list (steps.later fault))
    pub few : rest s' < most
    pub few_there : rest there < most
    pub stays_before : StaysBefore s t s' there

  -- what was put off at this place made s' of s, and what was put off at this place in t makes a run of t that is like s'
  pub record ComesToo (most : ℕ) (s s' : S) (o : List F) (place : ℕ) (t : S) (p : List F) : Type 0 where
    pub fault : F
    pub owed : slice_get p place ≡ Some fault
    pub there : S
    pub befalls : steps.befallen fault t ≡ Some there
    pub still : like s' o there (remove p place)
    pub few : rest s' < most
    pub few_there : rest there < most
    pub stays_before : StaysBefore s t s' there

  -- Of any two that are alike: as much was put off in both, and whatever comes of the one comes of the other, void runs left out. Nothing comes of a void run. What is like
  -- another run is like itself. Scripts are in an order.
  pub record Likens (most : ℕ) : Type 0 where
    pub in_order : (s t u : S) → before s t ≡ true → before t u ≡ true → before s u ≡ true
    pub owed : (s t : S) (o p : List F) → like s o t p → length o ≡ length p
    pub not_void : (s t : S) (o p : List F) → like s o t p → void s ≡ false → void t ≡ false
    pub nothing : (s : S) → void s ≡ true → (steps.onward s ≡ Ends s) × ((f : F) → steps.befallen f s ≡ None)
    pub itself : (s t : S) (o p : List F) → like s o t p → like s o s o
    pub through : (s t u : S) (o p q : List F) → like s o t p → like t p u q → like s o u q
    pub goes : (s t s' : S) (o p : List F) → like s o t p → steps.onward s ≡ Goes s' → GoesToo s s' o t p
    pub stops : (s t s' : S) (o p : List F) → like s o t p → steps.onward s ≡ Ends s' → EndsToo s s' t
    pub befalls : (s t s' : S) (o p : List F) (f : F) → like s o t p → In f (steps.faults s) → steps.befallen f s ≡ Some s' → void s' ≡ false → BefallsToo most s s' (o ++ option_to_list (steps.later f)) t p
    pub comes : (s t s' : S) (o p : List F) (place : ℕ) (f : F) → like s o t p → slice_get o place ≡ Some f → steps.befallen f s ≡ Some s' → void s' ≡ false → ComesToo most s s' (remove o place) place t p

  -- an end that comes of the one comes of the other; that a run is void, or would pass a limit, need not
  abbrev pub Covers : (most total n ripe left : ℕ) → List F → S → Found S → Type 0
  Covers most total n ripe left p t (Run k s) = void s ≡ false → (u : S) × Departs steps most total n ripe left p t (Run total u) × ends s u
  Covers most total n ripe left p t PassesLimit = Unit {0}

  -- The two may have had other numbers of faults before, and have other numbers of steps left.
  abbrev pub AlikeDepartAlike : Type 0
  AlikeDepartAlike = (most total other n ripe left there : ℕ) (o p : List F) (s t : S) (r : Found S) → Likens most → like s o t p → rest s < left → rest t < there
      → Departs steps most total n ripe left o s r → Covers most other n ripe there p t r
