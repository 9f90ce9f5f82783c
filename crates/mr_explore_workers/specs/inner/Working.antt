-- What workers have searched of the parts that a search gave away (our own profile).
use Rattle.std.specs.Prelude.{◌≡◌, ◌++◌, ℕ, Bool, true, false, nat_eq, List, [], ◌∷◌, Option, Some, None, is_some, IfSome, Result, Ok, IfOk, IfErr, slice_get}
use Rattle.std.specs.List.{All, list_any}
use Rattle.std.specs.Option.{option_to_list}
use Rattle.mr_world_events.specs.declared.event.Event.{Event}
use Rattle.mr_explore_search.specs.Steps.{Steps}
use Rattle.mr_explore_search.specs.declared.fault.WalkFault.{WalkFault}
use Rattle.mr_explore_places.specs.Going.{Stops}
use Rattle.mr_explore_places.specs.Laws.{AreThoseOf}
use Rattle.mr_explore_places.specs.State.{IsPart, State, whole}
use Rattle.mr_explore_places.specs.declared.bounds.Bounds.{Bounds}
use Rattle.mr_explore_places.specs.declared.level.Level.{Level}
use Rattle.mr_explore_ends.specs.Outcomes.{Outcome}
use Rattle.mr_explore_least.specs.Table.{Table}
use Rattle.mr_explore_noted.specs.Searched.{HasAll, HasSearched, IsOnTheWay}

-- a worker: its search, the table of the runs that it found, at which places the parts of the last round stand that it searched, and why it has stopped, if it has
pub record Working (S F : Type 0) : Type 0 where
  pub search : State S F
  pub table : Table
  pub took : List ℕ
  pub fault : Option WalkFault

-- those of these parts that stand at these places
abbrev pub parts_at : {S F : Type 0} → List (Level S F) → List ℕ → List (Level S F)
parts_at parts [] = []
parts_at parts (place ∷ places) = option_to_list (slice_get parts place) ++ parts_at parts places

-- those of these parts that the workers searched
abbrev pub taken : {S F : Type 0} → List (Level S F) → List (Working S F) → List (Level S F)
taken parts [] = []
taken parts (w ∷ ws) = parts_at parts w.took ++ taken parts ws

-- it searched the part at this place; one of the workers did
abbrev pub has_taken : {S F : Type 0} → ℕ → Working S F → Bool
has_taken place w = list_any (λ took. nat_eq took place) w.took

abbrev pub is_taken : {S F : Type 0} → ℕ → List (Working S F) → Bool
is_taken place ws = list_any (has_taken place) ws

module _ {S F : Type 0} (steps : Steps S F) (rest : S → ℕ) (before : S → S → Bool) (void : S → Bool) (like : S → List F → S → List F → Type 0) (ends : S → S → Type 0) (end : S → Outcome) (events : S → List Event) where
  -- these parts of the search were searched
  pub record HasDone (bounds : Bounds) (first : S) (mine : List (Level S F)) (s : State S F) (t : Table) : Type 0 where
    pub done : List (Level S F)
    pub shared : AreThoseOf steps rest before void like ends mine done []
    pub only : AreThoseOf steps rest before void like ends done mine []
    pub searched : HasSearched steps rest before void like ends end events bounds first done [] s t

  -- the same; or it has stopped, for a reason of the definition
  abbrev pub HasDoneOrStops : Option WalkFault → Bounds → (first : S) → (mine : List (Level S F)) → State S F → Table → Type 0
  HasDoneOrStops None bounds first mine s t = HasDone bounds first mine s t
  HasDoneOrStops (Some f) bounds first mine s t = Stops steps bounds.faults bounds.steps first f

  -- a worker has searched these parts, or has stopped
  abbrev pub HasWorked : Bounds → (first : S) → (mine : List (Level S F)) → Working S F → Type 0
  HasWorked bounds first mine w = HasDoneOrStops w.fault bounds first mine w.search w.table

  -- a worker has searched besides those of these parts that stand at the places that it tells
  abbrev pub Searches : (parts : List (Level S F)) → Working S F → Working S F → Type 0
  Searches parts w v = (bounds : Bounds) (first : S) (mine : List (Level S F)) → All (IsPart steps bounds first) parts → HasWorked bounds first mine w → HasWorked bounds first (parts_at parts v.took ++ mine) v

  -- each of them has
  abbrev pub EachSearches : (parts : List (Level S F)) → List (Working S F) → List (Working S F) → Type 0
  EachSearches parts [] vs = vs ≡ []
  EachSearches parts (w ∷ ws) [] = ⊥
  EachSearches parts (w ∷ ws) (v ∷ vs) = Searches parts w v × EachSearches parts ws vs

  -- one of the workers has searched each of these parts, or has stopped
  abbrev pub HaveWorked : Bounds → (first : S) → (given : List (Level S F)) → List (Working S F) → Type 0
  HaveWorked bounds first given [] = given ≡ []
  HaveWorked bounds first given (w ∷ ws) = (mine others : List (Level S F)) × AreThoseOf steps rest before void like ends given mine others × AreThoseOf steps rest before void like ends others given [] × HasWorked bounds first mine w × HaveWorked bounds first others ws × AreThoseOf steps rest before void like ends mine given []

  -- ---- with the search that gives parts away

  -- these were given away, and it is on its way; or nothing is left to be given, and all else is found
  abbrev pub Gives : Bounds → (first : S) → (is_done : Bool) → (given : List (Level S F)) → State S F → Table → Type 0
  Gives bounds first false given s t = IsOnTheWay steps rest before void like ends end events bounds first (whole first) given s t
  Gives bounds first true given s t = HasAll steps rest before void like ends end events bounds first (whole first) given t

  -- the search is on its way, and the workers have searched what it gave away
  abbrev pub Divides : Bounds → (first : S) → State S F → Table → List (Working S F) → Type 0
  Divides bounds first s t ws = (given : List (Level S F)) × IsOnTheWay steps rest before void like ends end events bounds first (whole first) given s t × HaveWorked bounds first given ws

  -- all is found but for what the workers have searched
  abbrev pub AreDone : Bounds → (first : S) → Table → List (Working S F) → Type 0
  AreDone bounds first t ws = (given : List (Level S F)) × HasAll steps rest before void like ends end events bounds first (whole first) given t × HaveWorked bounds first given ws

  -- the next part is given away; or there is none, and all else is found
  abbrev pub GoesApart : Bounds → (first : S) → (parts given : List (Level S F)) → Option (Level S F) → State S F → Table → Type 0
  GoesApart bounds first parts given (Some l) s t = IsOnTheWay steps rest before void like ends end events bounds first parts (l ∷ given) s t × IsPart steps bounds first l
  GoesApart bounds first parts given None s t = HasAll steps rest before void like ends end events bounds first parts given t

  -- These parts were given away behind those that were given before.
  pub record TakesParts (bounds : Bounds) (first : S) (is_done : Bool) (given parts : List (Level S F)) (s : State S F) (t : Table) : Type 0 where
    pub all : List (Level S F)
    pub gives : Gives bounds first is_done all s t
    pub of_all : AreThoseOf steps rest before void like ends all parts given
    pub parts_too : AreThoseOf steps rest before void like ends parts all []
    pub given_too : AreThoseOf steps rest before void like ends given all []
    pub are_parts : All (IsPart steps bounds first) parts

  -- What is answered beside a round: the next one, whose end and parts these functions tell; behind the last one none, and the table is the same.
  pub record TakesNext {X : Type 0} (last_of : X → Bool) (parts_of : X → List (Level S F)) (is_last : Bool) (answer : Result (Option X) WalkFault) (s : State S F) (t : Table) (new : State S F) (u : Table) : Type 0 where
    pub none : is_last ≡ true → (answer ≡ Ok None) × (u ≡ t)
    pub some : is_last ≡ false → IfOk answer (λ next. is_some next ≡ true)
    pub takes : is_last ≡ false → (bounds : Bounds) (first : S) (given : List (Level S F)) → IsOnTheWay steps rest before void like ends end events bounds first (whole first) given s t
        → IfOk answer (λ next. IfSome next (λ x. TakesParts bounds first (last_of x) given (parts_of x) new u))
    pub stops : is_last ≡ false → (bounds : Bounds) (first : S) (given : List (Level S F)) → IsOnTheWay steps rest before void like ends end events bounds first (whole first) given s t → IfErr answer (Stops steps bounds.faults bounds.steps first)

  -- These parts were given away last; the workers have searched all that were given away before.
  abbrev pub HasNext : Bounds → (first : S) → (is_last : Bool) → (parts : List (Level S F)) → State S F → Table → List (Working S F) → Type 0
  HasNext bounds first is_last parts s t ws = (given : List (Level S F)) × TakesParts bounds first is_last given parts s t × HaveWorked bounds first given ws
