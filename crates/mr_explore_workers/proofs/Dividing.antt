-- A search that gives parts away, and the workers that search them.
use Rattle.std.proofs.Common.{◌≡◌, ◌⊎◌, inl, inr, ℕ, ◌<◌, Bool, true, false, List, [], ◌∷◌, ◌++◌, length, Option, Some, None, is_some, IfSome, Result, Ok, Err, IfErr, IsErrAnd, refl, sym, ◌∙◌, ap, subst}
use Rattle.std.proofs.lemmas.Bool.{true≢false}
use Rattle.std.specs.List.{All}
use Rattle.std.proofs.lemmas.List.Elements.{All-nil, All-push}
use Rattle.mr_world_events.specs.declared.event.Event.{Event}
use Rattle.mr_explore_search.specs.Steps.{Steps}
use Rattle.mr_explore_search.specs.Laws.{In}
use Rattle.mr_explore_search.specs.Runs.{Found, Run}
use Rattle.mr_explore_search.specs.declared.ended.Ended.{Ended}
use Rattle.mr_explore_search.specs.declared.fault.WalkFault.{WalkFault}
use Rattle.mr_explore_places.specs.Going.{Stops}
use Rattle.mr_explore_places.specs.Laws.{AreThoseOf}
use Rattle.mr_explore_places.specs.State.{AnswersApart, HasFound, IsPart, State, whole}
use Rattle.mr_explore_places.specs.declared.bounds.Bounds.{Bounds}
use Rattle.mr_explore_places.specs.declared.level.Level.{Level}
use Rattle.mr_explore_places.specs.declared.part.Next.{Next}
use Rattle.mr_explore_places.specs.declared.part.Next.TheVariants as next
use Rattle.mr_explore_places.proofs.Lists.{in_either, in_left, in_right}
use Rattle.mr_explore_ends.specs.Outcomes.{Outcome}
use Rattle.mr_explore_least.specs.Table.{Table, empty}
use Rattle.mr_explore_noted.specs.Noting.{Tells, noted_run}
use Rattle.mr_explore_noted.specs.Searched.{IsOnTheWay}
use Rattle.mr_explore_noted.proofs.Going.{begins, handed_on}
use Rattle.mr_explore_noted.proofs.Telling.{told_more}
use Rattle.mr_explore_workers.specs.inner.Working.{AreDone, Divides, EachSearches, GoesApart, HasNext, HasWorked, HaveWorked, TakesNext, TakesParts, Working, is_taken, taken}
use Rattle.mr_explore_workers.proofs.Lists.{all_taken, taken_within}
use Rattle.mr_explore_workers.proofs.Sharing.{all_worked, worked_as, worked_first}

module _ {S F : Type 0} (steps : Steps S F) (rest : S → ℕ) (before : S → S → Bool) (void : S → Bool) (like : S → List F → S → List F → Type 0) (ends : S → S → Type 0) (end : S → Outcome) (events : S → List Event) where
  module _ (bounds : Bounds) (first : S) where
    abbrev Are : (parts some others : List (Level S F)) → Type 0
    Are parts some others = AreThoseOf steps rest before void like ends parts some others

    abbrev OnTheWay : (parts given : List (Level S F)) → State S F → Table → Type 0
    OnTheWay parts given s t = IsOnTheWay steps rest before void like ends end events bounds first parts given s t

    abbrev Goes-apart : (parts given : List (Level S F)) → Option (Level S F) → State S F → Table → Type 0
    Goes-apart parts given o s t = GoesApart steps rest before void like ends end events bounds first parts given o s t

    abbrev AllWorked : List (Level S F) → List (Working S F) → Type 0
    AllWorked given ws = HaveWorked steps rest before void like ends end events bounds first given ws

    -- what the search answers of each list of runs that it may have found
    abbrev pub AnsweredApart : (parts given : List (Level S F)) → State S F → Result (Option (Next S F)) WalkFault → State S F → Type 0
    AnsweredApart parts given s r new = (found : List (Found S)) → HasFound steps rest before void like ends bounds first parts given found s → AnswersApart steps rest before void like ends bounds first parts given found r new

    -- ---- the next part

    pub run_apart : (parts given : List (Level S F)) (s new : State S F) (old table : Table) (e : Ended S) → AnsweredApart parts given s (Ok (Some (next.Run e))) new → table ≡ noted_run void end events e.faults e.run old
        → OnTheWay parts given s old → OnTheWay parts given new table
    run_apart parts given s new old table e answers is h =
        let more = told_more void end events e.faults e.run h.0 old h.2 in
        (Run e.faults e.run ∷ h.0, (answers h.0 h.1).0, subst (Tells void end events (Run e.faults e.run ∷ h.0)) (sym is) more)

    pub part_apart : (parts given : List (Level S F)) (s new : State S F) (t : Table) (l : Level S F) → AnsweredApart parts given s (Ok (Some (next.Part l))) new → OnTheWay parts given s t → Goes-apart parts given (Some l) new t
    part_apart parts given s new t l answers h = let a = answers h.0 h.1 in ((h.0, a.0, h.2), a.1)

    pub none_apart : (parts given : List (Level S F)) (s new : State S F) (t : Table) → AnsweredApart parts given s (Ok None) new → OnTheWay parts given s t → Goes-apart parts given None new t
    none_apart parts given s new t answers h = let a = answers h.0 h.1 in (h.0, a.1, h.2)

    pub apart_stopped : {A : Type 0} (parts given : List (Level S F)) (x : WalkFault) (r : Result A WalkFault) (s new : State S F) (t : Table) → AnsweredApart parts given s (Err x) new → IsErrAnd r (λ y. y ≡ x)
        → OnTheWay parts given s t → IfErr r (Stops steps bounds.faults bounds.steps first)
    apart_stopped parts given x r s new t answers failed h = handed_on (Stops steps bounds.faults bounds.steps first) x r failed (answers h.0 h.1).1

    -- ---- the parts of a round

    abbrev Takes : (is_done : Bool) (given parts : List (Level S F)) → State S F → Table → Type 0
    Takes is_done given parts s t = TakesParts steps rest before void like ends end events bounds first is_done given parts s t

    -- none was taken yet
    pub none_taken : (given parts : List (Level S F)) (s : State S F) (t : Table) → parts ≡ [] → OnTheWay (whole first) given s t → Takes false given parts s t
    none_taken given parts s t none h = subst (λ (ls : List (Level S F)). Takes false given ls s t) (sym none) (record {
      all = given;
      gives = h;
      of_all = λ x i. inr i;
      parts_too = λ x i. absurd i;
      given_too = λ x i. inl i;
      are_parts = All-nil (IsPart steps bounds first);
    })

    -- one part more is taken
    pub one_taken : (given parts more : List (Level S F)) (s new : State S F) (t table : Table) (l : Level S F) → more ≡ parts ++ l ∷ []
        → ((given : List (Level S F)) → OnTheWay (whole first) given s t → Goes-apart (whole first) given (Some l) new table) → Takes false given parts s t → Takes false given more new table
    one_taken given parts more s new t table l is apart h = subst (λ (ls : List (Level S F)). Takes false given ls new table) (sym is) (record {
      all = l ∷ h.all;
      gives = (apart h.all h.gives).0;
      of_all = of-all;
      parts_too = λ x i. split x (in_either x parts (l ∷ []) i);
      given_too = λ x i. one-more x (h.given_too x i);
      are_parts = All-push (IsPart steps bounds first) parts l h.are_parts (apart h.all h.gives).1;
    }) where
      one-more : (x : Level S F) → In x h.all ⊎ In x [] → In x (l ∷ h.all) ⊎ In x []
      one-more x (inl i) = inl (inr i)
      one-more x (inr i) = absurd i

      split : (x : Level S F) → In x parts ⊎ In x (l ∷ []) → In x (l ∷ h.all) ⊎ In x []
      split x (inl i) = one-more x (h.parts_too x i)
      split x (inr (inl e)) = inl (inl e)
      split x (inr (inr i)) = absurd i

      old : (x : Level S F) → In x parts ⊎ In x given → In x (parts ++ l ∷ []) ⊎ In x given
      old x (inl i) = inl (in_left x parts (l ∷ []) i)
      old x (inr i) = inr i

      of-all : (x : Level S F) → In x (l ∷ h.all) → In x (parts ++ l ∷ []) ⊎ In x given
      of-all x (inl e) = inl (in_right x parts (l ∷ []) (inl e))
      of-all x (inr i) = old x (h.of_all x i)

    -- nothing is left, whatever the search keeps then
    pub last_taken : (given parts : List (Level S F)) (s new kept : State S F) (t table : Table) → ((given : List (Level S F)) → OnTheWay (whole first) given s t → Goes-apart (whole first) given None new table)
        → Takes false given parts s t → Takes true given parts kept table
    last_taken given parts s new kept t table apart h = record {
      all = h.all;
      gives = apart h.all h.gives;
      of_all = h.of_all;
      parts_too = h.parts_too;
      given_too = h.given_too;
      are_parts = h.are_parts;
    }

    -- as the round says
    pub as_said : (given parts told : List (Level S F)) (is_done is_last : Bool) (s : State S F) (t : Table) → told ≡ parts → is_last ≡ is_done → Takes is_done given parts s t → Takes is_last given told s t
    as_said given parts told is_done is_last s t same last h = subst (λ (b : Bool). Takes b given told s t) (sym last) (subst (λ (ls : List (Level S F)). Takes is_done given ls s t) (sym same) h)

    -- ---- rounds

    -- a search that begins, and workers that have searched nothing yet
    pub begins_divided : (s : State S F) (t : Table) (ws : List (Working S F)) → HasFound steps rest before void like ends bounds first (whole first) [] [] s → t ≡ empty → AllWorked [] ws → Divides steps rest before void like ends end events bounds first s t ws
    begins_divided s t ws h is given = ([], begins steps rest before void like ends end events bounds first s t h is, given)

    -- the same, with a leader and other workers
    pub begins_led : (begun s : State S F) (t : Table) (w : Working S F) (ws : List (Working S F)) → s ≡ begun → t ≡ empty → HasFound steps rest before void like ends bounds first (whole first) [] [] begun → HasWorked steps rest before void like ends end events bounds first [] w
        → AllWorked [] ws → Divides steps rest before void like ends end events bounds first s t (w ∷ ws)
    begins_led begun s t w ws is none h one others = begins_divided s t (w ∷ ws) (subst (λ (x : State S F). HasFound steps rest before void like ends bounds first (whole first) [] [] x) (sym is) h) none (worked_first steps rest before void like ends end events bounds first w ws one others)

    abbrev Comes : (is_last : Bool) → (parts : List (Level S F)) → State S F → Table → List (Working S F) → Type 0
    Comes is_last parts s t ws = HasNext steps rest before void like ends end events bounds first is_last parts s t ws

    abbrev Each : (parts : List (Level S F)) → List (Working S F) → List (Working S F) → Type 0
    Each parts ws vs = EachSearches steps rest before void like ends end events parts ws vs

    -- what the workers have searched behind a round, whether or not they searched all of its parts
    pub round_worked : (is_last : Bool) (parts : List (Level S F)) (s : State S F) (t : Table) (old ws : List (Working S F)) → Each parts old ws → (h : Comes is_last parts s t old) → AllWorked (taken parts ws ++ h.0) ws
    round_worked is_last parts s t old ws each h = all_worked steps rest before void like ends end events bounds first parts old ws h.0 h.1.are_parts each h.2

    -- where they searched all of them
    pub round_searched : (is_last : Bool) (parts : List (Level S F)) (s : State S F) (t : Table) (old ws : List (Working S F)) → Each parts old ws → ((place : ℕ) → place < length parts → is_taken place ws ≡ true) → (h : Comes is_last parts s t old) → AllWorked h.1.all ws
    round_searched is_last parts s t old ws each all h = worked_as steps rest before void like ends end events bounds first (taken parts ws ++ h.0) h.1.all ws (λ x i. to x (h.1.of_all x i)) (λ x i. from x (in_either x (taken parts ws) h.0 i)) (round_worked is_last parts s t old ws each h) where
      to : (x : Level S F) → In x parts ⊎ In x h.0 → In x (taken parts ws ++ h.0) ⊎ In x []
      to x (inl i) = inl (in_left x (taken parts ws) h.0 (all_taken parts ws all x i))
      to x (inr i) = inl (in_right x (taken parts ws) h.0 i)

      from : (x : Level S F) → In x (taken parts ws) ⊎ In x h.0 → In x h.1.all ⊎ In x []
      from x (inl i) = h.1.parts_too x (taken_within parts ws x i)
      from x (inr i) = h.1.given_too x i

    -- what is so of each list of parts that were given away before
    abbrev pub TakesFrom : State S F → Table → (is_last : Bool) → (parts : List (Level S F)) → State S F → Table → Type 0
    TakesFrom s t is_last parts new u = (given : List (Level S F)) → OnTheWay (whole first) given s t → Takes is_last given parts new u

    -- the first round is next
    pub first_next : (s new : State S F) (t u : Table) (ws : List (Working S F)) (is_last : Bool) (parts : List (Level S F)) → TakesFrom s t is_last parts new u → Divides steps rest before void like ends end events bounds first s t ws → Comes is_last parts new u ws
    first_next s new t u ws is_last parts takes h = (h.0, takes h.0 h.1, h.2)

    abbrev Why : WalkFault → Type 0
    Why f = Stops steps bounds.faults bounds.steps first f

    abbrev TakenNext : {X : Type 0} → (last_of : X → Bool) → (parts_of : X → List (Level S F)) → (is_last : Bool) → Result (Option X) WalkFault → State S F → Table → State S F → Table → Type 0
    TakenNext last_of parts_of is_last answer s t new u = TakesNext steps rest before void like ends end events last_of parts_of is_last answer s t new u

    -- the next round was not taken, for a reason of the definition
    pub next_stops : {X : Type 0} (last_of : X → Bool) (parts_of : X → List (Level S F)) (is_last : Bool) (parts : List (Level S F)) (s new : State S F) (t u : Table) (ws : List (Working S F)) (f : WalkFault) → TakenNext last_of parts_of is_last (Err f) s t new u → Comes is_last parts s t ws → Why f
    next_stops {X = X} last_of parts_of true parts s new t u ws f taken h = absurd (no-error (taken.none refl).0) where
      no-error : ◌≡◌ {A = Result (Option X) WalkFault} (Err f) (Ok None) → ⊥
      no-error e = cc
    next_stops last_of parts_of false parts s new t u ws f taken h = taken.stops refl bounds first h.1.all h.1.gives

    -- the next round was taken
    pub next_comes : {X : Type 0} (last_of : X → Bool) (parts_of : X → List (Level S F)) (is_last : Bool) (parts : List (Level S F)) (s new : State S F) (t u : Table) (old ws : List (Working S F)) (next : Option X) → TakenNext last_of parts_of is_last (Ok next) s t new u
        → Each parts old ws → ((place : ℕ) → place < length parts → is_taken place ws ≡ true) → Comes is_last parts s t old → IfSome next (λ x. Comes (last_of x) (parts_of x) new u ws)
    next_comes last_of parts_of is_last parts s new t u old ws None taken each all h = tt
    next_comes {X = X} last_of parts_of true parts s new t u old ws (Some x) taken each all h = absurd (no-round (taken.none refl).0) where
      no-round : ◌≡◌ {A = Result (Option X) WalkFault} (Ok (Some x)) (Ok None) → ⊥
      no-round e = cc
    next_comes last_of parts_of false parts s new t u old ws (Some x) taken each all h = (h.1.all, taken.takes refl bounds first h.1.all h.1.gives, round_searched false parts s t old ws each all h)

    -- the last round was searched
    pub all_done : {X : Type 0} (last_of : X → Bool) (parts_of : X → List (Level S F)) (is_last : Bool) (parts : List (Level S F)) (s new : State S F) (t u : Table) (old ws : List (Working S F)) (next : Option X) → TakenNext last_of parts_of is_last (Ok next) s t new u
        → Each parts old ws → ((place : ℕ) → place < length parts → is_taken place ws ≡ true) → Comes is_last parts s t old → next ≡ None → AreDone steps rest before void like ends end events bounds first u ws
    all_done last_of parts_of true parts s new t u old ws next taken each all h e = subst (λ (v : Table). AreDone steps rest before void like ends end events bounds first v ws) (sym (taken.none refl).1) (h.1.all, h.1.gives, round_searched true parts s t old ws each all h)
    all_done last_of parts_of false parts s new t u old ws next taken each all h e = absurd (true≢false (sym (taken.some refl) ∙ ap is_some e))

  -- ---- what is taken beside a round that is not the last

  -- the next one
  pub next_taken : {X : Type 0} (last_of : X → Bool) (parts_of : X → List (Level S F)) (is_last : Bool) (x : X) (s new : State S F) (t u : Table) → is_last ≡ false
      → ((bounds : Bounds) (first : S) (given : List (Level S F)) → IsOnTheWay steps rest before void like ends end events bounds first (whole first) given s t → TakesParts steps rest before void like ends end events bounds first (last_of x) given (parts_of x) new u)
      → TakesNext steps rest before void like ends end events last_of parts_of is_last (Ok (Some x)) s t new u
  next_taken last_of parts_of is_last x s new t u more takes = record {
    none = λ last. absurd (true≢false (sym last ∙ more));
    some = λ e. refl;
    takes = λ e. takes;
    stops = λ e bounds first given h. tt;
  }

  -- none, for a reason of the definition
  pub none_taken_next : {X : Type 0} (last_of : X → Bool) (parts_of : X → List (Level S F)) (is_last : Bool) (f : WalkFault) (r : Result (Option X) WalkFault) (s new : State S F) (t u : Table) → is_last ≡ false → IsErrAnd r (λ y. y ≡ f)
      → ((bounds : Bounds) (first : S) (given : List (Level S F)) → IsOnTheWay steps rest before void like ends end events bounds first (whole first) given s t → Stops steps bounds.faults bounds.steps first f)
      → TakesNext steps rest before void like ends end events last_of parts_of is_last r s t new u
  none_taken_next last_of parts_of is_last f (Ok v) s new t u more failed why = absurd failed
  none_taken_next last_of parts_of is_last f (Err y) s new t u more failed why = record {
    none = λ last. absurd (true≢false (sym last ∙ more));
    some = λ e. tt;
    takes = λ e bounds first given h. tt;
    stops = λ e bounds first given h. subst (Stops steps bounds.faults bounds.steps first) (sym failed) (why bounds first given h);
  }

  -- ---- of each content that was held before

  -- these parts were taken so far
  abbrev pub TakesSoFar : State S F → Table → (parts : List (Level S F)) → State S F → Table → Type 0
  TakesSoFar s t parts new u = (bounds : Bounds) (first : S) (given : List (Level S F)) → IsOnTheWay steps rest before void like ends end events bounds first (whole first) given s t
      → TakesParts steps rest before void like ends end events bounds first false given parts new u
