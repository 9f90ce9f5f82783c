-- What workers have searched, and what all of them have.
use Rattle.std.proofs.Common.{◌≡◌, ◌⊎◌, inl, inr, ℕ, zero, suc, ◌<◌, Bool, true, false, List, [], ◌∷◌, ◌++◌, length, get_or, Option, Some, None, is_some, slice_get, refl, sym, subst, arith}
use Rattle.std.specs.List.{All}
use Rattle.mr_world_events.specs.declared.event.Event.{Event}
use Rattle.mr_explore_search.specs.Steps.{Steps}
use Rattle.mr_explore_search.specs.Runs.{Found}
use Rattle.mr_explore_search.specs.Laws.{In}
use Rattle.mr_explore_search.specs.declared.fault.WalkFault.{WalkFault}
use Rattle.mr_explore_places.specs.Going.{Stops}
use Rattle.mr_explore_places.specs.Laws.{AreThoseOf}
use Rattle.mr_explore_places.specs.State.{HasFound, IsDone, IsPart, State, whole}
use Rattle.mr_explore_places.specs.declared.bounds.Bounds.{Bounds}
use Rattle.mr_explore_places.specs.declared.level.Level.{Level}
use Rattle.mr_explore_places.proofs.Lists.{in_either, in_left, in_right}
use Rattle.mr_explore_ends.specs.Outcomes.{Outcome}
use Rattle.mr_explore_least.specs.Laws.{EachHasOneEnd}
use Rattle.mr_explore_least.specs.Table.{Table, empty, joined}
use Rattle.mr_explore_noted.specs.Noting.{CameBy, Tells}
use Rattle.mr_explore_noted.specs.Searched.{HasAll, HasSearched}
use Rattle.mr_explore_noted.specs.Laws.{JoinedHasAll}
use Rattle.mr_explore_noted.proofs.Lists.{true_and_false}
use Rattle.mr_explore_noted.proofs.Telling.{tells_none}
use Rattle.mr_explore_workers.specs.inner.Working.{AreDone, Divides, EachSearches, HasDone, HasDoneOrStops, HasNext, HasWorked, HaveWorked, Searches, Working, parts_at, taken}
use Rattle.mr_explore_workers.proofs.Lists.{all_at, one_more, one_of_more}

pub not_stopped : (f : Option WalkFault) → is_some f ≡ false → f ≡ None
not_stopped None e = refl
not_stopped (Some f) e = absurd (true_and_false {b = true} refl e)

pub has_stopped : (f : Option WalkFault) → is_some f ≡ true → (g : WalkFault) × (f ≡ Some g)
has_stopped None e = absurd (true_and_false {b = false} e refl)
has_stopped (Some f) e = (f, refl)

module _ {S F : Type 0} (steps : Steps S F) (rest : S → ℕ) (before : S → S → Bool) (void : S → Bool) (like : S → List F → S → List F → Type 0) (ends : S → S → Type 0) (end : S → Outcome) (events : S → List Event) where
  module _ (bounds : Bounds) (first : S) where
    abbrev Are : (parts some others : List (Level S F)) → Type 0
    Are parts some others = AreThoseOf steps rest before void like ends parts some others

    abbrev Searched : List (Level S F) → State S F → Table → Type 0
    Searched done s t = HasSearched steps rest before void like ends end events bounds first done [] s t

    abbrev Done : (mine : List (Level S F)) → State S F → Table → Type 0
    Done mine s t = HasDone steps rest before void like ends end events bounds first mine s t

    abbrev DoneOrStops : Option WalkFault → (mine : List (Level S F)) → State S F → Table → Type 0
    DoneOrStops f mine s t = HasDoneOrStops steps rest before void like ends end events f bounds first mine s t

    abbrev Worked : List (Level S F) → Working S F → Type 0
    Worked mine w = HasWorked steps rest before void like ends end events bounds first mine w

    abbrev AllWorked : List (Level S F) → List (Working S F) → Type 0
    AllWorked given ws = HaveWorked steps rest before void like ends end events bounds first given ws

    abbrev Part : Level S F → Type 0
    Part l = IsPart steps bounds first l

    abbrev Why : WalkFault → Type 0
    Why f = Stops steps bounds.faults bounds.steps first f

    -- ---- one worker

    nothing-done : IsDone steps rest before void like ends bounds first [] [] []
    nothing-done = (
      [],
      [],
      record {
        on_way = λ x i. absurd i;
        go_on = λ g i. absurd i;
        runs = λ r i. absurd i;
        trodden = λ x i. absurd i;
        began = λ x i v. absurd i;
        goes = λ h t i w. absurd i;
        ended = λ h t i w. absurd i;
        befalls = λ h x i j v. absurd i;
        comes = λ h x i j v. absurd i;
      },
      λ x i. absurd i,
    )

    -- it has searched nothing yet
    pub none_done : (s : State S F) (t : Table) → HasFound steps rest before void like ends bounds first [] [] [] s → t ≡ empty → Done [] s t
    none_done s t h is = record {
      done = [];
      shared = λ l i. absurd i;
      only = λ l i. absurd i;
      searched = ([], h, nothing-done, subst (Tells void end events []) (sym is) (tells_none void end events));
    }

    -- one part more is searched, the one at this place
    pub part_searched : (parts mine : List (Level S F)) (took more : List ℕ) (place : ℕ) (s new : State S F) (t u : Table) (l : Level S F) → All Part parts → more ≡ took ++ place ∷ [] → slice_get parts place ≡ Some l
        → ((done : List (Level S F)) → Searched done s t → Part l → Searched (l ∷ done) new u) → Done (parts_at parts took ++ mine) s t → Done (parts_at parts more ++ mine) new u
    part_searched parts mine took more place s new t u l all is at search h = record {
      done = l ∷ h.done;
      shared = λ x i. split x (in_either x (parts_at parts more) mine i);
      only = only;
      searched = search h.done h.searched (all_at Part parts place l at all);
    } where
      still : (x : Level S F) → In x (parts_at parts took) ⊎ In x mine → In x (parts_at parts more ++ mine) ⊎ In x []
      still x (inl i) = inl (in_left x (parts_at parts more) mine (one_of_more parts took more place l x is at (inr i)))
      still x (inr i) = inl (in_right x (parts_at parts more) mine i)

      as-before : (x : Level S F) → In x (parts_at parts took ++ mine) ⊎ In x [] → In x (parts_at parts more ++ mine) ⊎ In x []
      as-before x (inl i) = still x (in_either x (parts_at parts took) mine i)
      as-before x (inr i) = absurd i

      only : (x : Level S F) → In x (l ∷ h.done) → In x (parts_at parts more ++ mine) ⊎ In x []
      only x (inl e) = inl (in_left x (parts_at parts more) mine (one_of_more parts took more place l x is at (inl e)))
      only x (inr i) = as-before x (h.only x i)

      old : (x : Level S F) → In x h.done ⊎ In x [] → In x (l ∷ h.done) ⊎ In x []
      old x (inl i) = inl (inr i)
      old x (inr i) = absurd i

      new-or-old : (x : Level S F) → (l ≡ x) ⊎ In x (parts_at parts took) → In x (l ∷ h.done) ⊎ In x []
      new-or-old x (inl e) = inl (inl e)
      new-or-old x (inr i) = old x (h.shared x (in_left x (parts_at parts took) mine i))

      split : (x : Level S F) → In x (parts_at parts more) ⊎ In x mine → In x (l ∷ h.done) ⊎ In x []
      split x (inl i) = new-or-old x (one_more parts took more place l x is at i)
      split x (inr i) = old x (h.shared x (in_right x (parts_at parts took) mine i))

    -- why it stops: it could not search a part
    pub part_stops : (parts mine : List (Level S F)) (place : ℕ) (s : State S F) (t : Table) (l : Level S F) (f : WalkFault) → All Part parts → slice_get parts place ≡ Some l
        → ((done : List (Level S F)) → Searched done s t → Part l → Why f) → Done mine s t → Why f
    part_stops parts mine place s t l f all at why h = why h.done h.searched (all_at Part parts place l at all)

    pub done_if : (f : Option WalkFault) (mine : List (Level S F)) (s : State S F) (t : Table) → f ≡ None → DoneOrStops f mine s t → Done mine s t
    done_if None mine s t e h = h
    done_if (Some f) mine s t e h = cc

    pub stops_if : (f : Option WalkFault) (mine : List (Level S F)) (s : State S F) (t : Table) (g : WalkFault) → f ≡ Some g → DoneOrStops f mine s t → Why g
    stops_if None mine s t g e h = cc
    stops_if (Some f) mine s t g e h = subst Why (same-fault f g e) h where
      same-fault : (x y : WalkFault) → ◌≡◌ {A = Option WalkFault} (Some x) (Some y) → x ≡ y
      same-fault x y q = cc

    pub worked_done : (mine : List (Level S F)) (w : Working S F) → w.fault ≡ None → Worked mine w → Done mine w.search w.table
    worked_done mine w e h = done_if w.fault mine w.search w.table e h

    pub worked_stops : (mine : List (Level S F)) (w : Working S F) (f : WalkFault) → w.fault ≡ Some f → Worked mine w → Why f
    worked_stops mine w f e h = stops_if w.fault mine w.search w.table f e h

    -- one that has stopped is as if it had searched anything
    pub stopped_worked : (mine more : List (Level S F)) (w : Working S F) (f : WalkFault) → w.fault ≡ Some f → Worked mine w → Worked more w
    stopped_worked mine more w f e h = subst (λ (o : Option WalkFault). DoneOrStops o more w.search w.table) (sym e) (worked_stops mine w f e h)

    forgotten-or-stops : (f : Option WalkFault) (mine : List (Level S F)) (s new : State S F) (t : Table)
        → ((parts : List (Level S F)) (found : List (Found S)) → HasFound steps rest before void like ends bounds first parts [] found s → HasFound steps rest before void like ends bounds first parts [] found new)
        → DoneOrStops f mine s t → DoneOrStops f mine new t
    forgotten-or-stops None mine s new t keeps h = record {
      done = h.done;
      shared = h.shared;
      only = h.only;
      searched = (h.searched.0, keeps h.done h.searched.0 h.searched.1, h.searched.2, h.searched.3);
    }
    forgotten-or-stops (Some f) mine s new t keeps h = h

    -- its search keeps no place any more
    pub places_forgotten : (mine : List (Level S F)) (w : Working S F) (new : State S F)
        → ((parts : List (Level S F)) (found : List (Found S)) → HasFound steps rest before void like ends bounds first parts [] found w.search → HasFound steps rest before void like ends bounds first parts [] found new)
        → Worked mine w → Worked mine (record w { search = new })
    places_forgotten mine w new keeps h = forgotten-or-stops w.fault mine w.search new w.table keeps h

    -- ---- all workers

    -- a worker more, which has searched nothing
    pub worked_push : (ws : List (Working S F)) (w : Working S F) → Worked [] w → AllWorked [] ws → AllWorked [] (ws ++ w ∷ [])
    worked_push ws w g h = push ws [] h where
      push : (vs : List (Working S F)) (given : List (Level S F)) → AllWorked given vs → AllWorked given (vs ++ w ∷ [])
      push [] given e = ([], [], (λ l i. absurd (subst (In l) e i)), (λ l i. absurd i), g, refl, λ l i. absurd i)
      push (v ∷ vs) given k = (k.0, k.1, k.2, k.3, k.4, push vs k.1 k.5, k.6)

    -- no worker has searched anything
    pub none_yet : (ws : List (Working S F)) → ws ≡ [] → AllWorked [] ws
    none_yet ws e = subst (AllWorked []) (sym e) refl

    -- one worker before them, which has searched nothing
    pub worked_first : (w : Working S F) (ws : List (Working S F)) → Worked [] w → AllWorked [] ws → AllWorked [] (w ∷ ws)
    worked_first w ws g h = ([], [], (λ l i. absurd i), (λ l i. absurd i), g, h, λ l i. absurd i)

    more-taken : (mine others given some more : List (Level S F)) → Are given mine others → Are ((some ++ more) ++ given) (some ++ mine) (more ++ others)
    more-taken mine others given some more f x i = by (in_either x (some ++ more) given i) where
      of-new : In x some ⊎ In x more → In x (some ++ mine) ⊎ In x (more ++ others)
      of-new (inl j) = inl (in_left x some mine j)
      of-new (inr j) = inr (in_left x more others j)

      of-old : In x mine ⊎ In x others → In x (some ++ mine) ⊎ In x (more ++ others)
      of-old (inl j) = inl (in_right x some mine j)
      of-old (inr j) = inr (in_right x more others j)

      by : In x (some ++ more) ⊎ In x given → In x (some ++ mine) ⊎ In x (more ++ others)
      by (inl j) = of-new (in_either x some more j)
      by (inr j) = of-old (f x j)

    others-taken : (others given some more : List (Level S F)) → Are others given [] → Are (more ++ others) ((some ++ more) ++ given) []
    others-taken others given some more f x i = by (in_either x more others i) where
      of-old : In x given ⊎ In x [] → In x ((some ++ more) ++ given) ⊎ In x []
      of-old (inl j) = inl (in_right x (some ++ more) given j)
      of-old (inr j) = absurd j

      by : In x more ⊎ In x others → In x ((some ++ more) ++ given) ⊎ In x []
      by (inl j) = inl (in_left x (some ++ more) given (in_right x some more j))
      by (inr j) = of-old (f x j)

    mine-taken : (mine given some more : List (Level S F)) → Are mine given [] → Are (some ++ mine) ((some ++ more) ++ given) []
    mine-taken mine given some more f x i = by (in_either x some mine i) where
      of-old : In x given ⊎ In x [] → In x ((some ++ more) ++ given) ⊎ In x []
      of-old (inl j) = inl (in_right x (some ++ more) given j)
      of-old (inr j) = absurd j

      by : In x some ⊎ In x mine → In x ((some ++ more) ++ given) ⊎ In x []
      by (inl j) = inl (in_left x (some ++ more) given (in_left x some more j))
      by (inr j) = of-old (f x j)

    -- behind a round, in which each of them searched some of these parts
    pub all_worked : (parts : List (Level S F)) (ws new : List (Working S F)) (given : List (Level S F)) → All Part parts → EachSearches steps rest before void like ends end events parts ws new → AllWorked given ws → AllWorked (taken parts new ++ given) new
    all_worked parts [] new given are each h = subst (λ (vs : List (Working S F)). AllWorked (taken parts vs ++ given) vs) (sym each) h
    all_worked parts (w ∷ ws) [] given are each h = absurd each
    all_worked parts (w ∷ ws) (v ∷ new) given are each h = (
      parts_at parts v.took ++ h.0,
      taken parts new ++ h.1,
      more-taken h.0 h.1 given (parts_at parts v.took) (taken parts new) h.2,
      others-taken h.1 given (parts_at parts v.took) (taken parts new) h.3,
      each.0 bounds first h.0 are h.4,
      all_worked parts ws new h.1 are each.1 h.5,
      mine-taken h.0 given (parts_at parts v.took) (taken parts new) h.6,
    )

    -- of as many parts
    pub worked_as : (some others : List (Level S F)) (ws : List (Working S F)) → Are others some [] → Are some others [] → AllWorked some ws → AllWorked others ws
    worked_as some others [] f g h = none others f where
      none : (ls : List (Level S F)) → Are ls some [] → ls ≡ []
      none [] k = refl
      none (l ∷ ls) k = absurd (by (k l (inl refl))) where
        by : In l some ⊎ In l [] → ⊥
        by (inl i) = subst (In l) h i
        by (inr i) = i
    worked_as some others (w ∷ ws) f g h = (h.0, h.1, (λ x i. to x (f x i)), (λ x i. from x (h.3 x i)), h.4, h.5, λ x i. from x (h.6 x i)) where
      to : (x : Level S F) → In x some ⊎ In x [] → In x h.0 ⊎ In x h.1
      to x (inl i) = h.2 x i
      to x (inr i) = absurd i

      from : (x : Level S F) → In x some ⊎ In x [] → In x others ⊎ In x []
      from x (inl i) = g x i
      from x (inr i) = absurd i

    -- each of them has searched something
    worked-one : (ws : List (Working S F)) (i : ℕ) (d : Working S F) (given : List (Level S F)) → i < length ws → AllWorked given ws → (mine : List (Level S F)) × Worked mine (get_or ws i d)
    worked-one [] i d given few h = absurd (omega arith)
    worked-one (w ∷ ws) zero d given few h = (h.0, h.4)
    worked-one (w ∷ ws) (suc i) d given few h = worked-one ws i d h.1 (omega arith) h.5

    -- why one of them has stopped
    pub one_stops : (ws : List (Working S F)) (i : ℕ) (w : Working S F) (given : List (Level S F)) (f : WalkFault) → i < length ws → w ≡ get_or ws i w → w.fault ≡ Some f → AllWorked given ws → Why f
    one_stops ws i w given f few is e h = let one = worked-one ws i w given few h in worked_stops one.0 w f e (subst (Worked one.0) (sym is) one.1)

    -- the first of them, and the others
    pub first_worked : (given : List (Level S F)) (old ws : List (Working S F)) (w : Working S F) → old ≡ w ∷ ws → AllWorked given old → (mine others : List (Level S F)) × Worked mine w × AllWorked others ws
    first_worked given old ws w e h = by (subst (AllWorked given) e h) where
      by : AllWorked given (w ∷ ws) → (mine others : List (Level S F)) × Worked mine w × AllWorked others ws
      by k = (k.0, k.1, k.4, k.5)

    -- ---- their tables

    abbrev AllDone : Table → List (Working S F) → Type 0
    AllDone t ws = AreDone steps rest before void like ends end events bounds first t ws

    one-joined : JoinedHasAll steps rest before void like ends end events → EachHasOneEnd (CameBy void end events steps bounds first) → (t : Table) (w : Working S F) (ws : List (Working S F)) → w.fault ≡ None → AllDone t (w ∷ ws) → AllDone (joined t w.table) ws
    one-joined law one t w ws e h =
        let d = worked_done h.2.0 w e h.2.4 in
        let u : HasAll steps rest before void like ends end events bounds first d.done [] w.table = (d.searched.0, d.searched.2, d.searched.3) in
        (h.2.1, law bounds first (whole first) h.0 d.done h.2.1 t w.table one (λ l i. by h.2.0 h.2.1 d.done d.shared l (h.2.2 l i)) h.2.3 (λ l i. through h.2.0 h.0 h.2.6 l (d.only l i)) h.1 u, h.2.5) where
          through : (mine given : List (Level S F)) → Are mine given [] → (l : Level S F) → In l mine ⊎ In l [] → In l given ⊎ In l []
          through mine given f l (inl i) = f l i
          through mine given f l (inr i) = absurd i

          by : (mine others done : List (Level S F)) → Are mine done [] → (l : Level S F) → In l mine ⊎ In l others → In l done ⊎ In l others
          by mine others done f l (inl i) = of-mine (f l i) where
            of-mine : In l done ⊎ In l [] → In l done ⊎ In l others
            of-mine (inl j) = inl j
            of-mine (inr j) = absurd j
          by mine others done f l (inr i) = inr i

    -- the table of the first of them is joined
    pub first_joined : JoinedHasAll steps rest before void like ends end events → EachHasOneEnd (CameBy void end events steps bounds first) → (t u : Table) (old ws : List (Working S F)) (w : Working S F) → old ≡ w ∷ ws → w.fault ≡ None → u ≡ joined t w.table
        → AllDone t old → AllDone u ws
    first_joined law one t u old ws w list none is h = subst (λ (v : Table). AllDone v ws) (sym is) (one-joined law one t w ws none (subst (AllDone t) list h))

    -- no worker is left
    pub all_joined : (t : Table) → AllDone t [] → HasAll steps rest before void like ends end events bounds first (whole first) [] t
    all_joined t h = subst (λ (given : List (Level S F)). HasAll steps rest before void like ends end events bounds first (whole first) given t) h.2 h.1

  -- ---- each of some workers has searched

  -- what each of them does, by its place
  pub each_searches : (parts : List (Level S F)) (ws vs : List (Working S F)) → length ws ≡ length vs
      → ((i : ℕ) (d : Working S F) → i < length ws → Searches steps rest before void like ends end events parts (get_or ws i d) (get_or vs i d)) → EachSearches steps rest before void like ends end events parts ws vs
  each_searches parts [] [] len each = refl
  each_searches parts [] (v ∷ vs) len each = absurd (omega arith)
  each_searches parts (w ∷ ws) [] len each = absurd (omega arith)
  each_searches parts (w ∷ ws) (v ∷ vs) len each = (each 0 w (omega arith), each_searches parts ws vs (omega arith) (λ i d few. each (suc i) d (omega arith)))

  -- and some others
  pub both_search : (parts : List (Level S F)) (ws vs xs ys : List (Working S F)) → EachSearches steps rest before void like ends end events parts ws vs → EachSearches steps rest before void like ends end events parts xs ys → EachSearches steps rest before void like ends end events parts (ws ++ xs) (vs ++ ys)
  both_search parts [] vs xs ys each others = subst (λ (zs : List (Working S F)). EachSearches steps rest before void like ends end events parts xs (zs ++ ys)) (sym each) others
  both_search parts (w ∷ ws) [] xs ys each others = absurd each
  both_search parts (w ∷ ws) (v ∷ vs) xs ys each others = (each.0, both_search parts ws vs xs ys each.1 others)

  -- ---- of each content that was held before

  -- a worker has searched the parts at these places more
  abbrev pub StaysDone : (parts : List (Level S F)) (took : List ℕ) → State S F → Table → State S F → Table → Type 0
  StaysDone parts took s t new u = (bounds : Bounds) (first : S) (mine : List (Level S F)) → All (IsPart steps bounds first) parts → HasDone steps rest before void like ends end events bounds first mine s t → HasDone steps rest before void like ends end events bounds first (parts_at parts took ++ mine) new u

  -- some rounds were made, and this one is next
  abbrev pub StaysDivided : State S F → Table → List (Working S F) → (is_last : Bool) → (parts : List (Level S F)) → State S F → Table → List (Working S F) → Type 0
  StaysDivided s t ws is_last parts new u vs = (bounds : Bounds) (first : S) → Divides steps rest before void like ends end events bounds first s t ws → HasNext steps rest before void like ends end events bounds first is_last parts new u vs

  -- the tables of some workers were joined
  abbrev pub StaysJoined : Table → List (Working S F) → Table → List (Working S F) → Type 0
  StaysJoined t ws u vs = (bounds : Bounds) (first : S) → EachHasOneEnd (CameBy void end events steps bounds first) → AreDone steps rest before void like ends end events bounds first t ws → AreDone steps rest before void like ends end events bounds first u vs

  -- the others have worked
  abbrev pub StayWorked : List (Working S F) → List (Working S F) → Type 0
  StayWorked ws vs = (bounds : Bounds) (first : S) (given : List (Level S F)) → HaveWorked steps rest before void like ends end events bounds first given ws → (left : List (Level S F)) × HaveWorked steps rest before void like ends end events bounds first left vs

  -- they have searched nothing yet
  abbrev pub NoneHasWorked : Bounds → List (Working S F) → Type 0
  NoneHasWorked bounds ws = (first : S) → HaveWorked steps rest before void like ends end events bounds first [] ws
