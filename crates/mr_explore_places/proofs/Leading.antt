-- Where levels lead, and that turns change nothing of it.
use Rattle.std.proofs.Common.{◌≡◌, ◌≤◌, ◌<◌, ◌⊎◌, inl, inr, ℕ, zero, suc, true, false, List, [], ◌∷◌, ◌++◌, length, get_or, slice_get, Option, Some, None, refl, sym, ◌∙◌, ap, subst, arith}
use Rattle.mr_explore_search.specs.Steps.{Goes, Steps}
use Rattle.mr_explore_search.specs.Laws.{In}
use Rattle.mr_explore_alike.specs.Leaving.{Here}
use Rattle.mr_explore_places.specs.Places.{Befalls, Comes, DepartsByFault, DepartsLate, IsBeyond, IsWithin, behind_fault, behind_owed, behind_step, if_befallen, if_owed, made_of}
use Rattle.mr_explore_places.specs.Levels.{AreFaultsOf, AreLateOf, IsLeft, IsOnTrail, IsOnTrails, LeadAlike, LeadsTo, laid, trail_of, with_begun, with_faults, with_late}
use Rattle.mr_explore_places.specs.Going.{GoesTo}
use Rattle.mr_explore_places.specs.declared.level.Level.{Level}
use Rattle.mr_explore_places.specs.declared.level.Level.TheVariants as level
use Rattle.mr_explore_places.specs.declared.level.Coming.{Coming}
use Rattle.mr_explore_places.specs.declared.level.Trying.{Trying}
use Rattle.mr_explore_places.proofs.Lists.{same_some}
use Rattle.mr_explore_places.proofs.Within.{has_trail, no_faults, no_late, same_goes, trail_has}

none_or_some : {A : Type 0} (x : A) (o : Option A) → o ≡ None → o ≡ Some x → ⊥
none_or_some x o n s = cc

none_of : {A : Type 0} (x : A) (xs : List A) → xs ≡ [] → In x xs → ⊥
none_of {A} x xs e i = subst (λ (z : List A). In x z) e i

module _ {S F : Type 0} (steps : Steps S F) (budget : ℕ) where
  abbrev Left : List (Level S F) → Here S F → Type 0
  Left ls x = IsLeft steps budget ls x

  abbrev Alike : List (Level S F) → List (Level S F) → Type 0
  Alike old new = LeadAlike steps budget old new

  -- ---- lists of levels

  pub left_here : (ls given : List (Level S F)) (x : Here S F) → Left ls x → Left (ls ++ given) x
  left_here [] given x i = absurd i
  left_here (l ∷ ls) given x (inl i) = inl i
  left_here (l ∷ ls) given x (inr i) = inr (left_here ls given x i)

  pub left_behind : (ls given : List (Level S F)) (x : Here S F) → Left given x → Left (ls ++ given) x
  left_behind [] given x i = i
  left_behind (l ∷ ls) given x i = inr (left_behind ls given x i)

  pub left_either : (ls given : List (Level S F)) (x : Here S F) → Left (ls ++ given) x → Left ls x ⊎ Left given x
  left_either [] given x i = inr i
  left_either (l ∷ ls) given x (inl i) = inl (inl i)
  left_either (l ∷ ls) given x (inr i) = by (left_either ls given x i) where
    by : Left ls x ⊎ Left given x → Left (l ∷ ls) x ⊎ Left given x
    by (inl j) = inl (inr j)
    by (inr j) = inr j

  abbrev OnTrails : List (Level S F) → Here S F → Type 0
  OnTrails ls x = IsOnTrails steps budget ls x

  pub trails_here : (ls given : List (Level S F)) (x : Here S F) → OnTrails ls x → OnTrails (ls ++ given) x
  trails_here [] given x i = absurd i
  trails_here (l ∷ ls) given x (inl i) = inl i
  trails_here (l ∷ ls) given x (inr i) = inr (trails_here ls given x i)

  pub trails_behind : (ls given : List (Level S F)) (x : Here S F) → OnTrails given x → OnTrails (ls ++ given) x
  trails_behind [] given x i = i
  trails_behind (l ∷ ls) given x i = inr (trails_behind ls given x i)

  pub trails_either : (ls given : List (Level S F)) (x : Here S F) → OnTrails (ls ++ given) x → OnTrails ls x ⊎ OnTrails given x
  trails_either [] given x i = inr i
  trails_either (l ∷ ls) given x (inl i) = inl (inl i)
  trails_either (l ∷ ls) given x (inr i) = by (trails_either ls given x i) where
    by : OnTrails ls x ⊎ OnTrails given x → OnTrails (l ∷ ls) x ⊎ OnTrails given x
    by (inl j) = inl (inr j)
    by (inr j) = inr j

  -- the next one's trail
  pub trail_of_next : (ls : List (Level S F)) (l : Level S F) (x : Here S F) → 0 < length ls → l ≡ get_or ls 0 l → IsOnTrail steps budget l x → OnTrails ls x
  trail_of_next [] l x few e i = absurd (omega (arith, few))
  trail_of_next (m ∷ ls) l x few e i = inl (subst (λ (z : Level S F). IsOnTrail steps budget z x) e i)

  both_ways : (old new : List (Level S F)) → ((x : Here S F) → Left old x → Left new x) → ((x : Here S F) → Left new x → Left old x) → ((x : Here S F) → OnTrails new x → OnTrails old x) → Alike old new
  both_ways old new f g t = record { leads = λ x. (f x, g x); trails = t }

  pub alike_through : (old mid new : List (Level S F)) → Alike old mid → Alike mid new → Alike old new
  alike_through old mid new e f = both_ways old new (λ x i. (f.leads x).0 ((e.leads x).0 i)) (λ x i. (e.leads x).1 ((f.leads x).1 i)) (λ x i. e.trails x (f.trails x i))

  -- behind one more
  pub alike_behind : (l : Level S F) (old new : List (Level S F)) → Alike old new → Alike (l ∷ old) (l ∷ new)
  alike_behind l old new e = both_ways (l ∷ old) (l ∷ new) to from trails where
    to : (x : Here S F) → Left (l ∷ old) x → Left (l ∷ new) x
    to x (inl i) = inl i
    to x (inr i) = inr ((e.leads x).0 i)

    from : (x : Here S F) → Left (l ∷ new) x → Left (l ∷ old) x
    from x (inl i) = inl i
    from x (inr i) = inr ((e.leads x).1 i)

    trails : (x : Here S F) → OnTrails (l ∷ new) x → OnTrails (l ∷ old) x
    trails x (inl i) = inl i
    trails x (inr i) = inr (e.trails x i)

  -- in front of those that are given away
  pub alike_given : (old new given : List (Level S F)) → Alike old new → Alike (old ++ given) (new ++ given)
  alike_given old new given e = both_ways (old ++ given) (new ++ given) (λ x i. to x (left_either old given x i)) (λ x i. from x (left_either new given x i)) (λ x i. trails x (trails_either new given x i)) where
    to : (x : Here S F) → Left old x ⊎ Left given x → Left (new ++ given) x
    to x (inl i) = left_here new given x ((e.leads x).0 i)
    to x (inr i) = left_behind new given x i

    from : (x : Here S F) → Left new x ⊎ Left given x → Left (old ++ given) x
    from x (inl i) = left_here old given x ((e.leads x).1 i)
    from x (inr i) = left_behind old given x i

    trails : (x : Here S F) → OnTrails new x ⊎ OnTrails given x → OnTrails (old ++ given) x
    trails x (inl i) = trails_here old given x (e.trails x i)
    trails x (inr i) = trails_behind old given x i

  -- one that is given away
  pub given_away : (l : Level S F) (ls given : List (Level S F)) → Alike (l ∷ ls ++ given) (ls ++ l ∷ given)
  given_away l ls given = both_ways (l ∷ ls ++ given) (ls ++ l ∷ given) to (λ x i. back x (left_either ls (l ∷ given) x i)) (λ x i. trails x (trails_either ls (l ∷ given) x i)) where
    trails : (x : Here S F) → OnTrails ls x ⊎ OnTrails (l ∷ given) x → OnTrails (l ∷ ls ++ given) x
    trails x (inl j) = inr (trails_here ls given x j)
    trails x (inr (inl j)) = inl j
    trails x (inr (inr j)) = inr (trails_behind ls given x j)

    rest : (x : Here S F) → Left ls x ⊎ Left given x → Left (ls ++ l ∷ given) x
    rest x (inl j) = left_here ls (l ∷ given) x j
    rest x (inr j) = left_behind ls (l ∷ given) x (inr j)

    to : (x : Here S F) → Left (l ∷ ls ++ given) x → Left (ls ++ l ∷ given) x
    to x (inl i) = left_behind ls (l ∷ given) x (inl i)
    to x (inr i) = rest x (left_either ls given x i)

    back : (x : Here S F) → Left ls x ⊎ Left (l ∷ given) x → Left (l ∷ ls ++ given) x
    back x (inl j) = inr (left_here ls given x j)
    back x (inr (inl j)) = inl j
    back x (inr (inr j)) = inr (left_behind ls given x j)

  -- a level that leads nowhere goes
  pub goes_nowhere : (l : Level S F) (old : List (Level S F)) → ((x : Here S F) → LeadsTo steps budget l x → ⊥) → Alike (l ∷ old) old
  goes_nowhere l old f = both_ways (l ∷ old) old to (λ x i. inr i) (λ x i. inr i) where
    to : (x : Here S F) → Left (l ∷ old) x → Left old x
    to x (inl i) = absurd (f x i)
    to x (inr i) = i

  -- a level leads where these do
  leads_on : (l m : Level S F) (old : List (Level S F)) → ((x : Here S F) → LeadsTo steps budget l x → LeadsTo steps budget m x) → ((x : Here S F) → LeadsTo steps budget m x → LeadsTo steps budget l x) → ((x : Here S F) → IsOnTrail steps budget m x → IsOnTrail steps budget l x) → Alike (l ∷ old) (m ∷ old)
  leads_on l m old f g t = both_ways (l ∷ old) (m ∷ old) to from trails where
    trails : (x : Here S F) → OnTrails (m ∷ old) x → OnTrails (l ∷ old) x
    trails x (inl i) = inl (t x i)
    trails x (inr i) = inr i

    to : (x : Here S F) → Left (l ∷ old) x → Left (m ∷ old) x
    to x (inl i) = inl (f x i)
    to x (inr i) = inr i

    from : (x : Here S F) → Left (m ∷ old) x → Left (l ∷ old) x
    from x (inl i) = inl (g x i)
    from x (inr i) = inr i

  -- ---- a run goes on

  module _ (P : Here S F → Type 0) where
    -- it has no next place, or none is to be looked at
    beyond_none : (n : ℕ) (h : Here S F) → n ≡ 0 → IsBeyond steps P n h → ⊥
    beyond_none n h e i = subst (λ (z : ℕ). IsWithin steps P z (behind_step h i.0)) e i.2

    beyond_on : (n m : ℕ) (h p : Here S F) (t : S) → n ≡ suc m → steps.onward h.run ≡ Goes t → p ≡ behind_step h t → IsBeyond steps P n h → IsWithin steps P (suc m) p
    beyond_on n m h p t e w q i =
        let same : i.0 ≡ t = same_goes (steps.onward h.run) i.0 t i.1 w in
        subst (λ (z : Here S F). IsWithin steps P (suc m) z) (sym q) (subst (λ (z : S). IsWithin steps P (suc m) (behind_step h z)) same (subst (λ (z : ℕ). IsWithin steps P z (behind_step h i.0)) e i.2))

    beyond_back : (n m : ℕ) (h p : Here S F) (t : S) → n ≡ suc m → steps.onward h.run ≡ Goes t → p ≡ behind_step h t → IsWithin steps P (suc m) p → IsBeyond steps P n h
    beyond_back n m h p t e w q i = (t, w, subst (λ (z : ℕ). IsWithin steps P z (behind_step h t)) (sym e) (subst (λ (z : Here S F). IsWithin steps P (suc m) z) q i))

  -- ---- faults are tried

  pub tried_all : (l : Trying S F) (old : List (Level S F)) → l.faults ≡ [] → l.beyond ≡ 0 → Alike (level.Faults l ∷ old) old
  tried_all l old none last = goes_nowhere (level.Faults l) old nowhere where
    nowhere : (x : Here S F) → LeadsTo steps budget (level.Faults l) x → ⊥
    nowhere x (inl d) = none_of d.0 l.faults none d.2
    nowhere x (inr i) = beyond_none (DepartsByFault steps budget x) l.beyond l.place last i

  pub tried_stopped : (l : Trying S F) (old : List (Level S F)) (p : Here S F) → l.faults ≡ [] → GoesTo steps l.place false p → Alike (level.Faults l ∷ old) old
  tried_stopped l old p none stops = goes_nowhere (level.Faults l) old nowhere where
    nowhere : (x : Here S F) → LeadsTo steps budget (level.Faults l) x → ⊥
    nowhere x (inl d) = none_of d.0 l.faults none d.2
    nowhere x (inr i) = stops i.0 i.1

  pub tried_further : (l : Trying S F) (old : List (Level S F)) (p : Here S F) (fs : List F) (m : ℕ) → l.faults ≡ [] → l.beyond ≡ suc m → GoesTo steps l.place true p → fs ≡ steps.faults p.run
      → Alike (level.Faults l ∷ old) (level.Faults (record { place = p; faults = fs; beyond = m }) ∷ old)
  tried_further l old p fs m none more w e = leads_on (level.Faults l) (level.Faults (record { place = p; faults = fs; beyond = m })) old (λ x i. told x (to x i)) (λ x i. inr (from x (untold x i))) (λ x i. inr (beyond_back (λ h. h ≡ x) l.beyond m l.place p w.0 more w.1 w.2 i)) where
    to : (x : Here S F) → LeadsTo steps budget (level.Faults l) x → IsWithin steps (DepartsByFault steps budget x) (suc m) p
    to x (inl d) = absurd (none_of d.0 l.faults none d.2)
    to x (inr i) = beyond_on (DepartsByFault steps budget x) l.beyond m l.place p w.0 more w.1 w.2 i

    from : (x : Here S F) → IsWithin steps (DepartsByFault steps budget x) (suc m) p → IsBeyond steps (DepartsByFault steps budget x) l.beyond l.place
    from x i = beyond_back (DepartsByFault steps budget x) l.beyond m l.place p w.0 more w.1 w.2 i

    told : (x : Here S F) → IsWithin steps (DepartsByFault steps budget x) (suc m) p → Befalls steps budget fs p x ⊎ IsBeyond steps (DepartsByFault steps budget x) m p
    told x (inl d) = inl (subst (λ (z : List F). Befalls steps budget z p x) (sym e) d)
    told x (inr i) = inr i

    untold : (x : Here S F) → Befalls steps budget fs p x ⊎ IsBeyond steps (DepartsByFault steps budget x) m p → IsWithin steps (DepartsByFault steps budget x) (suc m) p
    untold x (inl d) = inl (subst (λ (z : List F). Befalls steps budget z p x) e d)
    untold x (inr i) = inr i

  -- a run that may have no more faults
  pub tried_enough : (l : Trying S F) (f : F) (old : List (Level S F)) → budget ≤ l.place.faults → Alike (level.Faults (record l { faults = f ∷ l.faults }) ∷ old) old
  tried_enough l f old all = goes_nowhere (level.Faults (record l { faults = f ∷ l.faults })) old nowhere where
    nowhere : (x : Here S F) → LeadsTo steps budget (level.Faults (record l { faults = f ∷ l.faults })) x → ⊥
    nowhere x (inl d) = let few = d.3 in absurd (omega (arith, few, all))
    nowhere x (inr i) = no_faults steps budget l.beyond x (behind_step l.place i.0) all i.2

  pub tried_one : (l : Trying S F) (f : F) (old : List (Level S F)) (child : Option (Here S F)) → l.place.faults < budget → child ≡ if_befallen steps l.place f
      → Alike (level.Faults (record l { faults = f ∷ l.faults }) ∷ old) (with_begun child (level.Faults l ∷ old))
  tried_one l f old child few is = subst (λ (z : Option (Here S F)). Alike (level.Faults (record l { faults = f ∷ l.faults }) ∷ old) (with_begun z (level.Faults l ∷ old))) (sym is) (by (steps.befallen f l.place.run) refl) where
    by : (b : Option S) → steps.befallen f l.place.run ≡ b → Alike (level.Faults (record l { faults = f ∷ l.faults }) ∷ old) (with_begun (made_of steps (behind_fault steps l.place f) b) (level.Faults l ∷ old))
    by None w = leads_on (level.Faults (record l { faults = f ∷ l.faults })) (level.Faults l) old to from (λ x i. i) where
      one : (x : Here S F) (d : Befalls steps budget (f ∷ l.faults) l.place x) → (f ≡ d.0) ⊎ In d.0 l.faults → LeadsTo steps budget (level.Faults l) x
      one x d (inl e) = absurd (none_or_some d.1 (steps.befallen f l.place.run) w (subst (λ (z : F). steps.befallen z l.place.run ≡ Some d.1) (sym e) d.4))
      one x d (inr i) = inl (d.0, d.1, i, d.3, d.4, d.5)

      to : (x : Here S F) → LeadsTo steps budget (level.Faults (record l { faults = f ∷ l.faults })) x → LeadsTo steps budget (level.Faults l) x
      to x (inl d) = one x d d.2
      to x (inr i) = inr i

      from : (x : Here S F) → LeadsTo steps budget (level.Faults l) x → LeadsTo steps budget (level.Faults (record l { faults = f ∷ l.faults })) x
      from x (inl d) = inl (d.0, d.1, inr d.2, d.3, d.4, d.5)
      from x (inr i) = inr i
    by (Some t) w = both_ways (level.Faults (record l { faults = f ∷ l.faults }) ∷ old) (level.Begin (behind_fault steps l.place f t) ∷ level.Faults l ∷ old) to from trails where
      trails : (x : Here S F) → OnTrails (level.Begin (behind_fault steps l.place f t) ∷ level.Faults l ∷ old) x → OnTrails (level.Faults (record l { faults = f ∷ l.faults }) ∷ old) x
      trails x (inl i) = absurd i
      trails x (inr (inl i)) = inl i
      trails x (inr (inr i)) = inr i

      one : (x : Here S F) (d : Befalls steps budget (f ∷ l.faults) l.place x) → (f ≡ d.0) ⊎ In d.0 l.faults → Left (level.Begin (behind_fault steps l.place f t) ∷ level.Faults l ∷ old) x
      one x d (inl e) =
          let got : steps.befallen f l.place.run ≡ Some d.1 = subst (λ (z : F). steps.befallen z l.place.run ≡ Some d.1) (sym e) d.4 in
          let same : t ≡ d.1 = same_some t d.1 (sym w ∙ got) in
          let moved : behind_fault steps l.place f t ≡ behind_fault steps l.place f d.1 = ap (λ (z : S). behind_fault steps l.place f z) same in
          let named : behind_fault steps l.place f d.1 ≡ behind_fault steps l.place d.0 d.1 = ap (λ (z : F). behind_fault steps l.place z d.1) e in
          inl (moved ∙ (named ∙ sym d.5))
      one x d (inr i) = inr (inl (inl (d.0, d.1, i, d.3, d.4, d.5)))

      to : (x : Here S F) → Left (level.Faults (record l { faults = f ∷ l.faults }) ∷ old) x → Left (level.Begin (behind_fault steps l.place f t) ∷ level.Faults l ∷ old) x
      to x (inl (inl d)) = one x d d.2
      to x (inl (inr i)) = inr (inl (inr i))
      to x (inr i) = inr (inr i)

      from : (x : Here S F) → Left (level.Begin (behind_fault steps l.place f t) ∷ level.Faults l ∷ old) x → Left (level.Faults (record l { faults = f ∷ l.faults }) ∷ old) x
      from x (inl e) = inl (inl (f, t, inl refl, few, w, sym e))
      from x (inr (inl (inl d))) = inl (inl (d.0, d.1, inr d.2, d.3, d.4, d.5))
      from x (inr (inl (inr i))) = inl (inr i)
      from x (inr (inr i)) = inr i

  -- ---- what was put off comes

  come_none : (l : Coming S F) (x : Here S F) → l.late ≡ 0 → Comes steps l.late l.place x → ⊥
  come_none l x none d = let less = d.3 in absurd (omega (arith, less, none))

  pub came_all : (l : Coming S F) (old : List (Level S F)) → l.late ≡ 0 → l.beyond ≡ 0 → Alike (level.Late l ∷ old) old
  came_all l old none last = goes_nowhere (level.Late l) old nowhere where
    nowhere : (x : Here S F) → LeadsTo steps budget (level.Late l) x → ⊥
    nowhere x (inl d) = come_none l x none d
    nowhere x (inr i) = beyond_none (DepartsLate steps x) l.beyond l.place last i

  pub came_stopped : (l : Coming S F) (old : List (Level S F)) (p : Here S F) → l.late ≡ 0 → GoesTo steps l.place false p → Alike (level.Late l ∷ old) old
  came_stopped l old p none stops = goes_nowhere (level.Late l) old nowhere where
    nowhere : (x : Here S F) → LeadsTo steps budget (level.Late l) x → ⊥
    nowhere x (inl d) = come_none l x none d
    nowhere x (inr i) = stops i.0 i.1

  pub came_further : (l : Coming S F) (old : List (Level S F)) (p : Here S F) (late m : ℕ) → l.late ≡ 0 → l.beyond ≡ suc m → GoesTo steps l.place true p → late ≡ p.ripe
      → Alike (level.Late l ∷ old) (level.Late (record { place = p; late = late; beyond = m }) ∷ old)
  came_further l old p late m none more w e = leads_on (level.Late l) (level.Late (record { place = p; late = late; beyond = m })) old (λ x i. told x (to x i)) (λ x i. inr (from x (untold x i))) (λ x i. i) where
    to : (x : Here S F) → LeadsTo steps budget (level.Late l) x → IsWithin steps (DepartsLate steps x) (suc m) p
    to x (inl d) = absurd (come_none l x none d)
    to x (inr i) = beyond_on (DepartsLate steps x) l.beyond m l.place p w.0 more w.1 w.2 i

    from : (x : Here S F) → IsWithin steps (DepartsLate steps x) (suc m) p → IsBeyond steps (DepartsLate steps x) l.beyond l.place
    from x i = beyond_back (DepartsLate steps x) l.beyond m l.place p w.0 more w.1 w.2 i

    told : (x : Here S F) → IsWithin steps (DepartsLate steps x) (suc m) p → Comes steps late p x ⊎ IsBeyond steps (DepartsLate steps x) m p
    told x (inl d) = inl (subst (λ (z : ℕ). Comes steps z p x) (sym e) d)
    told x (inr i) = inr i

    untold : (x : Here S F) → Comes steps late p x ⊎ IsBeyond steps (DepartsLate steps x) m p → IsWithin steps (DepartsLate steps x) (suc m) p
    untold x (inl d) = inl (subst (λ (z : ℕ). Comes steps z p x) e d)
    untold x (inr i) = inr i

  less_or_last : (at n : ℕ) → at < suc n → (at < n) ⊎ (n ≡ at)
  less_or_last zero zero l = inr refl
  less_or_last zero (suc n) l = inl (omega arith)
  less_or_last (suc m) zero l = absurd (omega (arith, l))
  less_or_last (suc m) (suc n) l = by (less_or_last m n (omega (arith, l))) where
    by : (m < n) ⊎ (n ≡ m) → (suc m < suc n) ⊎ (suc n ≡ suc m)
    by (inl i) = inl (omega (arith, i))
    by (inr e) = inr (ap suc e)

  -- the last one of those that are left comes
  pub came_one : (l : Coming S F) (at : ℕ) (old : List (Level S F)) (child : Option (Here S F)) → l.late ≡ suc at → child ≡ if_owed steps l.place at (slice_get l.place.owed at)
      → Alike (level.Late l ∷ old) (with_begun child (level.Late (record l { late = at }) ∷ old))
  came_one l at old child last is = subst (λ (z : Option (Here S F)). Alike (level.Late l ∷ old) (with_begun z (level.Late (record l { late = at }) ∷ old))) (sym is) (by (slice_get l.place.owed at) refl) where
    m : Coming S F
    m = record l { late = at }

    -- what comes is the last one, or one before
    split : (x : Here S F) (d : Comes steps l.late l.place x) → (d.0 < at) ⊎ (at ≡ d.0)
    split x d = less_or_last d.0 at (subst (λ (z : ℕ). d.0 < z) last d.3)

    more : (x : Here S F) → Comes steps at l.place x → Comes steps l.late l.place x
    more x d = let less = d.3 in (d.0, d.1, d.2, omega (arith, less, last), d.4, d.5, d.6)

    -- where nothing comes of the last one
    nothing : ((x : Here S F) (d : Comes steps l.late l.place x) → at ≡ d.0 → ⊥) → Alike (level.Late l ∷ old) (level.Late m ∷ old)
    nothing f = leads_on (level.Late l) (level.Late m) old to from (λ x i. i) where
      one : (x : Here S F) (d : Comes steps l.late l.place x) → (d.0 < at) ⊎ (at ≡ d.0) → LeadsTo steps budget (level.Late m) x
      one x d (inl less) = inl (d.0, d.1, d.2, less, d.4, d.5, d.6)
      one x d (inr e) = absurd (f x d e)

      to : (x : Here S F) → LeadsTo steps budget (level.Late l) x → LeadsTo steps budget (level.Late m) x
      to x (inl d) = one x d (split x d)
      to x (inr i) = inr i

      from : (x : Here S F) → LeadsTo steps budget (level.Late m) x → LeadsTo steps budget (level.Late l) x
      from x (inl d) = inl (more x d)
      from x (inr i) = inr i

    -- this one comes of it
    begun : (f : F) (t : S) → slice_get l.place.owed at ≡ Some f → steps.befallen f l.place.run ≡ Some t → Alike (level.Late l ∷ old) (level.Begin (behind_owed l.place at t) ∷ level.Late m ∷ old)
    begun f t g w = both_ways (level.Late l ∷ old) (level.Begin (behind_owed l.place at t) ∷ level.Late m ∷ old) to from trails where
      trails : (x : Here S F) → OnTrails (level.Begin (behind_owed l.place at t) ∷ level.Late m ∷ old) x → OnTrails (level.Late l ∷ old) x
      trails x (inl i) = absurd i
      trails x (inr (inl i)) = absurd i
      trails x (inr (inr i)) = inr i

      one : (x : Here S F) (d : Comes steps l.late l.place x) → (d.0 < at) ⊎ (at ≡ d.0) → Left (level.Begin (behind_owed l.place at t) ∷ level.Late m ∷ old) x
      one x d (inl less) = inr (inl (inl (d.0, d.1, d.2, less, d.4, d.5, d.6)))
      one x d (inr e) =
          let got : slice_get l.place.owed at ≡ Some d.1 = subst (λ (z : ℕ). slice_get l.place.owed z ≡ Some d.1) (sym e) d.4 in
          let fault : f ≡ d.1 = same_some f d.1 (sym g ∙ got) in
          let befell : steps.befallen f l.place.run ≡ Some d.2 = subst (λ (z : F). steps.befallen z l.place.run ≡ Some d.2) (sym fault) d.5 in
          let same : t ≡ d.2 = same_some t d.2 (sym w ∙ befell) in
          let moved : behind_owed l.place at t ≡ behind_owed l.place at d.2 = ap (λ (z : S). behind_owed l.place at z) same in
          let named : behind_owed l.place at d.2 ≡ behind_owed l.place d.0 d.2 = ap (λ (z : ℕ). behind_owed l.place z d.2) e in
          inl (moved ∙ (named ∙ sym d.6))

      to : (x : Here S F) → Left (level.Late l ∷ old) x → Left (level.Begin (behind_owed l.place at t) ∷ level.Late m ∷ old) x
      to x (inl (inl d)) = one x d (split x d)
      to x (inl (inr i)) = inr (inl (inr i))
      to x (inr i) = inr (inr i)

      from : (x : Here S F) → Left (level.Begin (behind_owed l.place at t) ∷ level.Late m ∷ old) x → Left (level.Late l ∷ old) x
      from x (inl e) = inl (inl (at, f, t, omega (arith, last), g, w, sym e))
      from x (inr (inl (inl d))) = inl (inl (more x d))
      from x (inr (inl (inr i))) = inl (inr i)
      from x (inr (inr i)) = inr i

    by_befallen : (f : F) (b : Option S) → slice_get l.place.owed at ≡ Some f → steps.befallen f l.place.run ≡ b → Alike (level.Late l ∷ old) (with_begun (made_of steps (behind_owed l.place at) b) (level.Late m ∷ old))
    by_befallen f (Some t) g w = begun f t g w
    by_befallen f None g w = nothing (λ x d e. none_or_some d.2 (steps.befallen f l.place.run) w
        (subst (λ (z : F). steps.befallen z l.place.run ≡ Some d.2) (sym (same_some f d.1 (sym g ∙ subst (λ (z : ℕ). slice_get l.place.owed z ≡ Some d.1) (sym e) d.4))) d.5))

    by : (o : Option F) → slice_get l.place.owed at ≡ o → Alike (level.Late l ∷ old) (with_begun (if_owed steps l.place at o) (level.Late m ∷ old))
    by None g = nothing (λ x d e. none_or_some d.1 (slice_get l.place.owed at) g (subst (λ (z : ℕ). slice_get l.place.owed z ≡ Some d.1) (sym e) d.4))
    by (Some f) g = by_befallen f (steps.befallen f l.place.run) g refl

  -- ---- trails

  pub is_in_trail : (l : Level S F) (x : Here S F) → IsOnTrail steps budget l x → In x (trail_of steps budget l)
  is_in_trail (level.Begin h) x i = absurd i
  is_in_trail (level.Faults l) x i = trail_has steps (suc l.beyond) l.place x i
  is_in_trail (level.Late l) x i = absurd i

  pub is_on_trail : (l : Level S F) (x : Here S F) → In x (trail_of steps budget l) → IsOnTrail steps budget l x
  is_on_trail (level.Begin h) x i = absurd i
  is_on_trail (level.Faults l) x i = has_trail steps (suc l.beyond) l.place x i
  is_on_trail (level.Late l) x i = absurd i

  -- ---- what is left of places that were made

  -- in words of their run
  abbrev pub Departing : ℕ → Here S F → List (Level S F) → Here S F → Type 0
  Departing n h ls x = IsWithin steps (DepartsByFault steps budget x) n h ⊎ (IsWithin steps (DepartsLate steps x) n h ⊎ Left ls x)

  pub laid_are : (n : ℕ) (h : Here S F) (ls : List (Level S F)) (x : Here S F) → Left (laid steps budget n h ls) x → Departing n h ls x
  laid_are zero h ls x i = inr (inr i)
  laid_are (suc n) h ls x i = i

  pub laid_of : (n : ℕ) (h : Here S F) (ls : List (Level S F)) (x : Here S F) → Departing n h ls x → Left (laid steps budget n h ls) x
  laid_of zero h ls x (inl i) = absurd i
  laid_of zero h ls x (inr (inl i)) = absurd i
  laid_of zero h ls x (inr (inr i)) = i
  laid_of (suc n) h ls x i = i

  pub on_laid : (n : ℕ) (h : Here S F) (ls : List (Level S F)) (x : Here S F) → IsWithin steps (λ z. z ≡ x) n h ⊎ OnTrails ls x → OnTrails (laid steps budget n h ls) x
  on_laid zero h ls x (inl i) = absurd i
  on_laid zero h ls x (inr i) = i
  on_laid (suc n) h ls x (inl i) = inl i
  on_laid (suc n) h ls x (inr i) = inr (inr i)

  -- the faults of a run that may have no more need not be left, nor what was put off in one of which nothing was
  faults_as : (n : ℕ) (h : Here S F) (ls : List (Level S F)) (trying : Option (Trying S F)) → AreFaultsOf steps budget h trying
      → Alike (level.Faults (record { place = h; faults = steps.faults h.run; beyond = n }) ∷ ls) (with_faults trying n ls)
  faults_as n h ls None all = goes_nowhere (level.Faults (record { place = h; faults = steps.faults h.run; beyond = n })) ls (λ x i. no_faults steps budget (suc n) x h all i)
  faults_as n h ls (Some l) is = subst (λ (z : Trying S F). Alike (level.Faults (record { place = h; faults = steps.faults h.run; beyond = n }) ∷ ls) (level.Faults (record z { beyond = n }) ∷ ls)) (sym is) (record { leads = λ x. (λ i. i, λ i. i); trails = λ x i. i })

  late_as : (n : ℕ) (h : Here S F) (ls : List (Level S F)) (coming : Option (Coming S F)) → AreLateOf h coming
      → Alike (level.Late (record { place = h; late = h.ripe; beyond = n }) ∷ ls) (with_late coming n ls)
  late_as n h ls None none = goes_nowhere (level.Late (record { place = h; late = h.ripe; beyond = n })) ls (λ x i. no_late steps (suc n) x h none i)
  late_as n h ls (Some l) is = subst (λ (z : Coming S F). Alike (level.Late (record { place = h; late = h.ripe; beyond = n }) ∷ ls) (level.Late (record z { beyond = n }) ∷ ls)) (sym is) (record { leads = λ x. (λ i. i, λ i. i); trails = λ x i. i })

  pub laid_as : (n : ℕ) (h : Here S F) (ls : List (Level S F)) (trying : Option (Trying S F)) (coming : Option (Coming S F)) → AreFaultsOf steps budget h trying → AreLateOf h coming
      → Alike (laid steps budget (suc n) h ls) (with_faults trying n (with_late coming n ls))
  laid_as n h ls trying coming f l =
      alike_through (laid steps budget (suc n) h ls) (level.Faults (record { place = h; faults = steps.faults h.run; beyond = n }) ∷ with_late coming n ls) (with_faults trying n (with_late coming n ls))
      (alike_behind (level.Faults (record { place = h; faults = steps.faults h.run; beyond = n })) (level.Late (record { place = h; late = h.ripe; beyond = n }) ∷ ls) (with_late coming n ls) (late_as n h ls coming l))
      (faults_as n h (with_late coming n ls) trying f)

  -- ---- what was put off comes here at once

  -- so many, from the first on, are left to come
  abbrev pub Owing : Here S F → ℕ → List (Level S F) → List (Level S F)
  Owing h n ls = level.Late (record { place = h; late = n; beyond = 0 }) ∷ ls

  begun_before : (child : Option (Here S F)) (m : Level S F) (ls : List (Level S F)) → Alike (with_begun child (m ∷ ls)) (m ∷ with_begun child ls)
  begun_before None m ls = both_ways (m ∷ ls) (m ∷ ls) (λ x i. i) (λ x i. i) (λ x i. i)
  begun_before (Some h) m ls = both_ways (level.Begin h ∷ m ∷ ls) (m ∷ level.Begin h ∷ ls) to from trails where
    to : (x : Here S F) → Left (level.Begin h ∷ m ∷ ls) x → Left (m ∷ level.Begin h ∷ ls) x
    to x (inl i) = inr (inl i)
    to x (inr (inl i)) = inl i
    to x (inr (inr i)) = inr (inr i)

    from : (x : Here S F) → Left (m ∷ level.Begin h ∷ ls) x → Left (level.Begin h ∷ m ∷ ls) x
    from x (inl i) = inr (inl i)
    from x (inr (inl i)) = inl i
    from x (inr (inr i)) = inr (inr i)

    trails : (x : Here S F) → OnTrails (m ∷ level.Begin h ∷ ls) x → OnTrails (level.Begin h ∷ m ∷ ls) x
    trails x (inl i) = inr (inl i)
    trails x (inr (inl i)) = absurd i
    trails x (inr (inr i)) = inr (inr i)

  pub owing_first : (h : Here S F) (n : ℕ) (ls : List (Level S F)) → n ≡ h.ripe → Alike (Owing h h.ripe ls) (Owing h n ls)
  owing_first h n ls e = subst (λ (z : ℕ). Alike (Owing h h.ripe ls) (Owing h z ls)) (sym e) (both_ways (Owing h h.ripe ls) (Owing h h.ripe ls) (λ x i. i) (λ x i. i) (λ x i. i))

  pub owing_next : (h : Here S F) (at n : ℕ) (old ls new : List (Level S F)) (child : Option (Here S F)) → n ≡ suc at → child ≡ if_owed steps h at (slice_get h.owed at) → new ≡ with_begun child ls → Alike old (Owing h n ls) → Alike old (Owing h at new)
  owing_next h at n old ls new child last is pushed e =
      let came = came_one (record { place = h; late = n; beyond = 0 }) at ls child last is in
      let before = begun_before child (level.Late (record { place = h; late = at; beyond = 0 })) ls in
      let next = alike_through (Owing h n ls) (with_begun child (Owing h at ls)) (Owing h at (with_begun child ls)) came before in
      subst (λ (z : List (Level S F)). Alike old (Owing h at z)) (sym pushed) (alike_through old (Owing h n ls) (Owing h at (with_begun child ls)) e next)

  pub owing_none : (h : Here S F) (n : ℕ) (old ls : List (Level S F)) → n ≡ 0 → Alike old (Owing h n ls) → Alike old ls
  owing_none h n old ls none e = alike_through old (Owing h n ls) ls e (came_all (record { place = h; late = n; beyond = 0 }) ls none refl)
