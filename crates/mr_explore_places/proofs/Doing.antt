-- What a search has done is kept by each of its moves.
use Rattle.std.proofs.Common.{◌≡◌, ◌⊎◌, inl, inr, ℕ, Bool, true, false, List, [], ◌∷◌, ◌++◌, refl, ap, ◌∙◌, subst}
use Rattle.mr_explore_search.specs.Steps.{Goes, Ends, Steps}
use Rattle.mr_explore_search.specs.Runs.{Found, Run}
use Rattle.mr_explore_search.specs.Laws.{In, IsOneBy}
use Rattle.mr_explore_alike.specs.Leaving.{Here, IsCovered, IsEnough, IsTaken}
use Rattle.mr_explore_alike.proofs.Void.{true-is-not-false}
use Rattle.mr_explore_places.specs.Places.{DepartsByFault, DepartsLate, IsOnItsWay, behind_fault, behind_owed, behind_step}
use Rattle.mr_explore_places.specs.Fronts.{AreSame, IsUnderway, Underway}
use Rattle.mr_explore_places.specs.Levels.{IsLeft, IsOnTrails, LeadAlike}
use Rattle.mr_explore_places.specs.Searching.{GoesOn, HasDone, WillBeTaken}
use Rattle.mr_explore_places.proofs.Lists.{in_either, in_left, in_right}
use Rattle.mr_explore_places.proofs.Within.{goes_or_ends, same_ends, same_goes}
use Rattle.mr_explore_places.specs.declared.level.Level.{Level}
use Rattle.mr_explore_places.specs.declared.level.Level.TheVariants as level

module _ {S F : Type 0} (steps : Steps S F) (rest : S → ℕ) (before : S → S → Bool) (void : S → Bool) (like : S → List F → S → List F → Type 0) (ends : S → S → Type 0) (budget most : ℕ) (first : S) (parts : List (Level S F)) (known : List (Here S F)) where
  abbrev Done : (next : List (Here S F)) (going : List (Underway S F)) (left : List (Level S F)) (made : List (Here S F)) (found : List (Found S)) → Type 0
  Done next going left made found = HasDone steps rest before void like ends budget most first parts known next going left made found

  abbrev GoOn : List (Here S F) → Underway S F → Type 0
  GoOn made g = GoesOn steps rest before void like ends budget most first made g

  abbrev Left : List (Level S F) → Here S F → Type 0
  Left ls x = IsLeft steps budget ls x

  abbrev Will : (next made : List (Here S F)) → Here S F → Type 0
  Will next made x = WillBeTaken steps rest before void like ends budget most next (made ++ known) x

  abbrev Taken : List (Here S F) → Here S F → Type 0
  Taken made x = IsTaken steps rest before void like ends (made ++ known) x.faults x.ripe x.owed x.run

  abbrev Covered : List (Here S F) → Here S F → Type 0
  Covered made x = IsCovered steps rest before void like ends (made ++ known) x.faults x.ripe x.owed x.run

  abbrev OnTrails : List (Level S F) → Here S F → Type 0
  OnTrails ls x = IsOnTrails steps budget ls x

  -- nothing was done yet, from levels whose places are on their way
  pub nothing_done : ((x : Here S F) → Left parts x → IsOnItsWay steps budget most first most x) → ((x : Here S F) → OnTrails parts x → In x known) → Done [] [] parts [] []
  nothing_done way trodden = record {
    on_way = way;
    go_on = λ g i. absurd i;
    runs = λ r i. absurd i;
    trodden = trodden;
    began = λ x i v. inr i;
    goes = λ h t i w. absurd i;
    ended = λ h t i w. absurd i;
    befalls = λ h x i j v. absurd i;
    comes = λ h x i j v. absurd i;
  }

  -- levels that lead to the same places are left
  pub led_alike : (next : List (Here S F)) (going : List (Underway S F)) (old new : List (Level S F)) (made : List (Here S F)) (found : List (Found S)) → LeadAlike steps budget old new → Done next going old made found → Done next going new made found
  led_alike next going old new made found e d = record {
    on_way = λ x i. d.on_way x ((e.leads x).1 i);
    go_on = d.go_on;
    runs = d.runs;
    trodden = λ x i. d.trodden x (e.trails x i);
    began = λ x i v. turned x (d.began x i v);
    goes = d.goes;
    ended = d.ended;
    befalls = λ h x i j v. turned x (d.befalls h x i j v);
    comes = λ h x i j v. turned x (d.comes h x i j v);
  } where
    turned : (x : Here S F) → Will next made x ⊎ Left old x → Will next made x ⊎ Left new x
    turned x (inl i) = inl i
    turned x (inr i) = inr ((e.leads x).0 i)

  module _ (p : Here S F) (going : List (Underway S F)) (left : List (Level S F)) (made : List (Here S F)) (found : List (Found S)) where
    -- a run begins that was left
    pub taken_up : Done [] going (level.Begin p ∷ left) made found → Done (p ∷ []) going left made found
    taken_up d = record {
      on_way = λ x i. d.on_way x (inr i);
      go_on = d.go_on;
      runs = d.runs;
      trodden = λ x i. d.trodden x (inr i);
      began = λ x i v. turned x (d.began x i v);
      goes = λ h t i w. went h t (d.goes h t i w);
      ended = d.ended;
      befalls = λ h x i j v. turned x (d.befalls h x i j v);
      comes = λ h x i j v. turned x (d.comes h x i j v);
    } where
      will : (x : Here S F) → Will [] made x → Will (p ∷ []) made x
      will x (inl t) = inl t
      will x (inr i) = absurd i

      went : (h : Here S F) (t : S) → Will [] made (behind_step h t) ⊎ IsUnderway going h → Will (p ∷ []) made (behind_step h t) ⊎ IsUnderway going h
      went h t (inl i) = inl (will (behind_step h t) i)
      went h t (inr u) = inr u

      turned : (x : Here S F) → Will [] made x ⊎ Left (level.Begin p ∷ left) x → Will (p ∷ []) made x ⊎ Left left x
      turned x (inl i) = inl (will x i)
      turned x (inr (inl e)) = inl (inr (inl e))
      turned x (inr (inr i)) = inr i

    -- a void run need not be made
    pub passed_over : void p.run ≡ true → Done [] going (level.Begin p ∷ left) made found → Done [] going left made found
    passed_over nothing d = record {
      on_way = λ x i. d.on_way x (inr i);
      go_on = d.go_on;
      runs = d.runs;
      trodden = λ x i. d.trodden x (inr i);
      began = λ x i v. turned x v (d.began x i v);
      goes = d.goes;
      ended = d.ended;
      befalls = λ h x i j v. turned x v (d.befalls h x i j v);
      comes = λ h x i j v. turned x v (d.comes h x i j v);
    } where
      turned : (x : Here S F) → void x.run ≡ false → Will [] made x ⊎ Left (level.Begin p ∷ left) x → Will [] made x ⊎ Left left x
      turned x v (inl i) = inl i
      turned x v (inr (inl e)) = absurd (true-is-not-false (subst (λ (z : Here S F). void z.run ≡ true) e nothing) v)
      turned x v (inr (inr i)) = inr i

    -- a made place stands for the next one
    pub stood_for : Covered made p → Done (p ∷ []) going left made found → Done [] going left made found
    stood_for c d = record {
      on_way = d.on_way;
      go_on = d.go_on;
      runs = d.runs;
      trodden = d.trodden;
      began = λ x i v. turned x (d.began x i v);
      goes = λ h t i w. went h t (d.goes h t i w);
      ended = d.ended;
      befalls = λ h x i j v. turned x (d.befalls h x i j v);
      comes = λ h x i j v. turned x (d.comes h x i j v);
    } where
      will : (x : Here S F) → Will (p ∷ []) made x → Will [] made x
      will x (inl t) = inl t
      will x (inr (inl e)) = inl (inr (subst (λ (z : Here S F). Covered made z) e c))
      will x (inr (inr i)) = absurd i

      went : (h : Here S F) (t : S) → Will (p ∷ []) made (behind_step h t) ⊎ IsUnderway going h → Will [] made (behind_step h t) ⊎ IsUnderway going h
      went h t (inl i) = inl (will (behind_step h t) i)
      went h t (inr u) = inr u

      turned : (x : Here S F) → Will (p ∷ []) made x ⊎ Left left x → Will [] made x ⊎ Left left x
      turned x (inl i) = inl (will x i)
      turned x (inr i) = inr i

  -- a run was found
  pub found_more : (r : Found S) (next : List (Here S F)) (going : List (Underway S F)) (left : List (Level S F)) (made : List (Here S F)) (found : List (Found S)) → IsOneBy steps most budget first r → Done next going left made found → Done next going left made (r ∷ found)
  found_more r next going left made found one d = record {
    on_way = d.on_way;
    go_on = d.go_on;
    runs = λ q i. are_one q i;
    trodden = d.trodden;
    began = d.began;
    goes = d.goes;
    ended = λ h t i w. one-more h t (d.ended h t i w);
    befalls = d.befalls;
    comes = d.comes;
  } where
    one-more : (h : Here S F) (t : S) → In (Run h.faults t) found ⊎ IsUnderway going h → In (Run h.faults t) (r ∷ found) ⊎ IsUnderway going h
    one-more h t (inl i) = inl (inr i)
    one-more h t (inr u) = inr u

    are_one : (q : Found S) → In q (r ∷ found) → IsOneBy steps most budget first q
    are_one q (inl e) = subst (λ (z : Found S). IsOneBy steps most budget first z) e one
    are_one q (inr i) = d.runs q i

  -- The next place is made: it goes on to one of these, or its run was found, or is one of those that go on; and what departs from it is left.
  module _ (p : Here S F) (next : List (Here S F)) (going front : List (Underway S F)) (left more : List (Level S F)) (made : List (Here S F)) (found all : List (Found S)) where
    pub makes : ((t : S) → steps.onward p.run ≡ Goes t → In (behind_step p t) next ⊎ IsUnderway front p) → ((t : S) → steps.onward p.run ≡ Ends t → In (Run p.faults t) all ⊎ IsUnderway front p)
        → ((g : Underway S F) → In g going → In g front) → ((g : Underway S F) → In g front → In g going ⊎ GoOn (p ∷ made) g)
        → ((r : Found S) → In r found → In r all) → ((r : Found S) → In r all → IsOneBy steps most budget first r) → ((x : Here S F) → Left left x → Left more x)
        → ((x : Here S F) → DepartsByFault steps budget x p → Left more x) → ((x : Here S F) → DepartsLate steps x p → Left more x)
        → ((x : Here S F) → Left more x → IsOnItsWay steps budget most first most x) → ((x : Here S F) → OnTrails more x → OnTrails left x ⊎ (p ≡ x)) → Done (p ∷ []) going left made found → Done next front more (p ∷ made) all
    makes goes ended joins fronts told ones stays faults late way trails d = record {
      on_way = way;
      go_on = λ g i. on_front g (fronts g i);
      runs = ones;
      trodden = λ x i. trod x (trails x i);
      began = λ x i v. turned x (d.began x i v);
      goes = λ h t i w. goes_more h t i w;
      ended = λ h t i w. ended_more h t i w;
      befalls = λ h x i j v. befalls_more h x i j v;
      comes = λ h x i j v. comes_more h x i j v;
    } where
      on_front : (g : Underway S F) → In g going ⊎ GoOn (p ∷ made) g → GoOn (p ∷ made) g
      on_front g (inl i) = let old = d.go_on g i in record { made_so = inr old.made_so; way = old.way; last = old.last }
      on_front g (inr o) = o

      trod : (x : Here S F) → OnTrails left x ⊎ (p ≡ x) → In x (p ∷ made ++ known)
      trod x (inl i) = inr (d.trodden x i)
      trod x (inr e) = inl e

      taken : (x : Here S F) → Taken made x → Taken (p ∷ made) x
      taken x (inl i) = inl (inr i)
      taken x (inr c) = inr (record {
        by = c.by;
        made_by = inr c.made_by;
        alike = c.alike;
        ripe_there = c.ripe_there;
        earlier = c.earlier;
      })

      will : (x : Here S F) → Will (p ∷ []) made x → Will next (p ∷ made) x
      will x (inl t) = inl (taken x t)
      will x (inr (inl e)) = inl (inl (inl e))
      will x (inr (inr i)) = absurd i

      turned : (x : Here S F) → Will (p ∷ []) made x ⊎ Left left x → Will next (p ∷ made) x ⊎ Left more x
      turned x (inl i) = inl (will x i)
      turned x (inr i) = inr (stays x i)

      underway : (h : Here S F) → IsUnderway going h → IsUnderway front h
      underway h u = (u.0, joins u.0 u.1, u.2)

      from_next : (t : S) → In (behind_step p t) next ⊎ IsUnderway front p → Will next (p ∷ made) (behind_step p t) ⊎ IsUnderway front p
      from_next t (inl i) = inl (inr i)
      from_next t (inr u) = inr u

      went : (h : Here S F) (t : S) → Will (p ∷ []) made (behind_step h t) ⊎ IsUnderway going h → Will next (p ∷ made) (behind_step h t) ⊎ IsUnderway front h
      went h t (inl i) = inl (will (behind_step h t) i)
      went h t (inr u) = inr (underway h u)

      goes_more : (h : Here S F) (t : S) → In h (p ∷ made) → steps.onward h.run ≡ Goes t → Will next (p ∷ made) (behind_step h t) ⊎ IsUnderway front h
      goes_more h t (inl e) w = subst (λ (z : Here S F). steps.onward z.run ≡ Goes t → Will next (p ∷ made) (behind_step z t) ⊎ IsUnderway front z) e (λ v. from_next t (goes t v)) w
      goes_more h t (inr i) w = went h t (d.goes h t i w)

      stopped : (h : Here S F) (t : S) → In (Run h.faults t) found ⊎ IsUnderway going h → In (Run h.faults t) all ⊎ IsUnderway front h
      stopped h t (inl i) = inl (told (Run h.faults t) i)
      stopped h t (inr u) = inr (underway h u)

      ended_more : (h : Here S F) (t : S) → In h (p ∷ made) → steps.onward h.run ≡ Ends t → In (Run h.faults t) all ⊎ IsUnderway front h
      ended_more h t (inl e) w = subst (λ (z : Here S F). steps.onward z.run ≡ Ends t → In (Run z.faults t) all ⊎ IsUnderway front z) e (ended t) w
      ended_more h t (inr i) w = stopped h t (d.ended h t i w)

      befalls_more : (h x : Here S F) → In h (p ∷ made) → DepartsByFault steps budget x h → void x.run ≡ false → Will next (p ∷ made) x ⊎ Left more x
      befalls_more h x (inl e) j v = inr (subst (λ (z : Here S F). DepartsByFault steps budget x z → Left more x) e (faults x) j)
      befalls_more h x (inr i) j v = turned x (d.befalls h x i j v)

      comes_more : (h x : Here S F) → In h (p ∷ made) → DepartsLate steps x h → void x.run ≡ false → Will next (p ∷ made) x ⊎ Left more x
      comes_more h x (inl e) j v = inr (subst (λ (z : Here S F). DepartsLate steps x z → Left more x) e (late x) j)
      comes_more h x (inr i) j v = turned x (d.comes h x i j v)

  -- ---- runs that go on side by side

  -- the same runs, in another order
  pub in_other_order : (next : List (Here S F)) (going front : List (Underway S F)) (left : List (Level S F)) (made : List (Here S F)) (found : List (Found S)) → AreSame going front → Done next going left made found → Done next front left made found
  in_other_order next going front left made found same d = record {
    on_way = d.on_way;
    go_on = λ g i. d.go_on g ((same g).1 i);
    runs = d.runs;
    trodden = d.trodden;
    began = d.began;
    goes = λ h t i w. went h t (d.goes h t i w);
    ended = λ h t i w. stopped h t (d.ended h t i w);
    befalls = d.befalls;
    comes = d.comes;
  } where
    underway : (h : Here S F) → IsUnderway going h → IsUnderway front h
    underway h u = (u.0, (same u.0).0 u.1, u.2)

    went : (h : Here S F) (t : S) → Will next made (behind_step h t) ⊎ IsUnderway going h → Will next made (behind_step h t) ⊎ IsUnderway front h
    went h t (inl i) = inl i
    went h t (inr u) = inr (underway h u)

    stopped : (h : Here S F) (t : S) → In (Run h.faults t) found ⊎ IsUnderway going h → In (Run h.faults t) found ⊎ IsUnderway front h
    stopped h t (inl i) = inl i
    stopped h t (inr u) = inr (underway h u)

  module _ (g : Underway S F) (others : List (Underway S F)) (left : List (Level S F)) (made : List (Here S F)) (found : List (Found S)) where
    -- it is the one that left, or one of the others
    which : (h : Here S F) → IsUnderway (g ∷ others) h → (g.here ≡ h) ⊎ IsUnderway others h
    which h u = by u.1 where
      by : In u.0 (g ∷ others) → (g.here ≡ h) ⊎ IsUnderway others h
      by (inl e) = inl (ap (λ (z : Underway S F). z.here) e ∙ u.2)
      by (inr i) = inr (u.0, i, u.2)

    -- the one that left makes a step: its next place is next
    pub stepped_off : (t : S) → steps.onward g.here.run ≡ Goes t → Done [] (g ∷ others) left made found → Done (behind_step g.here t ∷ []) others left made found
    stepped_off t goes d = record {
      on_way = d.on_way;
      go_on = λ z i. d.go_on z (inr i);
      runs = d.runs;
      trodden = d.trodden;
      began = λ x i v. turned x (d.began x i v);
      goes = λ h u i w. went h u w (d.goes h u i w);
      ended = λ h u i w. stopped h u w (d.ended h u i w);
      befalls = λ h x i j v. turned x (d.befalls h x i j v);
      comes = λ h x i j v. turned x (d.comes h x i j v);
    } where
      p : Here S F
      p = behind_step g.here t

      will : (x : Here S F) → Will [] made x → Will (p ∷ []) made x
      will x (inl z) = inl z
      will x (inr i) = absurd i

      turned : (x : Here S F) → Will [] made x ⊎ Left left x → Will (p ∷ []) made x ⊎ Left left x
      turned x (inl i) = inl (will x i)
      turned x (inr i) = inr i

      stepped-too : (h : Here S F) (u : S) → g.here ≡ h → steps.onward h.run ≡ Goes u → p ≡ behind_step h u
      stepped-too h u e w =
          let same : t ≡ u = same_goes (steps.onward h.run) t u (subst (λ (z : Here S F). steps.onward z.run ≡ Goes t) e goes) w in
          ap (λ (z : Here S F). behind_step z t) e ∙ ap (λ (z : S). behind_step h z) same

      went-on : (h : Here S F) (u : S) → steps.onward h.run ≡ Goes u → (g.here ≡ h) ⊎ IsUnderway others h → Will (p ∷ []) made (behind_step h u) ⊎ IsUnderway others h
      went-on h u w (inl e) = inl (inr (inl (stepped-too h u e w)))
      went-on h u w (inr o) = inr o

      went : (h : Here S F) (u : S) → steps.onward h.run ≡ Goes u → Will [] made (behind_step h u) ⊎ IsUnderway (g ∷ others) h → Will (p ∷ []) made (behind_step h u) ⊎ IsUnderway others h
      went h u w (inl i) = inl (will (behind_step h u) i)
      went h u w (inr o) = went-on h u w (which h o)

      not-ended : (h : Here S F) (u : S) → steps.onward h.run ≡ Ends u → (g.here ≡ h) ⊎ IsUnderway others h → IsUnderway others h
      not-ended h u w (inl e) = absurd (goes_or_ends (steps.onward h.run) t u (subst (λ (z : Here S F). steps.onward z.run ≡ Goes t) e goes) w)
      not-ended h u w (inr o) = o

      stopped : (h : Here S F) (u : S) → steps.onward h.run ≡ Ends u → In (Run h.faults u) found ⊎ IsUnderway (g ∷ others) h → In (Run h.faults u) found ⊎ IsUnderway others h
      stopped h u w (inl i) = inl i
      stopped h u w (inr o) = inr (not-ended h u w (which h o))

    -- the one that left has ended: it is found
    pub ended_off : (t : S) → steps.onward g.here.run ≡ Ends t → IsOneBy steps most budget first (Run g.here.faults t) → Done [] (g ∷ others) left made found → Done [] others left made (Run g.here.faults t ∷ found)
    ended_off t ends-so one d = record {
      on_way = d.on_way;
      go_on = λ z i. d.go_on z (inr i);
      runs = λ r i. is-run r i;
      trodden = d.trodden;
      began = d.began;
      goes = λ h u i w. went h u w (d.goes h u i w);
      ended = λ h u i w. stopped h u w (d.ended h u i w);
      befalls = d.befalls;
      comes = d.comes;
    } where
      is-run : (r : Found S) → In r (Run g.here.faults t ∷ found) → IsOneBy steps most budget first r
      is-run r (inl e) = subst (λ (z : Found S). IsOneBy steps most budget first z) e one
      is-run r (inr i) = d.runs r i

      not-gone : (h : Here S F) (u : S) → steps.onward h.run ≡ Goes u → (g.here ≡ h) ⊎ IsUnderway others h → IsUnderway others h
      not-gone h u w (inl e) = absurd (goes_or_ends (steps.onward h.run) u t w (subst (λ (z : Here S F). steps.onward z.run ≡ Ends t) e ends-so))
      not-gone h u w (inr o) = o

      went : (h : Here S F) (u : S) → steps.onward h.run ≡ Goes u → Will [] made (behind_step h u) ⊎ IsUnderway (g ∷ others) h → Will [] made (behind_step h u) ⊎ IsUnderway others h
      went h u w (inl i) = inl i
      went h u w (inr o) = inr (not-gone h u w (which h o))

      found-too : (h : Here S F) (u : S) → g.here ≡ h → steps.onward h.run ≡ Ends u → Run g.here.faults t ≡ Run h.faults u
      found-too h u e w =
          let same : t ≡ u = same_ends (steps.onward h.run) t u (subst (λ (z : Here S F). steps.onward z.run ≡ Ends t) e ends-so) w in
          ap (λ (z : Here S F). Run z.faults t) e ∙ ap (λ (z : S). Run h.faults z) same

      stopped-on : (h : Here S F) (u : S) → steps.onward h.run ≡ Ends u → (g.here ≡ h) ⊎ IsUnderway others h → In (Run h.faults u) (Run g.here.faults t ∷ found) ⊎ IsUnderway others h
      stopped-on h u w (inl e) = inl (inl (found-too h u e w))
      stopped-on h u w (inr o) = inr o

      stopped : (h : Here S F) (u : S) → steps.onward h.run ≡ Ends u → In (Run h.faults u) found ⊎ IsUnderway (g ∷ others) h → In (Run h.faults u) (Run g.here.faults t ∷ found) ⊎ IsUnderway others h
      stopped h u w (inl i) = inl (inr i)
      stopped h u w (inr o) = stopped-on h u w (which h o)

  module _ (made : List (Here S F)) (found : List (Found S)) (same : (h : Here S F) → In h (made ++ known) → In h made) (d : Done [] [] [] made found) where
    abbrev IsMade : Here S F → Type 0
    IsMade x = IsTaken steps rest before void like ends made x.faults x.ripe x.owed x.run

    made_alone : (x : Here S F) → Taken made x → IsMade x
    made_alone x (inl i) = inl (same x i)
    made_alone x (inr c) = inr (record {
      by = c.by;
      made_by = same c.by c.made_by;
      alike = c.alike;
      ripe_there = c.ripe_there;
      earlier = c.earlier;
    })

    taken : (x : Here S F) → Will [] made x → IsMade x
    taken x (inl t) = made_alone x t
    taken x (inr i) = absurd i

    all : (x : Here S F) → Will [] made x ⊎ Left [] x → IsMade x
    all x (inl i) = taken x i
    all x (inr i) = absurd i

    gone : (x h : Here S F) → Will [] made x ⊎ IsUnderway [] h → IsMade x
    gone x h (inl i) = taken x i
    gone x h (inr u) = absurd u.1

    told : (h : Here S F) (t : S) → In (Run h.faults t) found ⊎ IsUnderway [] h → In (Run h.faults t) found
    told h t (inl i) = i
    told h t (inr u) = absurd u.1

    -- where nothing is left, and no more is known, enough was made
    pub enough : IsEnough steps rest before void like ends budget made found
    enough = record {
      goes = λ h t i w. gone (behind_step h t) h (d.goes h t i w);
      ended = λ h t i w. told h t (d.ended h t i w);
      befalls = λ h f t i few j w v. all (behind_fault steps h f t) (d.befalls h (behind_fault steps h f t) i (f, t, j, few, w, refl) v);
      comes = λ h at f t i less g w v. all (behind_owed h at t) (d.comes h (behind_owed h at t) i (at, f, t, less, g, w, refl) v);
    }

    -- each place to which the levels at first lead was taken
    pub parts_taken : (x : Here S F) → Left parts x → void x.run ≡ false → IsMade x
    parts_taken x i v = all x (d.began x i v)

-- A search that knows more places has done what it did.
module _ {S F : Type 0} (steps : Steps S F) (rest : S → ℕ) (before : S → S → Bool) (void : S → Bool) (like : S → List F → S → List F → Type 0) (ends : S → S → Type 0) (budget most : ℕ) (first : S) (parts : List (Level S F)) (more known : List (Here S F))
    (next : List (Here S F)) (going : List (Underway S F)) (left : List (Level S F)) (made : List (Here S F)) (found : List (Found S)) where
  there : (h : Here S F) → In h (made ++ known) → In h (made ++ (more ++ known))
  there h i = by (in_either h made known i) where
    by : In h made ⊎ In h known → In h (made ++ (more ++ known))
    by (inl j) = in_left h made (more ++ known) j
    by (inr j) = in_right h made (more ++ known) (in_right h more known j)

  abbrev WillBy : List (Here S F) → Here S F → Type 0
  WillBy all x = WillBeTaken steps rest before void like ends budget most next all x

  will_still : (x : Here S F) → WillBy (made ++ known) x → WillBy (made ++ (more ++ known)) x
  will_still x (inl (inl i)) = inl (inl (there x i))
  will_still x (inl (inr c)) = inl (inr (record {
    by = c.by;
    made_by = there c.by c.made_by;
    alike = c.alike;
    ripe_there = c.ripe_there;
    earlier = c.earlier;
  }))
  will_still x (inr i) = inr i

  or_left : (x : Here S F) → WillBy (made ++ known) x ⊎ IsLeft steps budget left x → WillBy (made ++ (more ++ known)) x ⊎ IsLeft steps budget left x
  or_left x (inl w) = inl (will_still x w)
  or_left x (inr i) = inr i

  still_goes : (h : Here S F) (t : S) → WillBy (made ++ known) (behind_step h t) ⊎ IsUnderway going h → WillBy (made ++ (more ++ known)) (behind_step h t) ⊎ IsUnderway going h
  still_goes h t (inl w) = inl (will_still (behind_step h t) w)
  still_goes h t (inr u) = inr u

  pub knows_more : HasDone steps rest before void like ends budget most first parts known next going left made found → HasDone steps rest before void like ends budget most first parts (more ++ known) next going left made found
  knows_more d = record {
    on_way = d.on_way;
    go_on = d.go_on;
    runs = d.runs;
    trodden = λ x i. there x (d.trodden x i);
    began = λ x i v. or_left x (d.began x i v);
    goes = λ h t i w. still_goes h t (d.goes h t i w);
    ended = d.ended;
    befalls = λ h x i j v. or_left x (d.befalls h x i j v);
    comes = λ h x i j v. or_left x (d.comes h x i j v);
  }
