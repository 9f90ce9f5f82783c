-- What is known where all was found: the laws.
use Rattle.std.proofs.Common.{◌≡◌, ◌⊎◌, inl, inr, ℕ, Bool, true, false, List, [], ◌∷◌, ◌++◌, refl, sym, subst}
use Rattle.mr_explore_search.specs.Steps.{Goes, Ends, Steps}
use Rattle.mr_explore_search.specs.Runs.{Found, Run}
use Rattle.mr_explore_search.specs.Laws.{In, IsOneBy}
use Rattle.mr_explore_alike.specs.Leaving.{Here, IsTaken}
use Rattle.mr_explore_alike.proofs.Leaving.{no_end}
use Rattle.mr_explore_alike.proofs.Void.{either, itself, true-is-not-false}
use Rattle.mr_explore_places.specs.Places.{DepartsByFault, DepartsLate, beginning, behind_step}
use Rattle.mr_explore_places.specs.Fronts.{IsUnderway}
use Rattle.mr_explore_places.specs.Levels.{IsLeft, IsOnTrail, IsOnTrails, LeadsTo}
use Rattle.mr_explore_places.specs.Searching.{AreKnownOf, HasDone, WillBeTaken}
use Rattle.mr_explore_places.specs.State.{whole}
use Rattle.mr_explore_places.specs.Laws.{EachEndIsFound, GivenPartsAreJoined, PartsAreJoined}
use Rattle.mr_explore_places.specs.declared.level.Level.{Level}
use Rattle.mr_explore_places.proofs.Lists.{in_either, in_left, in_right}
use Rattle.mr_explore_places.proofs.Doing.{enough, parts_taken}

same_run : {S : Type 0} (k n : ℕ) (s t : S) → Run k s ≡ Run n t → s ≡ t
same_run k n s t e = cc

-- where nothing is known, what is made is all
none-known : {A : Type 0} (made known : List A) → ((x : A) → In x known → ⊥) → (x : A) → In x (made ++ known) → In x made
none-known made known f x i = by (in_either x made known i) where
  by : In x made ⊎ In x known → In x made
  by (inl j) = j
  by (inr j) = absurd (f x j)

module _ {S F : Type 0} (steps : Steps S F) (rest : S → ℕ) (before : S → S → Bool) (void : S → Bool) (like : S → List F → S → List F → Type 0) (ends : S → S → Type 0) where
  no-trails-of : (budget : ℕ) (first : S) (x : Here S F) → IsOnTrails steps budget (whole first) x → ⊥
  no-trails-of budget first x (inl i) = i
  no-trails-of budget first x (inr i) = i

  -- of a whole search no place is known that it did not make
  pub whole_alone : (budget most : ℕ) (first : S) (made known : List (Here S F)) → AreKnownOf steps rest before void like ends budget most (whole first) known → (x : Here S F) → In x (made ++ known) → In x made
  whole_alone budget most first made known k = none-known made known (λ x i. no-trails-of budget first x (k x i))

  pub each_found : EachEndIsFound steps rest before void like ends
  each_found bounds first found l alike few h k s one real =
      either (void first)
      (λ nothing.
      let same = same_run k one.0 s first (itself steps bounds.steps one.0 one.0 0 bounds.steps [] first (Run k s) (l.nothing first nothing) one.2) in
      absurd (true-is-not-false (subst (λ (z : S). void z ≡ true) (sym same) nothing) real))
      (λ alive.
      no_end steps rest before void like ends bounds.steps bounds.faults h.0 found first l alike few (enough steps rest before void like ends bounds.faults bounds.steps first (whole first) h.1 h.0 found (whole_alone bounds.faults bounds.steps first h.0 h.1 h.3) h.2)
      (parts_taken steps rest before void like ends bounds.faults bounds.steps first (whole first) h.1 h.0 found (whole_alone bounds.faults bounds.steps first h.0 h.1 h.3) h.2 (beginning first) (inl refl) alive) k s one real)

  module _ (budget most : ℕ) (first : S) (parts given some others : List (Level S F)) (known theirs made new : List (Here S F)) (found more : List (Found S)) (ours : (h : Here S F) → In h theirs → In h (made ++ known)) where
    abbrev All : List (Here S F)
    All = (new ++ made) ++ known

    of-ours : (h : Here S F) → In h (made ++ known) → In h All
    of-ours h i = by (in_either h made known i) where
      by : In h made ⊎ In h known → In h All
      by (inl j) = in_left h (new ++ made) known (in_right h new made j)
      by (inr j) = in_right h (new ++ made) known j

    of-theirs : (h : Here S F) → In h (new ++ theirs) → In h All
    of-theirs h i = by (in_either h new theirs i) where
      by : In h new ⊎ In h theirs → In h All
      by (inl j) = in_left h (new ++ made) known (in_left h new made j)
      by (inr j) = of-ours h (ours h j)

    abbrev Taken : List (Here S F) → Here S F → Type 0
    Taken all x = IsTaken steps rest before void like ends all x.faults x.ripe x.owed x.run

    abbrev Will : List (Here S F) → Here S F → Type 0
    Will all x = WillBeTaken steps rest before void like ends budget most [] all x

    taken-more : (all : List (Here S F)) → ((h : Here S F) → In h all → In h All) → (x : Here S F) → Taken all x → Taken All x
    taken-more all f x (inl i) = inl (f x i)
    taken-more all f x (inr c) = inr (record {
      by = c.by;
      made_by = f c.by c.made_by;
      alike = c.alike;
      ripe_there = c.ripe_there;
      earlier = c.earlier;
    })

    old : (x : Here S F) → Will (made ++ known) x → Will All x
    old x (inl t) = inl (taken-more (made ++ known) of-ours x t)
    old x (inr i) = absurd i

    of-part : (x : Here S F) → Will (new ++ theirs) x → Will All x
    of-part x (inl t) = inl (taken-more (new ++ theirs) of-theirs x t)
    of-part x (inr i) = absurd i

    -- what is left of those that are given away is left of some or of the others
    pub joined : ((x : Here S F) → IsLeft steps budget given x → IsLeft steps budget some x ⊎ IsLeft steps budget others x) → ((x : Here S F) → IsLeft steps budget others x → IsLeft steps budget given x) → ((x : Here S F) → IsOnTrails steps budget others x → IsOnTrails steps budget given x)
        → HasDone steps rest before void like ends budget most first parts known [] [] given made found → HasDone steps rest before void like ends budget most first some theirs [] [] [] new more
        → HasDone steps rest before void like ends budget most first parts known [] [] others (new ++ made) (more ++ found)
    joined split back trails d e = record {
      on_way = λ x i. d.on_way x (back x i);
      go_on = λ g i. absurd i;
      runs = λ r i. one r (in_either r more found i);
      trodden = λ x i. of-ours x (d.trodden x (trails x i));
      began = λ x i v. turned x v (d.began x i v);
      goes = λ h t i w. goes h t w (in_either h new made i);
      ended = λ h t i w. ended h t w (in_either h new made i);
      befalls = λ h x i j v. befalls h x j v (in_either h new made i);
      comes = λ h x i j v. comes h x j v (in_either h new made i);
    } where
      all : (x : Here S F) → Will (new ++ theirs) x ⊎ IsLeft steps budget [] x → Will All x
      all x (inl i) = of-part x i
      all x (inr i) = absurd i

      of-given : (x : Here S F) → void x.run ≡ false → IsLeft steps budget some x ⊎ IsLeft steps budget others x → Will All x ⊎ IsLeft steps budget others x
      of-given x v (inl i) = inl (all x (e.began x i v))
      of-given x v (inr i) = inr i

      turned : (x : Here S F) → void x.run ≡ false → Will (made ++ known) x ⊎ IsLeft steps budget given x → Will All x ⊎ IsLeft steps budget others x
      turned x v (inl i) = inl (old x i)
      turned x v (inr i) = of-given x v (split x i)

      one : (r : Found S) → In r more ⊎ In r found → IsOneBy steps most budget first r
      one r (inl i) = e.runs r i
      one r (inr i) = d.runs r i

      part-goes : (h : Here S F) (t : S) → Will (new ++ theirs) (behind_step h t) ⊎ IsUnderway [] h → Will All (behind_step h t) ⊎ IsUnderway [] h
      part-goes h t (inl i) = inl (of-part (behind_step h t) i)
      part-goes h t (inr u) = inr u

      old-goes : (h : Here S F) (t : S) → Will (made ++ known) (behind_step h t) ⊎ IsUnderway [] h → Will All (behind_step h t) ⊎ IsUnderway [] h
      old-goes h t (inl i) = inl (old (behind_step h t) i)
      old-goes h t (inr u) = inr u

      goes : (h : Here S F) (t : S) → steps.onward h.run ≡ Goes t → In h new ⊎ In h made → Will All (behind_step h t) ⊎ IsUnderway [] h
      goes h t w (inl i) = part-goes h t (e.goes h t i w)
      goes h t w (inr i) = old-goes h t (d.goes h t i w)

      part-ended : (r : Found S) (h : Here S F) → In r more ⊎ IsUnderway [] h → In r (more ++ found) ⊎ IsUnderway [] h
      part-ended r h (inl i) = inl (in_left r more found i)
      part-ended r h (inr u) = inr u

      old-ended : (r : Found S) (h : Here S F) → In r found ⊎ IsUnderway [] h → In r (more ++ found) ⊎ IsUnderway [] h
      old-ended r h (inl i) = inl (in_right r more found i)
      old-ended r h (inr u) = inr u

      ended : (h : Here S F) (t : S) → steps.onward h.run ≡ Ends t → In h new ⊎ In h made → In (Run h.faults t) (more ++ found) ⊎ IsUnderway [] h
      ended h t w (inl i) = part-ended (Run h.faults t) h (e.ended h t i w)
      ended h t w (inr i) = old-ended (Run h.faults t) h (d.ended h t i w)

      befalls : (h x : Here S F) → DepartsByFault steps budget x h → void x.run ≡ false → In h new ⊎ In h made → Will All x ⊎ IsLeft steps budget others x
      befalls h x j v (inl i) = inl (all x (e.befalls h x i j v))
      befalls h x j v (inr i) = turned x v (d.befalls h x i j v)

      comes : (h x : Here S F) → DepartsLate steps x h → void x.run ≡ false → In h new ⊎ In h made → Will All x ⊎ IsLeft steps budget others x
      comes h x j v (inl i) = inl (all x (e.comes h x i j v))
      comes h x j v (inr i) = turned x v (d.comes h x i j v)

  -- what is left of a list of parts is left of one of them
  left_of_one : (budget : ℕ) (parts : List (Level S F)) (x : Here S F) → IsLeft steps budget parts x → (l : Level S F) × In l parts × LeadsTo steps budget l x
  left_of_one budget [] x i = absurd i
  left_of_one budget (l ∷ ls) x (inl i) = (l, inl refl, i)
  left_of_one budget (l ∷ ls) x (inr i) = let z = left_of_one budget ls x i in (z.0, inr z.1, z.2)

  one_of_left : (budget : ℕ) (parts : List (Level S F)) (l : Level S F) (x : Here S F) → In l parts → LeadsTo steps budget l x → IsLeft steps budget parts x
  one_of_left budget [] l x i h = absurd i
  one_of_left budget (m ∷ ls) l x (inl e) h = inl (subst (λ (z : Level S F). LeadsTo steps budget z x) (sym e) h)
  one_of_left budget (m ∷ ls) l x (inr i) h = inr (one_of_left budget ls l x i h)

  pub left_of_those : (budget : ℕ) (parts some others : List (Level S F)) → ((l : Level S F) → In l parts → In l some ⊎ In l others) → (x : Here S F) → IsLeft steps budget parts x → IsLeft steps budget some x ⊎ IsLeft steps budget others x
  left_of_those budget parts some others f x i = let z = left_of_one budget parts x i in either-of z.0 z.2 (f z.0 z.1) where
    either-of : (l : Level S F) → LeadsTo steps budget l x → In l some ⊎ In l others → IsLeft steps budget some x ⊎ IsLeft steps budget others x
    either-of l h (inl j) = inl (one_of_left budget some l x j h)
    either-of l h (inr j) = inr (one_of_left budget others l x j h)

  trail_of_one : (budget : ℕ) (parts : List (Level S F)) (x : Here S F) → IsOnTrails steps budget parts x → (l : Level S F) × In l parts × IsOnTrail steps budget l x
  trail_of_one budget [] x i = absurd i
  trail_of_one budget (l ∷ ls) x (inl i) = (l, inl refl, i)
  trail_of_one budget (l ∷ ls) x (inr i) = let z = trail_of_one budget ls x i in (z.0, inr z.1, z.2)

  one_of_trails : (budget : ℕ) (parts : List (Level S F)) (l : Level S F) (x : Here S F) → In l parts → IsOnTrail steps budget l x → IsOnTrails steps budget parts x
  one_of_trails budget [] l x i h = absurd i
  one_of_trails budget (m ∷ ls) l x (inl e) h = inl (subst (λ (z : Level S F). IsOnTrail steps budget z x) (sym e) h)
  one_of_trails budget (m ∷ ls) l x (inr i) h = inr (one_of_trails budget ls l x i h)

  pub trails_of_those : (budget : ℕ) (parts some : List (Level S F)) → ((l : Level S F) → In l parts → In l some ⊎ In l []) → (x : Here S F) → IsOnTrails steps budget parts x → IsOnTrails steps budget some x
  trails_of_those budget parts some f x i = let z = trail_of_one budget parts x i in by z.0 z.2 (f z.0 z.1) where
    by : (l : Level S F) → IsOnTrail steps budget l x → In l some ⊎ In l [] → IsOnTrails steps budget some x
    by l h (inl j) = one_of_trails budget some l x j h
    by l h (inr j) = absurd j

  only-left : (budget : ℕ) (ls : List (Level S F)) (x : Here S F) → IsLeft steps budget ls x ⊎ IsLeft steps budget [] x → IsLeft steps budget ls x
  only-left budget ls x (inl i) = i
  only-left budget ls x (inr i) = absurd i

  first-or-rest : (budget : ℕ) (part : Level S F) (given : List (Level S F)) (x : Here S F) → IsLeft steps budget (part ∷ given) x → IsLeft steps budget (part ∷ []) x ⊎ IsLeft steps budget given x
  first-or-rest budget part given x (inl i) = inl (inl i)
  first-or-rest budget part given x (inr i) = inr i

  only-first : (budget : ℕ) (part : Level S F) (given : List (Level S F)) (x : Here S F) → IsOnTrails steps budget (part ∷ []) x → IsOnTrails steps budget (part ∷ given) x
  only-first budget part given x (inl i) = inl i
  only-first budget part given x (inr i) = absurd i

  pub parts_joined : PartsAreJoined steps rest before void like ends
  parts_joined bounds first parts given part found more d e = (
    e.0 ++ d.0,
    d.1,
    joined bounds.faults bounds.steps first parts (part ∷ given) (part ∷ []) given d.1 e.1 d.0 e.0 found more (λ x i. d.2.trodden x (only-first bounds.faults part given x (e.3 x i))) (first-or-rest bounds.faults part given) (λ x i. inr i) (λ x i. inr i) d.2 e.2,
    d.3,
  )

  pub given_joined : GivenPartsAreJoined steps rest before void like ends
  given_joined bounds first parts given some others found more f g b d e = (
    e.0 ++ d.0,
    d.1,
    joined bounds.faults bounds.steps first parts given some others d.1 e.1 d.0 e.0 found more (λ x i. d.2.trodden x (trails_of_those bounds.faults some given b x (e.3 x i))) (left_of_those bounds.faults given some others f)
        (λ x i. only-left bounds.faults given x (left_of_those bounds.faults others given [] g x i)) (trails_of_those bounds.faults others given g) d.2 e.2,
    d.3,
  )
