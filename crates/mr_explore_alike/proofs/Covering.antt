-- Whatever comes of a run comes of one that is like it.
use Rattle.std.proofs.Common.{◌≡◌, ◌<◌, ℕ, zero, suc, Bool, true, List, ◌++◌, length, remove, option_to_list, sym, subst, arith}
use Rattle.mr_explore_search.specs.Steps.{Steps}
use Rattle.mr_explore_search.specs.Runs.{Found, Run, PassesLimit}
use Rattle.mr_explore_search.specs.Laws.{Departs, Has_ended, Has_made_all, Would_pass, Went, Was_befallen, Came_later}
use Rattle.mr_explore_alike.specs.Likens.{Likens, Covers, AlikeDepartAlike}
use Rattle.mr_explore_alike.proofs.Void.{either, itself, true-is-not-false}

module _ {S F : Type 0} (steps : Steps S F) (rest : S → ℕ) (before : S → S → Bool) (void : S → Bool) (like : S → List F → S → List F → Type 0) (ends : S → S → Type 0) where
  -- behind one thing more
  behind : (most other n ripe left m b l : ℕ) (p q : List F) (t u : S) (r : Found S)
      → ((x : S) → Departs steps most other m b l q u (Run other x) → Departs steps most other n ripe left p t (Run other x)) → Covers steps rest before void like ends most other m b l q u r → Covers steps rest before void like ends most other n ripe left p t r
  behind most other n ripe left m b l p q t u (Run k s) f c = λ v. let d = c v in (d.0, f d.0 d.1, d.2)
  behind most other n ripe left m b l p q t u PassesLimit f c = tt

  -- with as many things that were put off
  as-long : (most other n left a b : ℕ) (p : List F) (t : S) (r : Found S) → a ≡ b → Covers steps rest before void like ends most other n a left p t r → Covers steps rest before void like ends most other n b left p t r
  as-long most other n left a b p t r e c = subst (λ (z : ℕ). Covers steps rest before void like ends most other n z left p t r) e c

  -- what comes of a void run need not be covered
  of-void : (most total other m k a n ripe left : ℕ) (os p : List F) (v t : S) (q : Found S) → Likens steps rest before void like ends most → void v ≡ true → Departs steps most total m k a os v q → Covers steps rest before void like ends most other n ripe left p t q
  of-void most total other m k a n ripe left os p v t q l e d =
      subst (λ (z : Found S). Covers steps rest before void like ends most other n ripe left p t z) (sym (itself steps most total m k a os v q (l.nothing v e) d)) (λ f. absurd (true-is-not-false e f))

  covers : (most total other m k a there : ℕ) (os p : List F) (v t : S) (q : Found S) → Likens steps rest before void like ends most → like v os t p → rest v < a → rest t < there
      → Departs steps most total m k a os v q → Covers steps rest before void like ends most other m k there p t q
  covers most total other m k a zero os p v t q l e few less d = absurd (omega (arith, less))
  covers most total other m k a (suc there) os p v t q l e few less (Has_ended ripe left o s s' w) =
      let x = l.stops s t s' o p e w in λ _. (x.there, Has_ended ripe there p t x.there x.stops, x.one)
  covers most total other m k a (suc there) os p v t q l e few less (Has_made_all ripe o s) = absurd (omega (arith, few))
  covers most total other m k a (suc there) os p v t q l e few less (Would_pass n ripe left o s w) = tt
  covers most total other m k a (suc there) os p v t q l e few less (Went n ripe left o s s' r w d) =
      let x = l.goes s t s' o p e w in
      let one = x.fewer in
      let two = x.fewer_there in
      behind most other n ripe (suc there) n (length p) there p p t x.there r (λ y z. Went n ripe there p t x.there (Run other y) x.goes z)
      (as-long most other n there (length o) (length p) p x.there r (l.owed s t o p e)
      (covers most total other n (length o) left there o p s' x.there r l x.still (omega (arith, few, one)) (omega (arith, less, two)) d))
  covers most total other m k a (suc there) os p v t q l e few less (Was_befallen n ripe left o s s' r f i w d) =
      either (void s')
      (λ nothing. of-void most total other n (length o) most (suc n) ripe (suc there) (o ++ option_to_list (steps.later f)) p s' t r l nothing d)
      (λ real.
      let x = l.befalls s t s' o p f e i w real in
      behind most other (suc n) ripe (suc there) n (length p) most p (p ++ option_to_list (steps.later x.fault)) t x.there r
      (λ y z. Was_befallen n ripe (suc there) p t x.there (Run other y) x.fault x.may x.befalls z)
      (as-long most other n most (length o) (length p) (p ++ option_to_list (steps.later x.fault)) x.there r (l.owed s t o p e)
      (covers most total other n (length o) most most (o ++ option_to_list (steps.later f)) (p ++ option_to_list (steps.later x.fault)) s' x.there r l x.still x.few x.few_there d)))
  covers most total other m k a (suc there) os p v t q l e few less (Came_later n ripe left o s s' r place f h g w d) =
      either (void s')
      (λ nothing. of-void most total other n (length (remove o place)) most n ripe (suc there) (remove o place) p s' t r l nothing d)
      (λ real.
      let x = l.comes s t s' o p place f e g w real in
      behind most other n ripe (suc there) n (length (remove p place)) most p (remove p place) t x.there r
      (λ y z. Came_later n ripe (suc there) p t x.there (Run other y) place x.fault h x.owed x.befalls z)
      (as-long most other n most (length (remove o place)) (length (remove p place)) (remove p place) x.there r (l.owed s' x.there (remove o place) (remove p place) x.still)
      (covers most total other n (length (remove o place)) most most (remove o place) (remove p place) s' x.there r l x.still x.few x.few_there d)))

  pub depart_alike : AlikeDepartAlike steps rest before void like ends
  depart_alike most total other n ripe left there o p s t r l e few less d = covers most total other n ripe left there o p s t r l e few less d
