-- What is left out is found elsewhere.
use Rattle.std.proofs.Common.{◌≡◌, ◌≤◌, ◌<◌, inl, inr, ℕ, suc, ◌+◌, Bool, true, false, List, [], ◌++◌, length, remove, slice_get, Some, option_to_list, refl, sym, ◌∙◌, ap, subst, arith}
use Rattle.mr_explore_search.specs.Steps.{Goes, Ends, Steps}
use Rattle.mr_explore_search.specs.Runs.{Found, Run, PassesLimit}
use Rattle.mr_explore_search.specs.Laws.{Departs, Has_ended, Has_made_all, Would_pass, Went, Was_befallen, Came_later, In, IsOneBy}
use Rattle.mr_explore_alike.specs.Likens.{Likens}
use Rattle.mr_explore_alike.specs.Leaving.{Here, IsEarlier, IsCovered, IsTaken, IsEnough, IsFound, NoEndIsLost}
use Rattle.mr_explore_alike.proofs.Void.{either, itself, true-is-not-false}

-- ---- earlier runs

module _ {S : Type 0} (before : S → S → Bool) where
  abbrev Earlier : ℕ → S → ℕ → S → Type 0
  Earlier j u k s = IsEarlier before j u k s

  -- behind a step of both
  step-on : (j k : ℕ) (u s u' s' : S) → (before u s ≡ true → before u' s' ≡ true) → Earlier j u k s → Earlier j u' k s'
  step-on j k u s u' s' f (inl l) = inl l
  step-on j k u s u' s' f (inr e) = inr (e.0, f e.1)

  -- behind a fault of both
  fault-on : (j k : ℕ) (u s u' s' : S) → (before u s ≡ true → before u' s' ≡ true) → Earlier j u k s → Earlier (suc j) u' (suc k) s'
  fault-on j k u s u' s' f (inl l) = inl (omega (arith, l))
  fault-on j k u s u' s' f (inr e) = inr (ap suc e.0, f e.1)

  pub through : ((s t u : S) → before s t ≡ true → before t u ≡ true → before s u ≡ true) → (i j k : ℕ) (v u s : S) → Earlier i v j u → Earlier j u k s → Earlier i v k s
  through order i j k v u s (inl a) (inl b) = inl (omega (arith, a, b))
  through order i j k v u s (inl a) (inr b) = let e = b.0 in inl (omega (arith, a, e))
  through order i j k v u s (inr a) (inl b) = let e = a.0 in inl (omega (arith, e, b))
  through order i j k v u s (inr a) (inr b) = inr (a.0 ∙ b.0, order v u s a.1 b.1)

  -- so many faults at most
  at-most : (j k : ℕ) (u s : S) → Earlier j u k s → j ≤ k
  at-most j k u s (inl l) = omega (arith, l)
  at-most j k u s (inr e) = let q = e.0 in omega (arith, q)

module _ {S F : Type 0} (steps : Steps S F) (rest : S → ℕ) (before : S → S → Bool) (void : S → Bool) (like : S → List F → S → List F → Type 0) (ends : S → S → Type 0) where
  -- a run is told as one of as many faults as it is made with
  abbrev Labelled : ℕ → Found S → Type 0
  Labelled total (Run k s) = k ≡ total
  Labelled total PassesLimit = Unit {0}

  label : (most total m i a : ℕ) (os : List F) (v : S) (q : Found S) → Departs steps most total m i a os v q → Labelled total q
  label most total m i a os v q (Has_ended ripe left o s t w) = refl
  label most total m i a os v q (Has_made_all ripe o s) = refl
  label most total m i a os v q (Would_pass n ripe left o s w) = tt
  label most total m i a os v q (Went n ripe left o s t r w d) = label most total n (length o) left o t r d
  label most total m i a os v q (Was_befallen n ripe left o s t r f x w d) = label most total n (length o) most (o ++ option_to_list (steps.later f)) t r d
  label most total m i a os v q (Came_later n ripe left o s t r place f lt g w d) = label most total n (length (remove o place)) most (remove o place) t r d

  module _ (most budget : ℕ) (made : List (Here S F)) (found : List (Found S)) (l : Likens steps rest before void like ends most) (enough : IsEnough steps rest before void like ends budget made found) where
    -- a place of v, which has k faults: it is made, or a made one that is earlier is like it
    abbrev Taken : (k ripe : ℕ) → List F → S → Type 0
    Taken k ripe o v = IsTaken steps rest before void like ends made k ripe o v

    abbrev Covered : (k ripe : ℕ) → List F → S → Type 0
    Covered k ripe o v = IsCovered steps rest before void like ends made k ripe o v

    -- the place of a run that is like v and earlier is taken
    passed-on : (j k i ripe : ℕ) (p o : List F) (u v : S) → Taken j ripe p u → like v o u p → i ≤ ripe → Earlier before j u k v → Taken k i o v
    passed-on j k i ripe p o u v (inl at) e r n = inr (record {
      by = record { faults = j; ripe = ripe; owed = p; run = u };
      made_by = at;
      alike = e;
      ripe_there = r;
      earlier = n;
    })
    passed-on j k i ripe p o u v (inr c) e r n =
        let there = c.ripe_there in
        inr (record {
          by = c.by;
          made_by = c.made_by;
          alike = l.through v u c.by.run o p c.by.owed e c.alike;
          ripe_there = omega (arith, r, there);
          earlier = through before l.in_order c.by.faults j k c.by.run u v c.earlier n;
        })

    -- ---- where both go on

    goes-on : (k i : ℕ) (o : List F) (s t : S) → steps.onward s ≡ Goes t → Taken k i o s → Taken k (length o) o t
    goes-on k i o s t w (inl at) = enough.goes (record { faults = k; ripe = i; owed = o; run = s }) t at w
    goes-on k i o s t w (inr h) =
        let x = l.goes s h.by.run t o h.by.owed h.alike w in
        let lengths = l.owed s h.by.run o h.by.owed h.alike in
        passed-on h.by.faults k (length o) (length h.by.owed) h.by.owed o x.there t (enough.goes h.by x.there h.made_by x.goes) x.still (omega (arith, lengths))
        (step-on before h.by.faults k h.by.run s x.there t x.stays_before h.earlier)

    has-ended : (k i : ℕ) (o : List F) (s t : S) → steps.onward s ≡ Ends t → Taken k i o s → IsFound steps rest before void like ends found k t
    has-ended k i o s t w (inl at) = inl (enough.ended (record { faults = k; ripe = i; owed = o; run = s }) t at w)
    has-ended k i o s t w (inr h) =
        let x = l.stops s h.by.run t o h.by.owed h.alike w in
        inr (record {
          faults = h.by.faults;
          run = x.there;
          found_so = enough.ended h.by x.there h.made_by x.stops;
          one = x.one;
          earlier = step-on before h.by.faults k h.by.run s x.there t x.stays_before h.earlier;
        })

    befalls-on : (k i : ℕ) (o : List F) (s t : S) (f : F) → In f (steps.faults s) → steps.befallen f s ≡ Some t → void t ≡ false → k < budget → Taken k i o s → Taken (suc k) (length o) (o ++ option_to_list (steps.later f)) t
    befalls-on k i o s t f may w real spare (inl at) = enough.befalls (record { faults = k; ripe = i; owed = o; run = s }) f t at spare may w real
    befalls-on k i o s t f may w real spare (inr h) =
        let x = l.befalls s h.by.run t o h.by.owed f h.alike may w real in
        let lengths = l.owed s h.by.run o h.by.owed h.alike in
        let most-faults = at-most before h.by.faults k h.by.run s h.earlier in
        passed-on (suc h.by.faults) (suc k) (length o) (length h.by.owed) (h.by.owed ++ option_to_list (steps.later x.fault)) (o ++ option_to_list (steps.later f)) x.there t
        (enough.befalls h.by x.fault x.there h.made_by (omega (arith, most-faults, spare)) x.may x.befalls (l.not_void t x.there (o ++ option_to_list (steps.later f)) (h.by.owed ++ option_to_list (steps.later x.fault)) x.still real))
        x.still (omega (arith, lengths)) (fault-on before h.by.faults k h.by.run s x.there t x.stays_before h.earlier)

    comes-on : (k i : ℕ) (o : List F) (s t : S) (place : ℕ) (f : F) → place < i → slice_get o place ≡ Some f → steps.befallen f s ≡ Some t → void t ≡ false → Taken k i o s → Taken k (length (remove o place)) (remove o place) t
    comes-on k i o s t place f lt g w real (inl at) = enough.comes (record { faults = k; ripe = i; owed = o; run = s }) place f t at lt g w real
    comes-on k i o s t place f lt g w real (inr h) =
        let x = l.comes s h.by.run t o h.by.owed place f h.alike g w real in
        let lengths = l.owed t x.there (remove o place) (remove h.by.owed place) x.still in
        let there = h.ripe_there in
        passed-on h.by.faults k (length (remove o place)) (length (remove h.by.owed place)) (remove h.by.owed place) (remove o place) x.there t
        (enough.comes h.by place x.fault x.there h.made_by (omega (arith, lt, there)) x.owed x.befalls (l.not_void t x.there (remove o place) (remove h.by.owed place) x.still real))
        x.still (omega (arith, lengths)) (step-on before h.by.faults k h.by.run s x.there t x.stays_before h.earlier)

    -- ---- all of it

    abbrev Wanted : ℕ → Found S → Type 0
    Wanted n (Run k s) = void s ≡ false → IsFound steps rest before void like ends found n s
    Wanted n PassesLimit = Unit {0}

    -- what comes of a void run need not be found
    of-void : (total m i a k : ℕ) (os : List F) (v : S) (q : Found S) → void v ≡ true → Departs steps most total m i a os v q → Wanted k q
    of-void total m i a k os v q e d = subst (λ (z : Found S). Wanted k z) (sym (itself steps most total m i a os v q (l.nothing v e) d)) (λ f. absurd (true-is-not-false e f))

    -- a place of v, which has k faults, and m more to come, is taken, and v is like itself
    finds : (total m i a k : ℕ) (os : List F) (v : S) (q : Found S) → Taken k i os v → like v os v os → rest v < a → k + m ≤ budget → Departs steps most total m i a os v q → Wanted (k + m) q
    finds total m i a k os v q h e few spare (Has_ended ripe left o s t w) =
        let same : k ≡ k + 0 = omega arith in
        λ _. subst (λ (z : ℕ). IsFound steps rest before void like ends found z t) same (has-ended k i o s t w h)
    finds total m i a k os v q h e few spare (Has_made_all ripe o s) = absurd (omega (arith, few))
    finds total m i a k os v q h e few spare (Would_pass n ripe left o s w) = tt
    finds total m i a k os v q h e few spare (Went n ripe left o s t r w d) =
        let x = l.goes s s t o o e w in
        let fewer = x.fewer in
        finds total n (length o) left k o t r (goes-on k i o s t w h) (l.itself t x.there o o x.still) (omega (arith, few, fewer)) spare d
    finds total m i a k os v q h e few spare (Was_befallen n ripe left o s t r f may w d) =
        either (void t) (λ nothing. of-void total n (length o) most (k + suc n) (o ++ option_to_list (steps.later f)) t r nothing d) (λ real.
        let x = l.befalls s s t o o f e may w real in
        let same : suc k + n ≡ k + suc n = omega arith in
        subst (λ (z : ℕ). Wanted z r) same
        (finds total n (length o) most (suc k) (o ++ option_to_list (steps.later f)) t r
        (befalls-on k i o s t f may w real (omega (arith, spare)) h)
        (l.itself t x.there (o ++ option_to_list (steps.later f)) (o ++ option_to_list (steps.later x.fault)) x.still) x.few (omega (arith, spare)) d))
    finds total m i a k os v q h e few spare (Came_later n ripe left o s t r place f lt g w d) =
        either (void t) (λ nothing. of-void total n (length (remove o place)) most (k + n) (remove o place) t r nothing d) (λ real.
        let x = l.comes s s t o o place f e g w real in
        finds total n (length (remove o place)) most k (remove o place) t r
        (comes-on k i o s t place f lt g w real h)
        (l.itself t x.there (remove o place) (remove o place) x.still) x.few spare d)

  pub no_end : NoEndIsLost steps rest before void like ends
  no_end most budget made found first l alike few enough at k s d real =
      let n = d.0 in
      let spare = d.1 in
      let named : k ≡ n = label most n n 0 most [] first (Run k s) d.2 in
      let same : 0 + n ≡ k = omega (arith, named) in
      subst (λ (z : ℕ). IsFound steps rest before void like ends found z s) same
      (finds most budget made found l enough n n 0 most 0 [] first (Run k s) at alike few (omega (arith, spare)) d.2 real)
