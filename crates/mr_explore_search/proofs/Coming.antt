-- The runs of a walk are just those that depart from how its first run goes on.
use Rattle.std.proofs.Common.{◌≡◌, ◌≤◌, ◌<◌, ◌⊎◌, ◌↔◌, inl, inr, ℕ, zero, suc, ◌+◌, List, [], ◌∷◌, ◌++◌, length, remove, slice_get, length-append, Option, Some, None, option_to_list, refl, sym, ap, subst, arith}
use Rattle.std.specs.List.{flat_map, range_with_len}
use Rattle.std.proofs.lemmas.List.Edits.{length-remove}
use Rattle.std.proofs.lemmas.Option.{slice_get_within}
use Rattle.mr_explore_search.specs.Steps.{Onward, Goes, Ends, Full, Steps}
use Rattle.mr_explore_search.specs.Runs.{Found, Run, PassesLimit, by_fewer, came, ended, exactly, fewer, going, here, if_befallen, if_goes, if_owed, runs, tried}
use Rattle.mr_explore_search.specs.Laws.{Departs, Has_ended, Has_made_all, Would_pass, Went, Was_befallen, Came_later, In, IsOneBy}

in_left : {A : Type 0} (x : A) (xs ys : List A) → In x xs → In x (xs ++ ys)
in_left x [] ys h = absurd h
in_left x (z ∷ xs) ys (inl e) = inl e
in_left x (z ∷ xs) ys (inr h) = inr (in_left x xs ys h)

in_right : {A : Type 0} (x : A) (xs ys : List A) → In x ys → In x (xs ++ ys)
in_right x [] ys h = h
in_right x (z ∷ xs) ys h = inr (in_right x xs ys h)

in_either : {A : Type 0} (x : A) (xs ys : List A) → In x (xs ++ ys) → In x xs ⊎ In x ys
in_either x [] ys h = inr h
in_either x (z ∷ xs) ys (inl e) = inl (inl e)
in_either x (z ∷ xs) ys (inr h) = by (in_either x xs ys h) where
  by : In x xs ⊎ In x ys → In x (z ∷ xs) ⊎ In x ys
  by (inl i) = inl (inr i)
  by (inr i) = inr i

-- what is in a list for one of these numbers
in_some : {A : Type 0} (f : ℕ → List A) (x : A) (from count : ℕ) → In x (flat_map f (range_with_len from count)) → (n : ℕ) × (n < from + count) × In x (f n)
in_some f x from zero h = absurd h
in_some f x from (suc count) h = by (in_either x (f from) (flat_map f (range_with_len (from + 1) count)) h) (λ i. in_some f x (from + 1) count i) where
  by : In x (f from) ⊎ In x (flat_map f (range_with_len (from + 1) count)) → (In x (flat_map f (range_with_len (from + 1) count)) → (n : ℕ) × (n < from + 1 + count) × In x (f n)) → (n : ℕ) × (n < from + suc count) × In x (f n)
  by (inl i) more = (from, omega arith, i)
  by (inr i) more = let k = more i in let few = k.1 in (k.0, omega (arith, few), k.2)

one_up : (a b : ℕ) → (a ≡ b) ⊎ (a < b) → (suc a ≡ suc b) ⊎ (suc a < suc b)
one_up a b (inl e) = inl (ap suc e)
one_up a b (inr k) = inr (omega (arith, k))

same_or_less : (a b : ℕ) → a ≤ b → (a ≡ b) ⊎ (a < b)
same_or_less zero zero l = inl refl
same_or_less zero (suc b) l = inr (omega arith)
same_or_less (suc a) zero l = absurd (omega (arith, l))
same_or_less (suc a) (suc b) l = one_up a b (same_or_less a b (omega (arith, l)))

in_range : {A : Type 0} (f : ℕ → List A) (x : A) (from count n : ℕ) → from ≤ n → n < from + count → In x (f n) → In x (flat_map f (range_with_len from count))
in_range f x from zero n least few h = absurd (omega (arith, least, few))
in_range f x from (suc count) n least few h = by (same_or_less from n least) (λ more. in_range f x (from + 1) count n (omega (arith, more)) (omega (arith, few)) h) where
  by : (from ≡ n) ⊎ (from < n) → (from < n → In x (flat_map f (range_with_len (from + 1) count))) → In x (flat_map f (range_with_len from (suc count)))
  by (inl e) more = in_left x (f from) (flat_map f (range_with_len (from + 1) count)) (subst (λ m. In x (f m)) (sym e) h)
  by (inr k) more = in_right x (f from) (flat_map f (range_with_len (from + 1) count)) (more k)

module _ {S F : Type 0} (steps : Steps S F) (most total : ℕ) where
  -- what comes behind a departure
  abbrev Behind : ℕ → Type 0
  Behind d = (n ripe : ℕ) (owed : List F) (t : S) (r : Found S) → In r (by_fewer steps total most d n ripe owed t) → Departs steps most total n ripe most owed t r

  -- ---- what stands in the list departs so

  of_tried : (d n ripe left : ℕ) (owed : List F) (s : S) (r : Found S) → Behind d → (fs : List F) → ((f : F) → In f fs → In f (steps.faults s)) → In r (tried steps total (by_fewer steps total most d) n owed fs s) → Departs steps most total n ripe left owed s r
  of_tried d n ripe left owed s r behind [] all h = absurd h
  of_tried d zero ripe left owed s r behind (f ∷ fs) all h =
      by (in_either r (if_befallen steps total (fewer steps total (by_fewer steps total most d) zero (length owed) (owed ++ option_to_list (steps.later f))) (steps.befallen f s)) (tried steps total (by_fewer steps total most d) zero owed fs s) h) (λ i. of_tried d zero ripe left owed s r behind fs (λ g j. all g (inr j)) i) where
        none : (o : Option S) → In r (if_befallen steps total (fewer steps total (by_fewer steps total most d) zero (length owed) (owed ++ option_to_list (steps.later f))) o) → ⊥
        none None i = i
        none (Some t) i = i

        by : In r (if_befallen steps total (fewer steps total (by_fewer steps total most d) zero (length owed) (owed ++ option_to_list (steps.later f))) (steps.befallen f s)) ⊎ In r (tried steps total (by_fewer steps total most d) zero owed fs s)
            → (In r (tried steps total (by_fewer steps total most d) zero owed fs s) → Departs steps most total zero ripe left owed s r) → Departs steps most total zero ripe left owed s r
        by (inl i) more = absurd (none (steps.befallen f s) i)
        by (inr i) more = more i
  of_tried d (suc n) ripe left owed s r behind (f ∷ fs) all h =
      by (in_either r (if_befallen steps total (by_fewer steps total most d n (length owed) (owed ++ option_to_list (steps.later f))) (steps.befallen f s)) (tried steps total (by_fewer steps total most d) (suc n) owed fs s) h) (λ i. of_tried d (suc n) ripe left owed s r behind fs (λ g j. all g (inr j)) i) where
        first : (o : Option S) → steps.befallen f s ≡ o → In r (if_befallen steps total (by_fewer steps total most d n (length owed) (owed ++ option_to_list (steps.later f))) o) → Departs steps most total (suc n) ripe left owed s r
        first None e i = absurd i
        first (Some t) e i = Was_befallen n ripe left owed s t r f (all f (inl refl)) e (behind n (length owed) (owed ++ option_to_list (steps.later f)) t r i)

        by : In r (if_befallen steps total (by_fewer steps total most d n (length owed) (owed ++ option_to_list (steps.later f))) (steps.befallen f s)) ⊎ In r (tried steps total (by_fewer steps total most d) (suc n) owed fs s)
            → (In r (tried steps total (by_fewer steps total most d) (suc n) owed fs s) → Departs steps most total (suc n) ripe left owed s r) → Departs steps most total (suc n) ripe left owed s r
        by (inl i) more = first (steps.befallen f s) refl i
        by (inr i) more = more i

  of_came : (d n ripe left : ℕ) (owed : List F) (s : S) (r : Found S) → Behind d → (count : ℕ) → count ≤ ripe → In r (came steps total (by_fewer steps total most d) n owed count s) → Departs steps most total n ripe left owed s r
  of_came d n ripe left owed s r behind zero few h = absurd h
  of_came d n ripe left owed s r behind (suc place) few h =
      by (in_either r (if_owed steps total (by_fewer steps total most d n (length (remove owed place)) (remove owed place)) (slice_get owed place) s) (came steps total (by_fewer steps total most d) n owed place s) h) (λ i. of_came d n ripe left owed s r behind place (omega (arith, few)) i) where
        it : (f : F) → slice_get owed place ≡ Some f → (o : Option S) → steps.befallen f s ≡ o → In r (if_befallen steps total (by_fewer steps total most d n (length (remove owed place)) (remove owed place)) o) → Departs steps most total n ripe left owed s r
        it f there None e i = absurd i
        it f there (Some t) e i = Came_later n ripe left owed s t r place f (omega (arith, few)) there e (behind n (length (remove owed place)) (remove owed place) t r i)

        first : (o : Option F) → slice_get owed place ≡ o → In r (if_owed steps total (by_fewer steps total most d n (length (remove owed place)) (remove owed place)) o s) → Departs steps most total n ripe left owed s r
        first None e i = absurd i
        first (Some f) e i = it f e (steps.befallen f s) refl i

        by : In r (if_owed steps total (by_fewer steps total most d n (length (remove owed place)) (remove owed place)) (slice_get owed place) s) ⊎ In r (came steps total (by_fewer steps total most d) n owed place s)
            → (In r (came steps total (by_fewer steps total most d) n owed place s) → Departs steps most total n ripe left owed s r) → Departs steps most total n ripe left owed s r
        by (inl i) more = first (slice_get owed place) refl i
        by (inr i) more = more i

  of_place : (d n ripe left : ℕ) (owed : List F) (s : S) (r : Found S) → Behind d → (In r (going steps total (by_fewer steps total most d) n owed left s) → Departs steps most total n ripe left owed s r) → In r (here steps total (by_fewer steps total most d) n ripe owed left s) → Departs steps most total n ripe left owed s r
  of_place d n ripe left owed s r behind on h =
      by (in_either r (tried steps total (by_fewer steps total most d) n owed (steps.faults s) s) (came steps total (by_fewer steps total most d) n owed ripe s ++ going steps total (by_fewer steps total most d) n owed left s) h) where
        behind_tried : In r (came steps total (by_fewer steps total most d) n owed ripe s) ⊎ In r (going steps total (by_fewer steps total most d) n owed left s) → Departs steps most total n ripe left owed s r
        behind_tried (inl i) = of_came d n ripe left owed s r behind ripe (omega arith) i
        behind_tried (inr i) = on i

        by : In r (tried steps total (by_fewer steps total most d) n owed (steps.faults s) s) ⊎ In r (came steps total (by_fewer steps total most d) n owed ripe s ++ going steps total (by_fewer steps total most d) n owed left s) → Departs steps most total n ripe left owed s r
        by (inl i) = of_tried d n ripe left owed s r behind (steps.faults s) (λ f j. j) i
        by (inr i) = behind_tried (in_either r (came steps total (by_fewer steps total most d) n owed ripe s) (going steps total (by_fewer steps total most d) n owed left s) i)

  of_full : (n ripe left : ℕ) (owed : List F) (s : S) (r : Found S) → steps.onward s ≡ Full → In r (PassesLimit ∷ []) → Departs steps most total n ripe (suc left) owed s r
  of_full n ripe left owed s r e (inl same) = subst (Departs steps most total n ripe (suc left) owed s) same (Would_pass n ripe left owed s e)
  of_full n ripe left owed s r e (inr i) = absurd i

  of_made_all : (n ripe : ℕ) (owed : List F) (s : S) (r : Found S) → In r (ended steps total n s) → Departs steps most total n ripe zero owed s r
  of_made_all zero ripe owed s r (inl same) = subst (Departs steps most total zero ripe zero owed s) same (Has_made_all ripe owed s)
  of_made_all zero ripe owed s r (inr i) = absurd i
  of_made_all (suc n) ripe owed s r i = absurd i

  of_ended : (n ripe left : ℕ) (owed : List F) (s t : S) (r : Found S) → steps.onward s ≡ Ends t → In r (ended steps total n t) → Departs steps most total n ripe (suc left) owed s r
  of_ended zero ripe left owed s t r e (inl same) = subst (Departs steps most total zero ripe (suc left) owed s) same (Has_ended ripe left owed s t e)
  of_ended zero ripe left owed s t r e (inr i) = absurd i
  of_ended (suc n) ripe left owed s t r e i = absurd i

  of_going : (d n ripe left : ℕ) (owed : List F) (s : S) (r : Found S) → Behind d → In r (going steps total (by_fewer steps total most d) n owed left s) → Departs steps most total n ripe left owed s r
  of_going d n ripe zero owed s r behind h = of_made_all n ripe owed s r h
  of_going d n ripe (suc left) owed s r behind h = by (steps.onward s) refl h (λ t i. of_place d n (length owed) left owed t r behind (of_going d n (length owed) left owed t r behind) i) where
    by : (o : Onward S) → steps.onward s ≡ o → In r (if_goes steps total (λ t. here steps total (by_fewer steps total most d) n (length owed) owed left t) n o)
        → ((t : S) → In r (here steps total (by_fewer steps total most d) n (length owed) owed left t) → Departs steps most total n (length owed) left owed t r) → Departs steps most total n ripe (suc left) owed s r
    by (Goes t) e i on = Went n ripe left owed s t r e (on t i)
    by (Ends t) e i on = of_ended n ripe left owed s t r e i
    by Full e i on = of_full n ripe left owed s r e i

  departs : (d n ripe : ℕ) (owed : List F) (s : S) (r : Found S) → In r (by_fewer steps total most d n ripe owed s) → Departs steps most total n ripe most owed s r
  departs zero n ripe owed s r h = absurd h
  departs (suc d) n ripe owed s r h = of_place d n ripe most owed s r (λ m p os t q i. departs d m p os t q i) (of_going d n ripe most owed s r (λ m p os t q i. departs d m p os t q i)) h

  -- ---- what departs so stands in the list

  among_tried : (d n : ℕ) (owed fs : List F) (f : F) (s t : S) (r : Found S) → In f fs → steps.befallen f s ≡ Some t → In r (by_fewer steps total most d n (length owed) (owed ++ option_to_list (steps.later f)) t) → In r (tried steps total (by_fewer steps total most d) (suc n) owed fs s)
  among_tried d n owed [] f s t r i e h = absurd i
  among_tried d n owed (g ∷ fs) f s t r (inl same) e h =
      in_left r (if_befallen steps total (by_fewer steps total most d n (length owed) (owed ++ option_to_list (steps.later g))) (steps.befallen g s)) (tried steps total (by_fewer steps total most d) (suc n) owed fs s)
      (subst (λ (k : F). In r (if_befallen steps total (by_fewer steps total most d n (length owed) (owed ++ option_to_list (steps.later k))) (steps.befallen k s))) (sym same)
      (subst (λ (o : Option S). In r (if_befallen steps total (by_fewer steps total most d n (length owed) (owed ++ option_to_list (steps.later f))) o)) (sym e) h))
  among_tried d n owed (g ∷ fs) f s t r (inr i) e h =
      in_right r (if_befallen steps total (by_fewer steps total most d n (length owed) (owed ++ option_to_list (steps.later g))) (steps.befallen g s)) (tried steps total (by_fewer steps total most d) (suc n) owed fs s) (among_tried d n owed fs f s t r i e h)

  among_came : (d n : ℕ) (owed : List F) (count place : ℕ) (f : F) (s t : S) (r : Found S) → place < count → slice_get owed place ≡ Some f → steps.befallen f s ≡ Some t → In r (by_fewer steps total most d n (length (remove owed place)) (remove owed place) t) → In r (came steps total (by_fewer steps total most d) n owed count s)
  among_came d n owed zero place f s t r few there e h = absurd (omega (arith, few))
  among_came d n owed (suc count) place f s t r few there e h = by (same_or_less place count (omega (arith, few))) (λ less. among_came d n owed count place f s t r less there e h) where
    it : In r (if_owed steps total (by_fewer steps total most d n (length (remove owed place)) (remove owed place)) (slice_get owed place) s)
    it = subst (λ (o : Option F). In r (if_owed steps total (by_fewer steps total most d n (length (remove owed place)) (remove owed place)) o s)) (sym there)
        (subst (λ (o : Option S). In r (if_befallen steps total (by_fewer steps total most d n (length (remove owed place)) (remove owed place)) o)) (sym e) h)

    by : (place ≡ count) ⊎ (place < count) → (place < count → In r (came steps total (by_fewer steps total most d) n owed count s)) → In r (came steps total (by_fewer steps total most d) n owed (suc count) s)
    by (inl same) more = in_left r (if_owed steps total (by_fewer steps total most d n (length (remove owed count)) (remove owed count)) (slice_get owed count) s) (came steps total (by_fewer steps total most d) n owed count s)
        (subst (λ (m : ℕ). In r (if_owed steps total (by_fewer steps total most d n (length (remove owed m)) (remove owed m)) (slice_get owed m) s)) same it)
    by (inr k) more = in_right r (if_owed steps total (by_fewer steps total most d n (length (remove owed count)) (remove owed count)) (slice_get owed count) s) (came steps total (by_fewer steps total most d) n owed count s) (more k)

  behind_all : (d n ripe left : ℕ) (owed : List F) (s : S) (r : Found S) → In r (going steps total (by_fewer steps total most d) n owed left s) → In r (here steps total (by_fewer steps total most d) n ripe owed left s)
  behind_all d n ripe left owed s r h =
      in_right r (tried steps total (by_fewer steps total most d) n owed (steps.faults s) s) (came steps total (by_fewer steps total most d) n owed ripe s ++ going steps total (by_fewer steps total most d) n owed left s)
      (in_right r (came steps total (by_fewer steps total most d) n owed ripe s) (going steps total (by_fewer steps total most d) n owed left s) h)

  onwards : (d n ripe left : ℕ) (owed : List F) (s : S) (r : Found S) (o : Onward S) → steps.onward s ≡ o → In r (if_goes steps total (λ t. here steps total (by_fewer steps total most d) n (length owed) owed left t) n o) → In r (here steps total (by_fewer steps total most d) n ripe owed (suc left) s)
  onwards d n ripe left owed s r o e h = behind_all d n ripe (suc left) owed s r (subst (λ (o : Onward S). In r (if_goes steps total (λ t. here steps total (by_fewer steps total most d) n (length owed) owed left t) n o)) (sym e) h)

  one_later : (o : Option F) → length (option_to_list o) ≤ 1
  one_later None = omega arith
  one_later (Some f) = omega arith

  -- so many departures are enough: two for each fault, and one for each thing that was put off
  is_there : (d n ripe left : ℕ) (owed : List F) (s : S) (r : Found S) → n + n + length owed ≤ d → Departs steps most total n ripe left owed s r → In r (here steps total (by_fewer steps total most d) n ripe owed left s)
  is_there d m p k os u q enough (Has_ended ripe left owed s t e) = onwards d zero ripe left owed s (Run total t) (Ends t) e (inl refl)
  is_there d m p k os u q enough (Has_made_all ripe owed s) = behind_all d zero ripe zero owed s (Run total s) (inl refl)
  is_there d m p k os u q enough (Would_pass n ripe left owed s e) = onwards d n ripe left owed s PassesLimit Full e (inl refl)
  is_there d m p k os u q enough (Went n ripe left owed s t r e c) = onwards d n ripe left owed s r (Goes t) e (is_there d n (length owed) left owed t r enough c)
  is_there zero m p k os u q enough (Was_befallen n ripe left owed s t r f i e c) = absurd (omega (arith, enough))
  is_there (suc d) m p k os u q enough (Was_befallen n ripe left owed s t r f i e c) =
      let long = length-append owed (option_to_list (steps.later f)) in
      let one = one_later (steps.later f) in
      let less : n + n + length (owed ++ option_to_list (steps.later f)) ≤ d = omega (arith, enough, long, one) in
      in_left r (tried steps total (by_fewer steps total most (suc d)) (suc n) owed (steps.faults s) s) (came steps total (by_fewer steps total most (suc d)) (suc n) owed ripe s ++ going steps total (by_fewer steps total most (suc d)) (suc n) owed left s)
      (among_tried (suc d) n owed (steps.faults s) f s t r i e (is_there d n (length owed) most (owed ++ option_to_list (steps.later f)) t r less c))
  is_there zero m p k os u q enough (Came_later n ripe left owed s t r place f few there e c) = absurd (let inside = slice_get_within owed place f there in omega (arith, enough, inside))
  is_there (suc d) m p k os u q enough (Came_later n ripe left owed s t r place f few there e c) =
      let inside = slice_get_within owed place f there in
      let shorter = length-remove owed place inside in
      let less : n + n + length (remove owed place) ≤ d = omega (arith, enough, shorter) in
      in_right r (tried steps total (by_fewer steps total most (suc d)) n owed (steps.faults s) s) (came steps total (by_fewer steps total most (suc d)) n owed ripe s ++ going steps total (by_fewer steps total most (suc d)) n owed left s)
      (in_left r (came steps total (by_fewer steps total most (suc d)) n owed ripe s) (going steps total (by_fewer steps total most (suc d)) n owed left s)
      (among_came (suc d) n owed ripe place f s t r few there e (is_there d n (length (remove owed place)) most (remove owed place) t r less c)))

module _ {S F : Type 0} (steps : Steps S F) where
  all_that_departs : (most faults : ℕ) (s : S) (r : Found S) → In r (runs steps most faults s) → IsOneBy steps most faults s r
  all_that_departs most faults s r h = let k = in_some (λ n. exactly steps most n s) r 0 (suc faults) h in let few = k.1 in (k.0, omega (arith, few), departs steps most k.0 (suc (k.0 + k.0)) k.0 0 [] s r k.2)

  all_that_is_made : (most faults : ℕ) (s : S) (r : Found S) → IsOneBy steps most faults s r → In r (runs steps most faults s)
  all_that_is_made most faults s r k =
      let few = k.1 in
      in_range (λ n. exactly steps most n s) r 0 (suc faults) k.0 (omega arith) (omega (arith, few)) (is_there steps most k.0 (k.0 + k.0) k.0 0 most [] s r (omega arith) k.2)

  pub runs_are_all : (most faults : ℕ) (s : S) (r : Found S) → In r (runs steps most faults s) ↔ IsOneBy steps most faults s r
  runs_are_all most faults s r = (all_that_departs most faults s r, all_that_is_made most faults s r)
