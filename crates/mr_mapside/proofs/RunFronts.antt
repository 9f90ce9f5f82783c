-- The first pairs of runs, in a heap.
use Rattle.std.proofs.Common.{◌≡◌, ℕ, zero, suc, ◌+◌, ◌<◌, ◌≤◌, Bool, true, false, not, ◌||◌, cond, eqb, ltb, ◌≢◌, List, [], ◌∷◌, ◌++◌, map, filter, length, drop, get_or, take, Option, Some, None, Result, Ok, Err, OnOk, Bor, ◌-◌, length-drop, refl, sym, ap, subst, ◌∙◌, arith}
use Rattle.std.proofs.lemmas.List.{append-nil, take_all, take-set, set-set}
use Rattle.std.proofs.lemmas.Option.{get_or_from_slice_get, slice_get_past, slice_get-get_or, slice_get-map}
use borrow.Author.Tests.{eqb-true, eqb-false, ltb-true, ltb-false}
use Rattle.std.proofs.lemmas.Bool.{lt-ltb, le-ltb}
use Rattle.std.proofs.Math.ListN.{set}
use Rattle.std.proofs.lemmas.List.Elements.{All-from_recursion, recursion_from_All}
use Rattle.std.proofs.lemmas.List.Sorted.{All-permutation, sum_by_pushed, sum_by_popped, sum_by-IsPermutation}
use Rattle.std.proofs.lemmas.List.Sums.{sum_by-cons}
use Rattle.std.proofs.lemmas.Cmp.{tied_itself}
use Rattle.std.specs.BinaryHeap.{IsHeap, IsUpperBound, lt_by_cmp}
use Rattle.std.specs.Cmp.{IsTotalOrder, nat_cmp_is}
use Rattle.std.specs.FinMap.{IsAntisymmetric}
use Rattle.std.specs.List.{AllByRecursion, slice_get, sum_by, list_any}
use Rattle.std.specs.List.Sorted.{IsPermutation}
use Rattle.std.specs.Option.{option_map, option_map_or, IfSome}
use Rattle.std.specs.Ordering.{eq_by_cmp, is_eq, is_gt, is_lt, nat_cmp, ordering_then, ordering_reverse}
use Rattle.std.specs.declared.cmp.Ordering.{Ordering}
use Rattle.std.specs.declared.cmp.Ordering.TheVariants.{Less, Equal, Greater}
use Rattle.std.specs.declared.cmp.Reverse.{Reverse}
use Rattle.mr_user.specs.Computation.{Computation}
use Rattle.mr_user.specs.Laws.{CodecLaws}
use Rattle.mr_mapside.specs.declared.front.Front.{Front}
use Rattle.mr_mapside.specs.Runs.{pair_at, pairs_in, ArePairs, IsRun, AreRuns, pairs_in_all, merged}
use Rattle.mr_user.specs.Groups.{values_of, groups_of}
use Rattle.mr_user.specs.Meaning.{others_of}
use Rattle.mr_user.proofs.LeastGroup.{least_first}
use Rattle.mr_mapside.specs.inner.Fronts.{at, left_at, front_cmp, IsFirst, AreFronts, Holds, Adds, rest_at, BeginWith, NotBelow, Without, AreNotBelow, Passes}
use Rattle.mr_mapside.proofs.RunReading.{first_pair, pairs_behind}
use Rattle.mr_mapside.proofs.RunMerging.{all_joined, each_place, each_before, at_place, set_each, fails_off, passes_off, no_values, all_others, turned, not_below_first, itself_not_below, without_above}

some_is : {A : Type 0} (x y : A) → Some x ≡ Some y → x ≡ y
some_is x y e = cc

abbrev left_in : Option (List ℕ) → ℕ
left_in o = option_map_or (λ (bytes : List ℕ). cond (eqb (length bytes) 0) 0 1) o 0

not_zero : (n : ℕ) → eqb (suc n) 0 ≡ false
not_zero n = elim (eqb (suc n) 0) as (λ b. eqb (suc n) 0 ≡ b → b ≡ false) [ true ↦ λ t. absurd (let e = eqb-true (suc n) 0 t in omega arith) | false ↦ λ _. refl ] refl

left_one : (lists : List (List ℕ)) (j b : ℕ) (bytes : List ℕ) → slice_get lists j ≡ Some (b ∷ bytes) → left_at lists j ≡ 1
left_one lists j b bytes e = ap left_in e ∙ ap (λ (b : Bool). cond b 0 1) (not_zero (length bytes))

at_most_one : (lists : List (List ℕ)) (i : ℕ) → left_at lists i ≤ 1
at_most_one lists i = by (slice_get lists i) where
  by : (o : Option (List ℕ)) → option_map_or (λ (bytes : List ℕ). cond (eqb (length bytes) 0) 0 1) o 0 ≤ 1
  by None = omega arith
  by (Some bytes) = elim (eqb (length bytes) 0) as (λ b. cond b 0 1 ≤ 1) [ true ↦ omega arith | false ↦ omega arith ]

pub get-set_same : {A : Type 0} (xs : List A) (i : ℕ) (a x : A) → slice_get xs i ≡ Some a → slice_get (set xs i x) i ≡ Some x
get-set_same [] i a x e = absurd cc
get-set_same (y ∷ xs) zero a x e = refl
get-set_same (y ∷ xs) (suc i) a x e = get-set_same xs i a x e

set_itself : {A : Type 0} (xs : List A) (i : ℕ) (a : A) → slice_get xs i ≡ Some a → set xs i a ≡ xs
set_itself [] i a e = refl
set_itself (y ∷ xs) zero a e = ap (λ z. z ∷ xs) (sym (some_is y a e))
set_itself (y ∷ xs) (suc i) a e = ap (λ ys. y ∷ ys) (set_itself xs i a e)

pub get-set_other : {A : Type 0} (xs : List A) (i j : ℕ) (x : A) → eqb i j ≡ false → slice_get (set xs i x) j ≡ slice_get xs j
get-set_other [] i j x e = refl
get-set_other (y ∷ xs) zero zero x e = absurd (eqb-false 0 0 e refl)
get-set_other (y ∷ xs) zero (suc j) x e = refl
get-set_other (y ∷ xs) (suc i) zero x e = refl
get-set_other (y ∷ xs) (suc i) (suc j) x e = get-set_other xs i j x (elim (eqb i j) as (λ b. eqb i j ≡ b → b ≡ false) [ true ↦ λ t. absurd (eqb-false (suc i) (suc j) e (ap suc (eqb-true i j t))) | false ↦ λ t. refl ] refl)

module _ {K V : Type 0} (job : Computation K V) (key_laws : CodecLaws job.key) (value_laws : CodecLaws job.value) (order : IsTotalOrder job.cmp) where
  abbrev F : Type 0
  F = Reverse (Front K V)

  -- a front of the list at a place, where there is one
  one_of : (P Q : F → Type 0) (j : ℕ) (fs : List F) → 0 < sum_by (at {K = K} {V = V} j) fs → AllByRecursion P fs → AllByRecursion Q fs → (f : F) × (f.0.list ≡ j) × P f × Q f
  one_of P Q j [] some p q = absurd (omega arith)
  one_of P Q j (f ∷ fs) some p q =
      elim (eqb f.0.list j) as (λ b. eqb f.0.list j ≡ b → (g : F) × (g.0.list ≡ j) × P g × Q g) [
        | true ↦ λ t. (f, eqb-true f.0.list j t, p.0, q.0)
        | false ↦ λ t.
            let sum : sum_by (at j) (f ∷ fs) ≡ at j f + sum_by (at j) fs = sum_by-cons (at j) f fs in
            let zero_here : at {K = K} {V = V} j f ≡ 0 = ap (λ b. cond b 1 0) t in
            one_of P Q j fs (omega arith) p.1 q.1
      ] refl

  -- no front of a list that has none
  none_of : (i : ℕ) (fs : List F) → sum_by (at {K = K} {V = V} i) fs ≡ 0 → AllByRecursion (λ f. eqb f.0.list i ≡ false) fs
  none_of i [] z = tt
  none_of i (f ∷ fs) z =
      let sum : sum_by (at i) (f ∷ fs) ≡ at i f + sum_by (at i) fs = sum_by-cons (at i) f fs in (
        elim (eqb f.0.list i) as (λ b. eqb f.0.list i ≡ b → b ≡ false) [ true ↦ λ t. let one : at {K = K} {V = V} i f ≡ 1 = ap (λ b. cond b 1 0) t in absurd (omega arith) | false ↦ λ t. refl ] refl,
        none_of i fs (omega arith),
      )

  moved_all : (P : F → Type 0) (xs ys : List F) → IsPermutation xs ys → AllByRecursion P xs → AllByRecursion P ys
  moved_all P xs ys moved h = recursion_from_All P ys (All-permutation P xs ys moved (All-from_recursion P xs h))

  -- a front was added
  pub fronts_added : (many now : ℕ → ℕ) (lists : List (List ℕ)) (i : ℕ) (bytes : List ℕ) (before after : List F) → AreFronts job many lists before → slice_get lists i ≡ Some bytes → Adds job i bytes before after →
      ((j : ℕ) → now j ≡ many j + cond (eqb i j) (left_at lists i) 0) → AreFronts job now lists after
  fronts_added many now lists i bytes before after all there adds count = by adds.added adds.all adds.many adds.first where
    left : left_at lists i ≡ cond (eqb (length bytes) 0) 0 1
    left = ap left_in there

    by : (added : List F) → IsPermutation (added ++ before) after → length added ≡ cond (eqb (length bytes) 0) 0 1 → AllByRecursion (λ f. (f.0.list ≡ i) × (pair_at job bytes ≡ Some ((f.0.key, f.0.value), f.0.len))) added → AreFronts job now lists after
    by [] moved none first = record {
      order = adds.order all.order;
      first = moved_all (λ f. IsFirst job lists f.0) before after moved all.first;
      once = λ j.
          let same = sum_by-IsPermutation (at j) before after moved in
          let was = all.once j in
          let more = count j in
          let nothing : cond (eqb i j) (left_at lists i) 0 ≡ 0 = elim (eqb i j) as (λ b. cond b (left_at lists i) 0 ≡ 0) [ true ↦ left ∙ sym none | false ↦ refl ] in
          omega arith;
    }
    by (f ∷ []) moved one first = record {
      order = adds.order all.order;
      first = moved_all (λ f. IsFirst job lists f.0) (f ∷ before) after moved (record { bytes = bytes; there = ap (slice_get lists) first.0.0 ∙ there; pair = first.0.1 }, all.first);
      once = λ j.
          let same = sum_by_pushed (at j) f before after moved in
          let was = all.once j in
          let more = count j in
          let here : cond (eqb i j) (left_at lists i) 0 ≡ at {K = K} {V = V} j f = ap (λ n. cond (eqb i j) n 0) (left ∙ sym one) ∙ ap (λ n. cond (eqb n j) 1 0) (sym first.0.0) in
          omega arith;
    }
    by (f ∷ g ∷ fs) moved two first = absurd (elim (eqb (length bytes) 0) as (λ b. length (f ∷ g ∷ fs) ≡ cond b 0 1 → ⊥) [ true ↦ λ e. omega arith | false ↦ λ e. omega arith ] two)

  -- the greatest was popped
  pub fronts_popped : (lists : List (List ℕ)) (fronts rest : List F) (f : F) → AreFronts job (left_at lists) lists fronts → IsPermutation fronts (f ∷ rest) → IsHeap (front_cmp job) rest →
      AreFronts job (λ j. cond (eqb f.0.list j) 0 (left_at lists j)) lists rest × IsFirst job lists f.0
  fronts_popped lists fronts rest f all moved heap =
      let firsts = moved_all (λ f. IsFirst job lists f.0) fronts (f ∷ rest) moved all.first in (
        record {
          order = heap;
          first = firsts.1;
          once = λ j.
              let same = sum_by_popped (at j) f fronts rest moved in
              let was = all.once j in
              let one = at_most_one lists j in
              elim (eqb f.0.list j) as (λ b. at {K = K} {V = V} j f ≡ cond b 1 0 → sum_by (at j) rest ≡ cond b 0 (left_at lists j)) [
                | true ↦ λ e. omega arith
                | false ↦ λ e. omega arith
              ] refl;
        },
        firsts.0,
      )

  -- a list of which there is no front may change
  pub fronts_moved : (lists : List (List ℕ)) (i : ℕ) (bytes : List ℕ) (fronts : List F) → AreFronts job (λ j. cond (eqb i j) 0 (left_at lists j)) lists fronts →
      AreFronts job (λ j. cond (eqb i j) 0 (left_at (set lists i bytes) j)) (set lists i bytes) fronts
  fronts_moved lists i bytes fronts all = record {
    order = all.order;
    first = each fronts (none_of i fronts (all.once i ∙ ap (λ b. cond b 0 (left_at lists i)) (eqb-same i))) all.first;
    once = λ j. all.once j ∙ elim (eqb i j) as (λ b. eqb i j ≡ b → cond b 0 (left_at lists j) ≡ cond b 0 (left_at (set lists i bytes) j)) [
      | true ↦ λ _. refl
      | false ↦ λ e. ap left_in (sym (get-set_other lists i j bytes e))
    ] refl;
  } where
    eqb-same : (n : ℕ) → eqb n n ≡ true
    eqb-same n = elim (eqb n n) as (λ b. eqb n n ≡ b → b ≡ true) [ true ↦ λ _. refl | false ↦ λ e. absurd (eqb-false n n e refl) ] refl

    each : (fs : List F) → AllByRecursion (λ f. eqb f.0.list i ≡ false) fs → AllByRecursion (λ f. IsFirst job lists f.0) fs → AllByRecursion (λ f. IsFirst job (set lists i bytes) f.0) fs
    each [] n h = tt
    each (f ∷ fs) n h = (
      record {
        bytes = h.0.bytes;
        there = get-set_other lists i f.0.list bytes (elim (eqb i f.0.list) as (λ b. eqb i f.0.list ≡ b → b ≡ false) [ true ↦ λ t. absurd (eqb-false f.0.list i n.0 (sym (eqb-true i f.0.list t))) | false ↦ λ _. refl ] refl) ∙ h.0.there;
        pair = h.0.pair;
      },
      each fs n.1 h.1,
    )

  not_less : (o u : Ordering) → is_lt (ordering_then o u) ≡ false → (is_lt o ≡ false) × (u ≡ Less → is_eq o ≡ false)
  not_less Less u h = cc
  not_less Equal u h = (refl, λ e. absurd (let l : is_lt u ≡ true = ap is_lt e in cc))
  not_less Greater u h = (refl, λ e. refl)

  nat_less : (m n : ℕ) → m < n → nat_cmp m n ≡ Less
  nat_less m n l = sym (nat_cmp_is m n Less l)

  less_only : (o : Ordering) → is_gt o ≡ false → is_eq o ≡ false → o ≡ Less
  less_only Less g e = refl
  less_only Equal g e = cc
  less_only Greater g e = cc

  back_apart : (x y : K) → is_eq (job.cmp y x) ≡ false → is_eq (job.cmp x y) ≡ false
  back_apart x y h = ap is_eq (order.antisymm x y) ∙ by (job.cmp y x) h where
    by : (o : Ordering) → is_eq o ≡ false → is_eq (ordering_reverse o) ≡ false
    by Less h = refl
    by Equal h = cc
    by Greater h = refl

  -- no list has a key below that of the greatest front, and none of those before its own has that key
  pub bounded : (lists : List (List ℕ)) (fronts : List F) (f : F) → Holds job lists fronts → IsUpperBound (front_cmp job) f fronts → (j : ℕ) (bytes : List ℕ) → slice_get lists j ≡ Some bytes →
      NotBelow job.cmp f.0.key (pairs_in job bytes) × (j < f.0.list → Without job.cmp f.0.key (pairs_in job bytes))
  bounded lists fronts f holds upper j [] at_j = (tt, λ l. tt)
  bounded lists fronts f holds upper j (b ∷ bytes) at_j = by (one_of (λ g. IsFirst job lists g.0) (λ g. lt_by_cmp (front_cmp job) f g ≡ false) j fronts there holds.all.first upper) where
    there : 0 < sum_by (at {K = K} {V = V} j) fronts
    there =
        let one = left_one lists j b bytes at_j in
        let was = holds.all.once j in
        omega arith

    by : (g : F) × (g.0.list ≡ j) × IsFirst job lists g.0 × (lt_by_cmp (front_cmp job) f g ≡ false) → NotBelow job.cmp f.0.key (pairs_in job (b ∷ bytes)) × (j < f.0.list → Without job.cmp f.0.key (pairs_in job (b ∷ bytes)))
    by (g, place, first, low) =
        let same : first.bytes ≡ b ∷ bytes = some_is first.bytes (b ∷ bytes) (sym first.there ∙ ap (slice_get lists) place ∙ at_j) in
        let rest = pairs_in job (drop g.0.len (b ∷ bytes)) in
        let pairs : pairs_in job (b ∷ bytes) ≡ (g.0.key, g.0.value) ∷ rest = first_pair job key_laws value_laws (b ∷ bytes) ((g.0.key, g.0.value), g.0.len) (ap (pair_at job) (sym same) ∙ first.pair) in
        let run : IsRun job ((g.0.key, g.0.value) ∷ rest) = subst (IsRun job) pairs (at_place (λ (bytes : List ℕ). ArePairs job bytes × IsRun job (pairs_in job bytes)) lists j (b ∷ bytes) at_j holds.runs).1 in
        let part = not_less (job.cmp g.0.key f.0.key) (nat_cmp g.0.list f.0.list) low in
        let up : is_gt (job.cmp f.0.key g.0.key) ≡ false = turned job.cmp order f.0.key g.0.key part.0 in (
          subst (NotBelow job.cmp f.0.key) (sym pairs) (not_below_first job.cmp order f.0.key g.0.key g.0.value rest up run.0),
          λ l.
              let less : job.cmp f.0.key g.0.key ≡ Less = less_only (job.cmp f.0.key g.0.key) up (back_apart f.0.key g.0.key (part.1 (nat_less g.0.list f.0.list (subst (λ n. n < f.0.list) (sym place) l)))) in
              subst (Without job.cmp f.0.key) (sym pairs) (without_above job.cmp order f.0.key g.0.key less ((g.0.key, g.0.value) ∷ rest) (itself_not_below job.cmp order g.0.key g.0.value rest run.0)),
        )

  -- no list has a key below that of the greatest front
  pub least_is : (lists : List (List ℕ)) (fronts : List F) (f : F) → Holds job lists fronts → IsUpperBound (front_cmp job) f fronts → AreNotBelow job f.0.key lists
  least_is lists fronts f holds upper = each_place (λ bytes. NotBelow job.cmp f.0.key (pairs_in job bytes)) lists (λ j bytes e. (bounded lists fronts f holds upper j bytes e).0)

  -- the rest of a list behind its first pair
  pub rest_is : (lists : List (List ℕ)) (f : Front K V) (first : IsFirst job lists f) → rest_at lists f.list f.len ≡ drop f.len first.bytes
  rest_is lists f first = ap (drop f.len) (get_or_from_slice_get lists f.list first.bytes [] first.there)

  -- behind its first pair a list is pairs to its end
  pub pairs_left : (lists : List (List ℕ)) (f : Front K V) → AreRuns job lists → IsFirst job lists f → ArePairs job (rest_at lists f.list f.len)
  pairs_left lists f runs first =
      let here = at_place (λ (bytes : List ℕ). ArePairs job bytes × IsRun job (pairs_in job bytes)) lists f.list first.bytes first.there runs in
      subst (ArePairs job) (sym (rest_is lists f first)) (pairs_behind job key_laws value_laws first.bytes ((f.key, f.value), f.len) first.pair here.0)

  -- The list at a place has bytes and no front. No list has a key below k, and none of those before it has k.
  pub record Opened (k : K) (i : ℕ) (bytes : List ℕ) (lists : List (List ℕ)) (fronts : List F) : Type 0 where
    pub there : slice_get lists i ≡ Some bytes
    pub all : AreFronts job (λ j. cond (eqb i j) 0 (left_at lists j)) lists fronts
    pub runs : AreRuns job lists
    pub low : AreNotBelow job k lists
    pub before : AllByRecursion (λ (bytes : List ℕ). Without job.cmp k (pairs_in job bytes)) (take i lists)

  -- the list of the greatest front, which was popped
  pub opened : (lists : List (List ℕ)) (fronts rest : List F) (f : F) → Holds job lists fronts → IsUpperBound (front_cmp job) f fronts → IsPermutation fronts (f ∷ rest) → IsHeap (front_cmp job) rest →
      (first : IsFirst job lists f.0) × Opened f.0.key f.0.list first.bytes lists rest
  opened lists fronts rest f holds upper moved heap =
      let popped = fronts_popped lists fronts rest f holds.all moved heap in (
        popped.1,
        record {
          there = popped.1.there;
          all = popped.0;
          runs = holds.runs;
          low = least_is lists fronts f holds upper;
          before = each_before (λ bytes. Without job.cmp f.0.key (pairs_in job bytes)) lists f.0.list (λ j bytes l e. (bounded lists fronts f holds upper j bytes e).1 l);
        },
      )

  -- a pair of the key is taken off it
  taken_off : (k : K) (v : V) (i len : ℕ) (bytes : List ℕ) (lists : List (List ℕ)) (fronts : List F) → Opened k i bytes lists fronts → pair_at job bytes ≡ Some ((k, v), len) →
      Opened k i (drop len bytes) (set lists i (drop len bytes)) fronts × Passes job k (v ∷ []) lists (set lists i (drop len bytes))
  taken_off k v i len bytes lists fronts o first =
      let rest = drop len bytes in
      let pairs : pairs_in job bytes ≡ (k, v) ∷ pairs_in job rest = first_pair job key_laws value_laws bytes ((k, v), len) first in
      let here = at_place (λ (bytes : List ℕ). ArePairs job bytes × IsRun job (pairs_in job bytes)) lists i bytes o.there o.runs in
      let run : IsRun job ((k, v) ∷ pairs_in job rest) = subst (IsRun job) pairs here.1 in
      let low : NotBelow job.cmp k ((k, v) ∷ pairs_in job rest) = subst (NotBelow job.cmp k) pairs (at_place (λ (bytes : List ℕ). NotBelow job.cmp k (pairs_in job bytes)) lists i bytes o.there o.low) in
      let itself : eq_by_cmp job.cmp k k ≡ true = ap is_eq (tied_itself order k) in (
        record {
          there = get-set_same lists i bytes rest o.there;
          all = fronts_moved lists i rest fronts o.all;
          runs = set_each (λ (bytes : List ℕ). ArePairs job bytes × IsRun job (pairs_in job bytes)) lists i rest (pairs_behind job key_laws value_laws bytes ((k, v), len) first here.0, run.1) o.runs;
          low = set_each (λ (bytes : List ℕ). NotBelow job.cmp k (pairs_in job bytes)) lists i rest low.1 o.low;
          before = subst (AllByRecursion (λ (bytes : List ℕ). Without job.cmp k (pairs_in job bytes))) (sym (take-set lists i rest)) o.before;
        },
        record {
          values = ap (map (λ (p : K × V). p.1)) (passes_off (pairs_in job) (λ (p : K × V). eq_by_cmp job.cmp k p.0) lists i bytes rest (k, v) o.there pairs itself o.before);
          others = fails_off (pairs_in job) (λ (p : K × V). not (eq_by_cmp job.cmp k p.0)) lists i bytes rest (k, v) o.there pairs (ap not itself);
        },
      )

  -- so many pairs of the key are
  pub run_taken : (k : K) (vs : List V) (i : ℕ) (bytes rest : List ℕ) (lists : List (List ℕ)) (fronts : List F) → Opened k i bytes lists fronts → BeginWith job k vs bytes rest →
      Opened k i rest (set lists i rest) fronts × Passes job k vs lists (set lists i rest)
  run_taken k [] i bytes rest lists fronts o is =
      subst (λ (rest : List ℕ). Opened k i rest (set lists i rest) fronts × Passes job k [] lists (set lists i rest)) is
      (subst (λ (now : List (List ℕ)). Opened k i bytes now fronts × Passes job k [] lists now) (sym (set_itself lists i bytes o.there)) (o, record { values = refl; others = refl }))
  run_taken k (v ∷ vs) i bytes rest lists fronts o (len, first, more) =
      let one = taken_off k v i len bytes lists fronts o first in
      let all = run_taken k vs i (drop len bytes) rest (set lists i (drop len bytes)) fronts one.0 more in
      subst (λ (now : List (List ℕ)). Opened k i rest now fronts × Passes job k (v ∷ vs) lists now) (set-set lists i (drop len bytes) rest)
      (all.0, record { values = one.1.values ∙ ap (λ (ws : List V). v ∷ ws) all.1.values; others = one.1.others ∙ all.1.others })

  -- its front is added
  pub settled : (k : K) (i : ℕ) (bytes : List ℕ) (lists : List (List ℕ)) (fronts after : List F) → Opened k i bytes lists fronts → Adds job i bytes fronts after → Holds job lists after
  settled k i bytes lists fronts after o adds = record {
    all = fronts_added (λ j. cond (eqb i j) 0 (left_at lists j)) (left_at lists) lists i bytes fronts after o.all o.there adds
        (λ j. elim (eqb i j) as (λ b. eqb i j ≡ b → left_at lists j ≡ cond b 0 (left_at lists j) + cond b (left_at lists i) 0) [
          | true ↦ λ t. let same : left_at lists j ≡ left_at lists i = ap (left_at lists) (sym (eqb-true i j t)) in omega arith
          | false ↦ λ _. omega arith
        ] refl);
    runs = o.runs;
  }

  -- the key of a front is not below
  pub front_not_below : (k : K) (lists : List (List ℕ)) (f : Front K V) → IsFirst job lists f → AreNotBelow job k lists → is_gt (job.cmp k f.key) ≡ false
  front_not_below k lists f first h =
      let pairs = first_pair job key_laws value_laws first.bytes ((f.key, f.value), f.len) first.pair in
      let all : NotBelow job.cmp k ((f.key, f.value) ∷ pairs_in job (drop f.len first.bytes)) = subst (NotBelow job.cmp k) pairs (at_place (λ (bytes : List ℕ). NotBelow job.cmp k (pairs_in job bytes)) lists f.list first.bytes first.there h) in
      all.0

  -- where the greatest front has a key above k, no list has k
  pub without_least : (k : K) (lists : List (List ℕ)) (fronts : List F) (f : F) → Holds job lists fronts → IsUpperBound (front_cmp job) f fronts → job.cmp k f.0.key ≡ Less → Without job.cmp k (pairs_in_all job lists)
  without_least k lists fronts f holds upper l =
      all_joined (λ (p : K × V). eq_by_cmp job.cmp k p.0 ≡ false) (pairs_in job) lists
      (each_place (λ bytes. Without job.cmp k (pairs_in job bytes)) lists (λ j bytes e. without_above job.cmp order k f.0.key l (pairs_in job bytes) (bounded lists fronts f holds upper j bytes e).0))

  -- where there is no front, nothing is left
  pub nothing_left : (lists : List (List ℕ)) (fronts : List F) → Holds job lists fronts → length fronts ≡ 0 → pairs_in_all job lists ≡ []
  nothing_left lists (f ∷ fronts) holds e = absurd (omega arith)
  nothing_left lists [] holds e = none lists (each_place (λ bytes. pairs_in job bytes ≡ []) lists empty_at) where
    none : (lists : List (List ℕ)) → AllByRecursion (λ bytes. pairs_in job bytes ≡ []) lists → pairs_in_all job lists ≡ []
    none [] h = refl
    none (bytes ∷ lists) h = ap (λ ps. ps ++ pairs_in_all job lists) h.0 ∙ none lists h.1

    empty_at : (j : ℕ) (bytes : List ℕ) → slice_get lists j ≡ Some bytes → pairs_in job bytes ≡ []
    empty_at j [] e = refl
    empty_at j (b ∷ bytes) e =
        let one = left_one lists j b bytes e in
        let was : 0 ≡ left_at lists j = holds.all.once j in
        absurd (omega arith)

module _ {K V : Type 0} (job : Computation K V) (order : IsTotalOrder job.cmp) (same : IsAntisymmetric job.cmp) where
  has_value : (k : K) (v : V) (vs : List V) (ps : List (K × V)) → values_of job.cmp k ps ≡ v ∷ vs → list_any (eq_by_cmp job.cmp k) (map (λ p. p.0) ps) ≡ true
  has_value k v vs [] e = absurd cc
  has_value k v vs (p ∷ ps) e =
      elim (eq_by_cmp job.cmp k p.0) as (λ b. map (λ (p : K × V). p.1) (cond b (p ∷ filter (λ (p : K × V). eq_by_cmp job.cmp k p.0) ps) (filter (λ (p : K × V). eq_by_cmp job.cmp k p.0) ps)) ≡ v ∷ vs → (b || list_any (eq_by_cmp job.cmp k) (map (λ p. p.0) ps)) ≡ true) [
        | true ↦ λ _. refl
        | false ↦ λ e. has_value k v vs ps e
      ] e

  -- the group of the least key comes first
  pub first_group : (k : K) (v : V) (vs : List V) (lists : List (List ℕ)) → values_of job.cmp k (pairs_in_all job lists) ≡ v ∷ vs → AreNotBelow job k lists →
      merged job lists ≡ (k, values_of job.cmp k (pairs_in_all job lists)) ∷ groups_of job.cmp (others_of job.cmp k (pairs_in_all job lists))
  first_group k v vs lists e low =
      least_first job.cmp order same k (pairs_in_all job lists) (has_value k v vs (pairs_in_all job lists) e) (all_joined (λ (p : K × V). is_gt (job.cmp k p.0) ≡ false) (pairs_in job) lists low)

  -- a key's values have been given, and no list has the key any more
  pub group_given : (k : K) (v : V) (vs values : List V) (before after : List (List ℕ)) → values_of job.cmp k (pairs_in_all job before) ≡ v ∷ vs → AreNotBelow job k before →
      values_of job.cmp k (pairs_in_all job before) ≡ values ++ values_of job.cmp k (pairs_in_all job after) → others_of job.cmp k (pairs_in_all job before) ≡ others_of job.cmp k (pairs_in_all job after) → Without job.cmp k (pairs_in_all job after) →
      merged job before ≡ (k, values) ∷ merged job after
  group_given k v vs values before after e low given others none =
      first_group k v vs before e low
      ∙ ap (λ vs. (k, vs) ∷ groups_of job.cmp (others_of job.cmp k (pairs_in_all job before))) (given ∙ ap (λ vs. values ++ vs) (no_values job.cmp k (pairs_in_all job after) none) ∙ append-nil values)
      ∙ ap (λ ps. (k, values) ∷ groups_of job.cmp ps) (others ∙ all_others job.cmp k (pairs_in_all job after) none)

module _ {K V : Type 0} (job : Computation K V) where
  pub adds_one : (i : ℕ) (bytes : List ℕ) (f : Front K V) (before after : List (Reverse (Front K V))) → (eqb (length bytes) 0 ≡ false) → f.list ≡ i → pair_at job bytes ≡ Some ((f.key, f.value), f.len) → IsPermutation (record { 0 = f } ∷ before) after → (IsHeap (front_cmp job) before → IsHeap (front_cmp job) after) →
      Adds job i bytes before after
  adds_one i bytes f before after some place pair moved heap = record {
    order = heap;
    added = record { 0 = f } ∷ [];
    all = moved;
    many = ap (λ b. cond b 0 1) (sym some);
    first = ((place, pair), tt);
  }

pub at_some : {A : Type 0} (o : Option A) (P : A → Type 0) (x : A) → o ≡ Some x → IfSome o P → P x
at_some None P x e h = absurd cc
at_some (Some y) P x e h = subst P (some_is y x e) h

pub on_ok_then : {A E : Type 0} (r : Result A E) {P Q : Type 0} → (P → Q) → OnOk r P → OnOk r Q
on_ok_then (Ok x) f h = f h
on_ok_then (Err e) f h = tt

-- a list of bytes was put
pub lent_set : (xs : List (Bor (List ℕ))) (i : ℕ) (new : Bor (List ℕ)) → map (λ (b : Bor (List ℕ)). b.now) (set xs i new) ≡ set (map (λ (b : Bor (List ℕ)). b.now) xs) i new.now
lent_set [] i new = refl
lent_set (x ∷ xs) zero new = refl
lent_set (x ∷ xs) (suc i) new = ap (λ (rs : List (List ℕ)). x.now ∷ rs) (lent_set xs i new)

-- a list of bytes, cut at its front
pub lent_rest : (xs : List (Bor (List ℕ))) (i len : ℕ) (b : Bor (List ℕ)) → i < length xs → b.now ≡ (get_or xs i b).now → take (length b.now - len) (drop len b.now) ≡ rest_at (map (λ (b : Bor (List ℕ)). b.now) xs) i len
lent_rest [] i len b l at = absurd (omega arith)
lent_rest (x ∷ xs) zero len b l at = take_all (length b.now - len) (drop len b.now) (omega (arith, length-drop len b.now)) ∙ ap (drop len) at
lent_rest (x ∷ xs) (suc i) len b l at = lent_rest xs i len b (omega arith) at

module _ {K V : Type 0} (job : Computation K V) (key_laws : CodecLaws job.key) (value_laws : CodecLaws job.value) (order : IsTotalOrder job.cmp) where
  -- the fronts of the first lists
  abbrev pub first_lists : List (List ℕ) → ℕ → ℕ → ℕ
  first_lists lists n j = cond (ltb j n) (left_at lists j) 0

  pub no_fronts : (lists : List (List ℕ)) (fronts : List (Reverse (Front K V))) → fronts ≡ [] → IsHeap (front_cmp job) fronts → AreFronts job (first_lists lists 0) lists fronts
  no_fronts lists (f ∷ fronts) e heap = cc
  no_fronts lists [] e heap = record {
    order = heap;
    first = tt;
    once = λ j. elim (ltb j 0) as (λ b. ltb j 0 ≡ b → 0 ≡ cond b (left_at lists j) 0) [ true ↦ λ t. absurd (let l = ltb-true j 0 t in omega arith) | false ↦ λ _. refl ] refl;
  }

  pub fronts_more : (lists : List (List ℕ)) (i : ℕ) (bytes : List ℕ) (before after : List (Reverse (Front K V))) → AreFronts job (first_lists lists i) lists before → slice_get lists i ≡ Some bytes → Adds job i bytes before after → AreFronts job (first_lists lists (i + 1)) lists after
  fronts_more lists i bytes before after all there adds = fronts_added job key_laws value_laws order (first_lists lists i) (first_lists lists (i + 1)) lists i bytes before after all there adds count where
    count : (j : ℕ) → first_lists lists (i + 1) j ≡ first_lists lists i j + cond (eqb i j) (left_at lists i) 0
    count j =
        elim (eqb i j) as (λ b. eqb i j ≡ b → first_lists lists (i + 1) j ≡ first_lists lists i j + cond b (left_at lists i) 0) [
          | true ↦ λ t.
              let same : i ≡ j = eqb-true i j t in
              let now : first_lists lists (i + 1) j ≡ left_at lists j = ap (λ b. cond b (left_at lists j) 0) (lt-ltb j (i + 1) (omega arith)) in
              let was : first_lists lists i j ≡ 0 = ap (λ b. cond b (left_at lists j) 0) (le-ltb j i (omega arith)) in
              let left : left_at lists i ≡ left_at lists j = ap (left_at lists) same in
              omega arith
          | false ↦ λ t.
              let apart : i ≢ j = eqb-false i j t in
              elim (ltb j i) as (λ b. ltb j i ≡ b → first_lists lists (i + 1) j ≡ first_lists lists i j + 0) [
                | true ↦ λ l.
                    let below = ltb-true j i l in
                    let now : first_lists lists (i + 1) j ≡ left_at lists j = ap (λ b. cond b (left_at lists j) 0) (lt-ltb j (i + 1) (omega arith)) in
                    let was : first_lists lists i j ≡ left_at lists j = ap (λ b. cond b (left_at lists j) 0) l in
                    omega arith
                | false ↦ λ l.
                    let above = ltb-false j i l in
                    let now : first_lists lists (i + 1) j ≡ 0 = ap (λ b. cond b (left_at lists j) 0) (le-ltb j (i + 1) (omega arith)) in
                    let was : first_lists lists i j ≡ 0 = ap (λ b. cond b (left_at lists j) 0) l in
                    omega arith
              ] refl
        ] refl

  pub fronts_all : (lists : List (List ℕ)) (n : ℕ) (fronts : List (Reverse (Front K V))) → length lists ≤ n → AreFronts job (first_lists lists n) lists fronts → AreFronts job (left_at lists) lists fronts
  fronts_all lists n fronts all fs = record {
    order = fs.order;
    first = fs.first;
    once = λ j. fs.once j ∙ elim (ltb j n) as (λ b. ltb j n ≡ b → cond b (left_at lists j) 0 ≡ left_at lists j) [
      | true ↦ λ _. refl
      | false ↦ λ l. let above = ltb-false j n l in ap left_in (sym (slice_get_past lists j (omega arith)))
    ] refl;
  }

-- a list among those that are lent
pub lent_at : (xs ys : List (Bor (List ℕ))) (i : ℕ) (d : Bor (List ℕ)) → ys ≡ xs → i < length ys → slice_get (map (λ (b : Bor (List ℕ)). b.now) xs) i ≡ Some (get_or ys i d).now
lent_at xs ys i d e l =
    slice_get-map (λ (b : Bor (List ℕ)). b.now) xs i ∙ ap (λ (zs : List (Bor (List ℕ))). option_map (λ (b : Bor (List ℕ)). b.now) (slice_get zs i)) (sym e) ∙ ap (option_map (λ (b : Bor (List ℕ)). b.now)) (slice_get-get_or ys i d l)
