-- The steps of a merge, in the words of its functions.
use Rattle.std.proofs.Common.{◌≡◌, ◌≢◌, ℕ, ◌<◌, ◌≤◌, Bool, true, false, ◌==◌, List, [], ◌∷◌, ◌++◌, length, get_or, Result, Ok, Err, OnErr, refl, sym, ap, subst, ◌∙◌, append_assoc, length-append, arith}
use Rattle.std.proofs.lemmas.Option.{get_or_from_slice_get, slice_get_within}
use Rattle.std.proofs.Math.ListN.{set}
use Rattle.std.specs.BinaryHeap.{IsHeap, IsUpperBound, PopsGreatest}
use Rattle.std.specs.Cmp.{IsTotalOrder}
use Rattle.std.specs.FinMap.{IsAntisymmetric}
use Rattle.std.specs.List.{AllByRecursion}
use Rattle.std.specs.List.Sorted.{IsPermutation}
use Rattle.std.specs.Ordering.{is_gt, ordering_index}
use Rattle.std.specs.declared.cmp.Ordering.{Ordering}
use Rattle.std.specs.declared.cmp.Ordering.TheVariants.{Less, Equal, Greater}
use Rattle.std.specs.declared.cmp.Reverse.{Reverse}
use Rattle.mr_user.specs.Computation.{Computation}
use Rattle.mr_user.specs.Groups.{values_of, groups_of}
use Rattle.mr_user.specs.Laws.{CodecLaws}
use Rattle.mr_user.specs.Meaning.{others_of}
use Rattle.mr_user.proofs.Grouping.{gathered}
use Rattle.mr_mapside.specs.declared.front.Front.{Front}
use Rattle.mr_mapside.specs.Runs.{ArePairs, pairs_in_all, merged}
use Rattle.mr_mapside.specs.inner.Fronts.{front_cmp, IsFirst, Holds, rest_at, Without, AreNotBelow, BeginWith, TakesRun, Passes, Takes}
use Rattle.mr_mapside.proofs.RunReading.{pair_within}
use Rattle.mr_mapside.proofs.RunFronts.{fronts_popped, opened, run_taken, settled, rest_is, pairs_left, least_is, front_not_below, without_least, nothing_left, first_group, group_given}

first_same : {A : Type 0} (xs : List A) (x y : A) → 0 < length xs → x ≡ get_or xs 0 x → y ≡ get_or xs 0 y → x ≡ y
first_same [] x y l a b = absurd (omega arith)
first_same (z ∷ xs) x y l a b = a ∙ sym b

first_passes : {A : Type 0} (P : A → Type 0) (xs : List A) (x : A) → 0 < length xs → x ≡ get_or xs 0 x → AllByRecursion P xs → P x
first_passes P [] x l a h = absurd (omega arith)
first_passes P (z ∷ xs) x l a h = subst P (sym a) h.0

tied_only : (o : Ordering) → is_gt o ≡ false → (o ≢ Less) → o ≡ Equal
tied_only Less g n = absurd (n refl)
tied_only Equal g n = refl
tied_only Greater g n = cc

module _ {K V : Type 0} (job : Computation K V) (key_laws : CodecLaws job.key) (value_laws : CodecLaws job.value) (order : IsTotalOrder job.cmp) (same : IsAntisymmetric job.cmp) where
  abbrev F : Type 0
  F = Reverse (Front K V)

  -- what a pop tells
  abbrev pub Popped : List (List ℕ) → List F → List F → F → Type 0
  Popped lists fronts rest f = Holds job lists fronts × IsPermutation fronts (f ∷ rest) × PopsGreatest (front_cmp job) fronts f rest

  pub first_of : (lists : List (List ℕ)) (fronts rest : List F) (f : F) → Popped lists fronts rest f → IsFirst job lists f.0
  first_of lists fronts rest f p = (fronts_popped job key_laws value_laws order lists fronts rest f p.0.all p.1 (p.2 p.0.all.order).0).1

  pub place_there : (lists : List (List ℕ)) (fronts rest : List F) (f : F) → Popped lists fronts rest f → f.0.list < length lists
  place_there lists fronts rest f p = let first = first_of lists fronts rest f p in slice_get_within lists f.0.list first.bytes first.there

  pub pair_fits : (lists : List (List ℕ)) (fronts rest : List F) (f : F) → Popped lists fronts rest f → f.0.len ≤ length (get_or lists f.0.list [])
  pair_fits lists fronts rest f p =
      let first = first_of lists fronts rest f p in
      subst (λ (bytes : List ℕ). f.0.len ≤ length bytes) (sym (get_or_from_slice_get lists f.0.list first.bytes [] first.there)) (pair_within job key_laws value_laws first.bytes ((f.0.key, f.0.value), f.0.len) first.pair)

  pub pairs_then : (lists : List (List ℕ)) (fronts rest : List F) (f : F) → Popped lists fronts rest f → ArePairs job (rest_at lists f.0.list f.0.len)
  pairs_then lists fronts rest f p = pairs_left job key_laws value_laws order lists f.0 p.0.runs (first_of lists fronts rest f p)

  pub least_first_front : (lists : List (List ℕ)) (fronts rest : List F) (f : F) → Popped lists fronts rest f → AreNotBelow job f.0.key lists
  least_first_front lists fronts rest f p = least_is job key_laws value_laws order lists fronts f p.0 (p.2 p.0.all.order).1

  -- the first value of the least key
  pub first_taken : (lists : List (List ℕ)) (fronts rest : List F) (f : F) → Popped lists fronts rest f → Passes job f.0.key (f.0.value ∷ []) lists (set lists f.0.list (rest_at lists f.0.list f.0.len))
  first_taken lists fronts rest f p =
      let o = opened job key_laws value_laws order lists fronts rest f p.0 (p.2 p.0.all.order).1 p.1 (p.2 p.0.all.order).0 in
      (run_taken job key_laws value_laws order f.0.key (f.0.value ∷ []) f.0.list o.0.bytes (rest_at lists f.0.list f.0.len) lists rest o.1 (f.0.len, o.0.pair, sym (rest_is job key_laws value_laws order lists f.0 o.0))).1

  -- a run was taken behind a front with a value: its values, and the lists then
  pub record Ran (k : K) (v : V) (lists now : List (List ℕ)) (after : List F) (values then : List V) : Type 0 where
    pub vs : List V
    pub more : then ≡ values ++ vs
    pub holds : Holds job now after
    pub low : AreNotBelow job k now
    pub passes : Passes job k (v ∷ vs) lists now

  pub run_then : (k : K) (lists now : List (List ℕ)) (fronts rest after : List F) (f : F) (values then : List V) → Popped lists fronts rest f → k ≡ f.0.key →
      TakesRun job k f.0.list (rest_at lists f.0.list f.0.len) lists rest values now after then → Ran k f.0.value lists now after values then
  run_then k lists now fronts rest after f values then p e =
      subst (λ (k : K). TakesRun job k f.0.list (rest_at lists f.0.list f.0.len) lists rest values now after then → Ran k f.0.value lists now after values then) (sym e) ran where
        ran : TakesRun job f.0.key f.0.list (rest_at lists f.0.list f.0.len) lists rest values now after then → Ran f.0.key f.0.value lists now after values then
        ran t =
            let o = opened job key_laws value_laws order lists fronts rest f p.0 (p.2 p.0.all.order).1 p.1 (p.2 p.0.all.order).0 in
            let cut = rest_is job key_laws value_laws order lists f.0 o.0 in
            let all = run_taken job key_laws value_laws order f.0.key (f.0.value ∷ t.taken) f.0.list o.0.bytes t.rest lists rest o.1
            (f.0.len, o.0.pair, subst (λ (bytes : List ℕ). BeginWith job f.0.key t.taken bytes t.rest) cut t.begins) in
            subst (λ (now : List (List ℕ)). Ran f.0.key f.0.value lists now after values then) (sym t.now)
            (record { vs = t.taken; more = t.more; holds = settled job key_laws value_laws order f.0.key f.0.list t.rest (set lists f.0.list t.rest) rest after all.0 t.front; low = all.0.low; passes = all.1 })

  -- the front that was looked at has the key
  pub tied_key : (k : K) (lists : List (List ℕ)) (fronts rest : List F) (f top : F) → Popped lists fronts rest f → AreNotBelow job k lists → 0 < length fronts → f ≡ get_or fronts 0 f → top ≡ get_or fronts 0 top → job.cmp k top.0.key ≢ Less → k ≡ f.0.key
  tied_key k lists fronts rest f top p low some at_f at_top not_less =
      let e : top ≡ f = first_same fronts top f some at_top at_f in
      same k f.0.key (tied_only (job.cmp k f.0.key) (front_not_below job key_laws value_laws order k lists f.0 (first_of lists fronts rest f p) low) (λ l. not_less (ap (λ (g : F). job.cmp k g.0.key) e ∙ l)))

  pub none_left : (k : K) (lists : List (List ℕ)) (fronts : List F) → Holds job lists fronts → length fronts ≡ 0 → Without job.cmp k (pairs_in_all job lists)
  none_left k lists fronts holds e = subst (Without job.cmp k) (sym (nothing_left job key_laws value_laws order lists fronts holds e)) tt

  pub merged_none : (lists : List (List ℕ)) (fronts : List F) → Holds job lists fronts → length fronts ≡ 0 → merged job lists ≡ []
  merged_none lists fronts holds e = ap (groups_of job.cmp) (nothing_left job key_laws value_laws order lists fronts holds e) ∙ sym (gathered job.cmp order same [] tt)

  pub merged_some : (lists : List (List ℕ)) (fronts rest : List F) (f : F) → Popped lists fronts rest f → merged job lists ≢ []
  merged_some lists fronts rest f p e =
      let given = first_taken lists fronts rest f p in
      let first = first_group job order same f.0.key f.0.value _ lists given.values (least_first_front lists fronts rest f p) in cc

  pub without_top : (k : K) (lists : List (List ℕ)) (fronts : List F) (top : F) → Holds job lists fronts → (IsHeap (front_cmp job) fronts → IsUpperBound (front_cmp job) top fronts) → job.cmp k top.0.key ≡ Less → Without job.cmp k (pairs_in_all job lists)
  without_top k lists fronts top holds upper less = without_least job key_laws value_laws order k lists fronts top holds (upper holds.all.order) less

module _ {K V : Type 0} (job : Computation K V) (key_laws : CodecLaws job.key) (value_laws : CodecLaws job.value) (order : IsTotalOrder job.cmp) (same : IsAntisymmetric job.cmp) where
  -- a group's values were taken, and no list has its key any more
  pub given_then : (lists after : List (List ℕ)) (fronts rest : List (Reverse (Front K V))) (f : Reverse (Front K V)) (values : List V) → Popped job key_laws value_laws order same lists fronts rest f →
      values_of job.cmp f.0.key (pairs_in_all job lists) ≡ values ++ values_of job.cmp f.0.key (pairs_in_all job after) → others_of job.cmp f.0.key (pairs_in_all job lists) ≡ others_of job.cmp f.0.key (pairs_in_all job after) →
      Without job.cmp f.0.key (pairs_in_all job after) → merged job lists ≡ (f.0.key, values) ∷ merged job after
  given_then lists after fronts rest f values p given others none =
      let first = first_taken job key_laws value_laws order same lists fronts rest f p in
      group_given job order same f.0.key f.0.value _ values lists after first.values (least_first_front job key_laws value_laws order same lists fronts rest f p) given others none

module _ {K V : Type 0} (job : Computation K V) (k : K) (all : List (List ℕ)) where
  -- the values of a key that were taken are the first of all, and nothing of other keys was
  pub record Given (held : List V) (now : List (List ℕ)) : Type 0 where
    pub values : values_of job.cmp k (pairs_in_all job all) ≡ held ++ values_of job.cmp k (pairs_in_all job now)
    pub others : others_of job.cmp k (pairs_in_all job all) ≡ others_of job.cmp k (pairs_in_all job now)

  -- the first are
  pub first_given : (v : V) (vs held then : List V) (now : List (List ℕ)) → Passes job k (v ∷ vs) all now → then ≡ held ++ vs → held ≡ v ∷ [] → Given then now
  first_given v vs held then now passes more one = record {
    values = passes.values ∙ ap (λ (ws : List V). ws ++ values_of job.cmp k (pairs_in_all job now)) (sym (more ∙ ap (λ (ws : List V). ws ++ vs) one));
    others = passes.others;
  }

  -- more of them are taken, and fewer are left
  pub given_more : (values then : List V) (now after : List (List ℕ)) (some : Bool) → some ≡ true → Given values now → Takes job k now values some after then →
      Given then after × (length (values_of job.cmp k (pairs_in_all job after)) < length (values_of job.cmp k (pairs_in_all job now)))
  given_more values then now after false e g t = absurd cc
  given_more values then now after true e g (v, vs, more, passes) = (
    record {
      values = g.values ∙ ap (λ (ws : List V). values ++ ws) passes.values ∙ sym (append_assoc values (v ∷ vs) (values_of job.cmp k (pairs_in_all job after))) ∙ ap (λ (ws : List V). ws ++ values_of job.cmp k (pairs_in_all job after)) (sym more);
      others = g.others ∙ passes.others;
    },
    let long = ap (λ (ws : List V). length ws) passes.values in
        let sum = length-append vs (values_of job.cmp k (pairs_in_all job after)) in
        omega arith,
  )

  -- none was left
  pub given_all : (values then : List V) (now after : List (List ℕ)) (some : Bool) → some ≡ false → Given values now → Takes job k now values some after then → Given then after × Without job.cmp k (pairs_in_all job after)
  given_all values then now after true e g t = absurd cc
  given_all values then now after false e g (same, kept, none) =
      subst (λ (ls : List (List ℕ)). Given then ls × Without job.cmp k (pairs_in_all job ls)) (sym same) (subst (λ (ws : List V). Given ws now) (sym kept) g, none)

pub on_err_always : {A E : Type 0} (r : Result A E) (P : Type 0) → P → OnErr r P
on_err_always (Ok x) P h = tt
on_err_always (Err e) P h = h

-- nothing was in a heap
pub no_length : {A : Type 0} (xs : List A) (n : ℕ) → n ≡ length xs → (0 < n → ⊥) → length xs ≡ 0
no_length [] n e h = omega arith
no_length (x ∷ xs) n e h = absurd (h (omega arith))

-- what a comparison answered
pub at_less : (o : Ordering) (b : Bool) → b ≡ (ordering_index o == 0) → b ≡ true → o ≡ Less
at_less Less b e t = refl
at_less Equal b e t = cc
at_less Greater b e t = cc

pub not_at_less : (o : Ordering) (b : Bool) → b ≡ (ordering_index o == 0) → b ≡ false → o ≢ Less
not_at_less Less b e f l = cc
not_at_less Equal b e f l = cc
not_at_less Greater b e f l = cc

-- no lists have no groups
pub merged_nothing : {K V : Type 0} (job : Computation K V) (order : IsTotalOrder job.cmp) (same : IsAntisymmetric job.cmp) → merged job [] ≡ []
merged_nothing job order same = sym (gathered job.cmp order same [] tt)
