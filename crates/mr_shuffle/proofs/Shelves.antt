-- The shelf's entries, seen as a finite map by attempts.
use Rattle.std.proofs.Common.{◌≡◌, ◌↔◌, ℕ, Bool, true, false, cond, List, [], ◌∷◌, Some, None, IsTrue, nat_eq, refl, sym, ap, subst, ◌∙◌, rules}
use Rattle.std.proofs.lemmas.Bool.{true≢false}
use Rattle.std.proofs.lemmas.Cmp.{nat_list_cmp_total, tied_itself}
use Rattle.std.proofs.lemmas.Map.Lookups.{hash_map_eq-Decides}
use Rattle.std.proofs.lemmas.Slice.Eq.{slice_eq-Decides}
use Rattle.std.specs.Bool.{Decides}
use Rattle.std.specs.Cmp.{IsEquivalence, IsTotalOrder}
use Rattle.std.specs.Cmp.Lexicographic.{pointwise}
use Rattle.std.specs.FinMap as finite
use Rattle.std.specs.FinMap.Entries.{find}
use Rattle.std.specs.List.{slice_get}
use Rattle.std.specs.Map.{lookup}
use Rattle.std.specs.Option.{option_and_then}
use Rattle.std.specs.Ordering.{eq_by_cmp, is_eq}
use Rattle.std.specs.declared.cmp.Ordering.{Ordering}
use Rattle.std.specs.declared.cmp.Ordering.TheVariants.{Less, Equal, Greater}
use Rattle.indexmap.specs.IndexMap.{IndexMap, get, index_map_eq}
use Rattle.mr_ids.specs.Attempt.{Attempt}
use Rattle.mr_ids.specs.declared.id.TaskKind.{TaskKind}
use Rattle.mr_ids.specs.declared.id.TaskKind.TheVariants.{Map, Reduce}
use Rattle.mr_ids.specs.contracts.id.AttemptIdPartialEq.TheImpl.{eq-value}
use Rattle.mr_ids.proofs.Same.{attempt-is, attempt-itself}
use Rattle.mr_mapside.specs.Cutting.{cut}
use Rattle.mr_shuffle.specs.Shelf.{Shelf, kind_number, numbers_of, attempt_cmp, AttemptsAreApart, Outputs, block_there}

-- the order of the numbers, at attempts
attempt_order : IsTotalOrder attempt_cmp
attempt_order = record {
  antisymm = λ a b. nat_list_cmp_total.antisymm (numbers_of a) (numbers_of b);
  trans = λ a b c. nat_list_cmp_total.trans (numbers_of a) (numbers_of b) (numbers_of c);
  congr = λ a b c. nat_list_cmp_total.congr (numbers_of a) (numbers_of b) (numbers_of c);
}

kind_is : (k l : TaskKind) → kind_number k ≡ kind_number l → k ≡ l
kind_is Map Map e = refl
kind_is Map Reduce e = cc
kind_is Reduce Map e = cc
kind_is Reduce Reduce e = refl

numbers_are : (a b : Attempt) → numbers_of a ≡ numbers_of b → a ≡ b
numbers_are a b e =
    let start : a.task.job.start ≡ b.task.job.start = cc in
    let job : a.task.job.number ≡ b.task.job.number = cc in
    let number : kind_number a.task.kind ≡ kind_number b.task.kind = cc in
    let kind : a.task.kind ≡ b.task.kind = kind_is a.task.kind b.task.kind number in
    let task : a.task.number ≡ b.task.number = cc in
    let attempt : a.number ≡ b.number = cc in
    λ i. record { task = record { job = record { start = start i; number = job i }; kind = kind i; number = task i }; number = attempt i }

-- attempts that tie are one
attempt_exact : finite.IsAntisymmetric attempt_cmp
attempt_exact a b e = numbers_are a b (finite.slice_cmp-IsAntisymmetric finite.nat_cmp-IsAntisymmetric (numbers_of a) (numbers_of b) e)

equal : (o : Ordering) → is_eq o ≡ true → o ≡ Equal
equal Less e = cc
equal Equal e = refl
equal Greater e = cc

tied_are : (a b : Attempt) → eq_by_cmp attempt_cmp a b ≡ true → a ≡ b
tied_are a b e = attempt_exact a b (equal (attempt_cmp a b) e)

are_tied : (a b : Attempt) → a ≡ b → eq_by_cmp attempt_cmp a b ≡ true
are_tied a b e = ap (λ b. eq_by_cmp attempt_cmp a b) (sym e) ∙ ap is_eq (tied_itself attempt_order a)

pub attempts_are_apart : AttemptsAreApart
attempts_are_apart a b = (tied_are a b, are_tied a b)

both_ways : (s t : Bool) → (s ≡ true → t ≡ true) → (t ≡ true → s ≡ true) → s ≡ t
both_ways true t f g = sym (f refl)
both_ways false true f g = g refl
both_ways false false f g = refl

-- the code's `==` of attempts
eq_is : (a b : Attempt) → eq-value.it a b ≡ eq_by_cmp attempt_cmp a b
eq_is a b = both_ways _ _ (λ e. are_tied a b (attempt-is a b e)) (λ e. subst (λ b. eq-value.it a b ≡ true) (tied_are a b e) (attempt-itself a))

swapped : (a b : Attempt) → eq_by_cmp attempt_cmp a b ≡ eq_by_cmp attempt_cmp b a
swapped a b = both_ways _ _ (λ e. are_tied b a (sym (tied_are a b e))) (λ e. are_tied a b (sym (tied_are b a e)))

-- what is at an attempt
lookup_is : (es : List (Attempt × List ℕ)) (q : Attempt) → lookup (eq-value.it q) es ≡ find attempt_cmp q es
lookup_is [] q = refl
lookup_is (e ∷ es) q = (λ i. cond (eq_is q e.0 i) (Some e.1) (lookup_is es q i))

pub output_at : (es : List (Attempt × List ℕ)) (q : Attempt) → lookup (eq-value.it q) es ≡ finite.get (finite.from_entries {R = attempt_cmp} es) q
output_at es q = lookup_is es q ∙ sym (finite.get-from_entries attempt_order es q)

-- an output that was put
pub output_put : (es fs : List (Attempt × List ℕ)) (a : Attempt) (bytes : List ℕ) → ((q : Attempt) → lookup (eq-value.it q) fs ≡ cond (eq-value.it a q) (Some bytes) (lookup (eq-value.it q) es)) →
    ◌≡◌ {A = Outputs} (finite.from_entries fs) (finite.insert (finite.from_entries es) a bytes)
output_put es fs a bytes h = finite.same_map attempt_order attempt_exact _ _ (λ q.
    sym (output_at fs q)
    ∙ h q
    ∙ (λ i. cond ((eq_is a q ∙ swapped a q) i) (Some bytes) (output_at es q i))
    ∙ sym (finite.get-insert attempt_order (finite.from_entries es) a bytes q))

-- nothing was put of an attempt
pub nothing_there : (es : List (Attempt × List ℕ)) (reduces : ℕ) (a : Attempt) (reduce : ℕ) → None ≡ lookup (eq-value.it a) es → None ≡ block_there (record { reduces = reduces; outputs = finite.from_entries es }) a reduce
nothing_there es reduces a reduce none = ap (option_and_then (λ bytes. option_and_then (λ blocks. slice_get blocks reduce) (cut reduces bytes))) (none ∙ output_at es a)

-- something was put
pub something_there : (es : List (Attempt × List ℕ)) (reduces : ℕ) (a : Attempt) (reduce : ℕ) (bytes : List ℕ) → Some bytes ≡ lookup (eq-value.it a) es →
    option_and_then (λ blocks. slice_get blocks reduce) (cut reduces bytes) ≡ block_there (record { reduces = reduces; outputs = finite.from_entries es }) a reduce
something_there es reduces a reduce bytes some = ap (option_and_then (λ bytes. option_and_then (λ blocks. slice_get blocks reduce) (cut reduces bytes))) (some ∙ output_at es a)

-- ---- shelves that hold the same

eq_equiv : IsEquivalence eq-value.it
eq_equiv = record {
  refl = attempt-itself;
  symm = λ a b. eq_is a b ∙ (swapped a b ∙ sym (eq_is b a));
  congr = λ a b c e. ap (λ (x : Attempt). eq-value.it x c) (attempt-is a b e);
}

numbers-decide : (a b : ℕ) → Decides (nat_eq a b) (a ≡ b)
numbers-decide = search (rules)

bytes-decide : (a b : List ℕ) → Decides (pointwise nat_eq a b) (a ≡ b)
bytes-decide a b = slice_eq-Decides numbers-decide a b _ refl

-- what `==` of two maps of outputs answers
outputs-decide : {S : Type 0} (m n : IndexMap Attempt (List ℕ) S) (r : Bool) → r ≡ index_map_eq eq-value.it (pointwise nat_eq) m n
    → Decides r (◌≡◌ {A = Outputs} (finite.from_entries m.entries) (finite.from_entries n.entries))
outputs-decide m n r is =
    let told : Decides r ((q : Attempt) → get eq-value.it m q ≡ get eq-value.it n q) = hash_map_eq-Decides eq_equiv bytes-decide m n r is in (
      λ yes. finite.same_map attempt_order attempt_exact _ _ (λ q. sym (output_at m.entries q) ∙ (told.0 yes q ∙ output_at n.entries q)),
      λ same. told.1 (λ q. output_at m.entries q ∙ (ap (λ (o : Outputs). finite.get o q) same ∙ sym (output_at n.entries q))),
    )

abbrev shelf_of : ℕ → Outputs → Shelf
shelf_of reduces outputs = record { reduces = reduces; outputs = outputs }

-- and of two shelves that are cut for as many reduces
pub shelves_decide : {S : Type 0} (s t : Shelf) (k l : ℕ) (m n : IndexMap Attempt (List ℕ) S) (r : Bool) → shelf_of k (finite.from_entries m.entries) ≡ s → shelf_of l (finite.from_entries n.entries) ≡ t → k ≡ l → r ≡ index_map_eq eq-value.it (pointwise nat_eq) m n → Decides r (s ≡ t)
shelves_decide s t k l m n r a b counts is =
    let told = outputs-decide m n r is in (
      λ yes. sym a ∙ ((λ i. shelf_of (counts i) (told.0 yes i)) ∙ b),
      λ same. told.1 (ap (λ (x : Shelf). x.outputs) (a ∙ (same ∙ sym b))),
    )

-- shelves that are cut for others are not the same
pub other_counts : (s t : Shelf) (k l : ℕ) (o p : Outputs) → shelf_of k o ≡ s → shelf_of l p ≡ t → (k ≡ l → ⊥) → IsTrue false ↔ (s ≡ t)
other_counts s t k l o p a b differ = (λ no. absurd (true≢false (sym no)), λ same. absurd (differ (ap (λ (x : Shelf). x.reduces) (a ∙ (same ∙ sym b)))))
