-- The code's set of attempts, seen as a finite set.
use Rattle.std.proofs.Common.{◌≡◌, ◌+◌, Bool, true, false, cond, ◌||◌, List, [], ◌∷◌, length, refl, sym, ap, ◌∙◌, arith}
use Rattle.std.specs.List.{list_any, IsDistinct, AllByRecursion}
use Rattle.std.specs.Ordering.{eq_by_cmp, is_eq}
use Rattle.std.specs.Cmp.{Equal-is, tied_itself, both_ways}
use Rattle.std.specs.FinSet as set
use Rattle.mr_ids.specs.Attempt.{Attempt}
use Rattle.std.specs.Bool.{Decides}
use Rattle.std.specs.HashSet.{HashSet, hash_set_eq}
use Rattle.std.proofs.lemmas.Map.Lookups.{hash_set_eq_decides}
use Rattle.mr_ids.specs.contracts.id.AttemptIdPartialEq.TheImpl.{eq-value}
use Rattle.mr_ids.specs.contracts.id.AttemptIdEq.TheImpl.Laws.{laws-law}
use Rattle.mr_ids.proofs.Same.{attempt-is, attempt-itself}
use Rattle.mr_names.specs.Attempts.{attempt_cmp, attempt_total, attempt_exact}

-- `==` of attempts holds where their order ties them
pub eq-tied : (a b : Attempt) → eq-value.it a b ≡ eq_by_cmp attempt_cmp a b
eq-tied a b = both_ways (eq-value.it a b) (eq_by_cmp attempt_cmp a b)
    (λ e. ap (eq_by_cmp attempt_cmp a) (sym (attempt-is a b e)) ∙ ap is_eq (tied_itself attempt_total a))
    (λ e. ap (eq-value.it a) (sym (attempt_exact a b ((Equal-is (attempt_cmp a b)).0 e))) ∙ attempt-itself a)

pub the_tied : eq-value.it ≡ eq_by_cmp attempt_cmp
the_tied = λ i a b. eq-tied a b i

-- what a look-up finds
pub has-contains : (ks : List Attempt) (a : Attempt) → list_any (eq-value.it a) ks ≡ set.contains (set.from_list {R = attempt_cmp} ks) a
has-contains ks a = ap (λ (f : Attempt → Attempt → Bool). list_any (f a) ks) the_tied ∙ sym (set.contains-from_list attempt_total ks a)

-- an attempt put in
pub inserted : (xs ys : List Attempt) (a : Attempt) → ((q : Attempt) → list_any (eq-value.it q) ys ≡ cond (eq-value.it a q) true (list_any (eq-value.it q) xs))
    → set.from_list {R = attempt_cmp} ys ≡ set.insert (set.from_list xs) a
inserted xs ys a each = set.same_set attempt_total attempt_exact _ _ (λ q.
    sym (has-contains ys q) ∙ each q ∙ by q (eq-value.it a q) refl (list_any (eq-value.it q) xs) (has-contains xs q)
    ∙ sym (set.contains-insert attempt_total (set.from_list xs) a q))
  where
    turned : (q : Attempt) → eq_by_cmp attempt_cmp q a ≡ eq-value.it a q
    turned q = sym (eq-tied q a) ∙ both_ways (eq-value.it q a) (eq-value.it a q)
        (λ e. ap (λ x. eq-value.it a x) (attempt-is q a e) ∙ attempt-itself a)
        (λ e. ap (λ x. eq-value.it q x) (attempt-is a q e) ∙ attempt-itself q)

    by : (q : Attempt) (m : Bool) → eq-value.it a q ≡ m → (n : Bool) → n ≡ set.contains (set.from_list {R = attempt_cmp} xs) q
        → cond m true n ≡ (eq_by_cmp attempt_cmp q a || set.contains (set.from_list {R = attempt_cmp} xs) q)
    by q true e n is = rw (turned q, e) refl
    by q false e n is = rw (turned q, e) is

-- how many there are
pub counted : (ks : List Attempt) → IsDistinct eq-value.it ks → set.len (set.from_list {R = attempt_cmp} ks) ≡ length ks
unfolding IsDistinct
counted [] d = set.len-empty attempt_cmp
counted (k ∷ ks) d =
    set.len-insert attempt_total (set.from_list ks) k ∙ rw (sym (has-contains ks k) ∙ none ks d.0) (ap (λ n. n + 1) (counted ks d.1) ∙ one_more)
  where
    none : (xs : List Attempt) → AllByRecursion (λ y. eq-value.it k y ≡ false) xs → list_any (eq-value.it k) xs ≡ false
    none [] h = refl
    none (x ∷ xs) h = rw (h.0) (none xs h.1)

    one_more : length ks + 1 ≡ length (k ∷ ks)
    one_more = omega arith

-- `==` of two sets in the code holds exactly where the finite sets are one
pub same_attempts : {S : Type 0} (s t : HashSet Attempt S) (r : Bool) → r ≡ hash_set_eq eq-value.it s t → Decides r (set.from_list {R = attempt_cmp} s.keys ≡ set.from_list t.keys)
same_attempts s t r is =
    let told = hash_set_eq_decides laws-law s t in (
      λ yes. set.same_set attempt_total attempt_exact _ _ (λ q. sym (has-contains s.keys q) ∙ told.0 (sym is ∙ yes) q ∙ has-contains t.keys q),
      λ same. is ∙ told.1 (λ q. has-contains s.keys q ∙ ap (λ x. set.contains x q) same ∙ sym (has-contains t.keys q)),
    )
