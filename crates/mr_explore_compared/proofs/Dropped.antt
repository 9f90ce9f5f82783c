-- The same was dropped in two plays.
use Rattle.std.proofs.Common.{ℕ, ◌+◌, ◌-◌, ◌<◌, ◌≡◌, refl, sym, ◌∙◌, ap, arith, Bool, true, false, ◌||◌, ◌&&◌, ◌==◌, List, [], ◌∷◌, nat_lt, nat_le, Ordering, Less, Equal, Greater}
use Rattle.std.specs.Cmp.{nat_cmp_is}
use Rattle.std.specs.Ordering.{is_eq, nat_cmp}
use Rattle.std.proofs.lemmas.Map.Lookups.{exact_unsigned}
use Rattle.std.proofs.lemmas.Bool.{and_parts, true≢false, eqb-true, ltb-true, leb-true}
use Rattle.mr_play.specs.Played.{Played, is_dropped}
use Rattle.mr_explore_compared.specs.inner.Compared.{AreDroppedAlike, all_dropped_too, dropped_too, lies_there}

or-case : {A : Type 0} (a b : Bool) → (a || b) ≡ true → (a ≡ true → A) → (b ≡ true → A) → A
or-case true b e f g = f refl
or-case false b e f g = g e

or-right : (a b : Bool) → b ≡ true → (a || b) ≡ true
or-right true b e = refl
or-right false b e = e

are-equal : (o : Ordering) → is_eq o ≡ true → o ≡ Equal
are-equal Less e = absurd (true≢false (sym e))
are-equal Equal e = refl
are-equal Greater e = absurd (true≢false (sym e))

is-one : (a b : ℕ) → is_eq (nat_cmp a b) ≡ true → a ≡ b
is-one a b e = exact_unsigned a b (are-equal (nat_cmp a b) e)

is-itself : (a b : ℕ) → a ≡ b → is_eq (nat_cmp a b) ≡ true
is-itself a b e = ap is_eq (sym (nat_cmp_is a b Equal e))

module _ (m n : ℕ) where
  -- one of these lies as far behind n
  far : (others : List ℕ) (place i : ℕ) → place ≡ m + i → lies_there n (place - m) others ≡ true → is_dropped others (n + i) ≡ true
  far [] place i p e = absurd (true≢false (sym e))
  far (k ∷ ks) place i p e =
      or-case (nat_le n k && ((k - n) == (place - m))) (lies_there n (place - m) ks) e
      (λ q. let both = and_parts (nat_le n k) ((k - n) == (place - m)) q in
      let least = leb-true n k both.0 in
      let as_far = eqb-true (k - n) (place - m) both.1 in
      ap (λ b. b || is_dropped ks (n + i)) (is-itself (n + i) k (omega (arith, p, least, as_far))))
      (λ q. or-right (is_eq (nat_cmp (n + i) k)) (is_dropped ks (n + i)) (far ks place i p q))

  there : (others places : List ℕ) (i : ℕ) → all_dropped_too m n places others ≡ true → is_dropped places (m + i) ≡ true → is_dropped others (n + i) ≡ true
  there others [] i all d = absurd (true≢false (sym d))
  there others (k ∷ ks) i all d =
      let both = and_parts (dropped_too m n others k) (all_dropped_too m n ks others) all in
      or-case (is_eq (nat_cmp (m + i) k)) (is_dropped ks (m + i)) d
      (λ q. let p = is-one (m + i) k q in
      or-case (nat_lt k m) (lies_there n (k - m) others) both.0
      (λ l. let less = ltb-true k m l in absurd (omega (arith, p, less)))
      (λ r. far others k i (sym p) r))
      (λ q. there others ks i both.1 q)

same : (a b : Bool) → (a ≡ true → b ≡ true) → (b ≡ true → a ≡ true) → a ≡ b
same true b f g = sym (f refl)
same false true f g = g refl
same false false f g = refl

pub dropped-alike : (s t : Played) → AreDroppedAlike s t → (i : ℕ) → is_dropped s.dropped (s.cursor + i) ≡ is_dropped t.dropped (t.cursor + i)
dropped-alike s t d i = same (is_dropped s.dropped (s.cursor + i)) (is_dropped t.dropped (t.cursor + i))
    (there s.cursor t.cursor t.dropped s.dropped i d.here)
    (there t.cursor s.cursor s.dropped t.dropped i d.there)

-- where a place is not passed over, those of the other play decide
pub passed-or : (m n place : ℕ) (others : List ℕ) (b : Bool) → (place < m → ⊥) → b ≡ lies_there n (place - m) others → b ≡ dropped_too m n others place
passed-or m n place others b least is = is ∙ by (nat_lt place m) refl
  where
    by : (c : Bool) → nat_lt place m ≡ c → lies_there n (place - m) others ≡ (c || lies_there n (place - m) others)
    by true e = absurd (least (ltb-true place m e))
    by false e = refl
