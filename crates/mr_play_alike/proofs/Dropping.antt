-- What is dropped of two alike plays stays the same.
use Rattle.std.proofs.Common.{ℕ, ◌+◌, ◌<◌, ◌≡◌, refl, sym, ◌∙◌, ap, arith, Bool, true, false, ◌||◌, List, [], ◌∷◌, nat_lt, Ordering, Less, Equal, Greater}
use Rattle.std.specs.BTreeSet.{insert_key}
use Rattle.std.specs.Cmp.{nat_cmp_is}
use Rattle.std.specs.List.{list_any}
use Rattle.std.specs.Ordering.{match_ordering, is_eq, nat_cmp}
use Rattle.std.proofs.lemmas.Bool.{ltb-true, ltb-false}
use Rattle.std.proofs.lemmas.Map.Lookups.{exact_unsigned}
use Rattle.mr_world_model.specs.Packets.{Config}
use Rattle.mr_world_model.specs.Claims.{Limits}
use Rattle.mr_world_model.specs.Sequential.{Job}
use Rattle.mr_play_alike.specs.Plays.{AlikePlaysDropAlike}

twice : (a b c : Bool) → a ≡ b → (b || c) ≡ (a || (b || c))
twice true b c q = ap (λ (x : Bool). x || c) (sym q)
twice false b c q = refl

swap-or : (a b c : Bool) → (a || (b || c)) ≡ (b || (a || c))
swap-or true true c = refl
swap-or true false c = refl
swap-or false b c = refl

any-insert : (f : ℕ → Bool) (ds : List ℕ) (p : ℕ) → list_any f (insert_key nat_cmp ds p) ≡ (f p || list_any f ds)
any-insert f [] p = refl
any-insert f (d ∷ ds) p = by (nat_cmp p d) refl (any-insert f ds p)
  where
    by : (o : Ordering) → nat_cmp p d ≡ o → list_any f (insert_key nat_cmp ds p) ≡ (f p || list_any f ds) → list_any f (match_ordering o (p ∷ d ∷ ds) (d ∷ ds) (d ∷ insert_key nat_cmp ds p)) ≡ (f p || (f d || list_any f ds))
    by Less e m = refl
    by Equal e m = twice (f p) (f d) (list_any f ds) (ap f (exact_unsigned p d e))
    by Greater e m = ap (λ (b : Bool). f d || b) m ∙ swap-or (f d) (f p) (list_any f ds)

cmp-shift : (m n i j : ℕ) → nat_cmp (m + j) (m + i) ≡ nat_cmp (n + j) (n + i)
cmp-shift m n i j = by (nat_lt j i) (nat_lt i j) refl refl
  where
    by : (b c : Bool) → nat_lt j i ≡ b → nat_lt i j ≡ c → nat_cmp (m + j) (m + i) ≡ nat_cmp (n + j) (n + i)
    by true c e f =
        let l = ltb-true j i e in
        let x : m + j < m + i = omega (arith, l) in
        let y : n + j < n + i = omega (arith, l) in
        sym (nat_cmp_is (m + j) (m + i) Less x) ∙ nat_cmp_is (n + j) (n + i) Less y
    by false true e f =
        let l = ltb-true i j f in
        let x : m + i < m + j = omega (arith, l) in
        let y : n + i < n + j = omega (arith, l) in
        sym (nat_cmp_is (m + j) (m + i) Greater x) ∙ nat_cmp_is (n + j) (n + i) Greater y
    by false false e f =
        let l = ltb-false j i e in
        let r = ltb-false i j f in
        let x : m + j ≡ m + i = omega (arith, l, r) in
        let y : n + j ≡ n + i = omega (arith, l, r) in
        sym (nat_cmp_is (m + j) (m + i) Equal x) ∙ nat_cmp_is (n + j) (n + i) Equal y

pub drop_alike : (job : Job) (cfg : Config) (within : Limits) → AlikePlaysDropAlike job cfg within
drop_alike job cfg within i s t o =
    record {
      alike = o.alike;
      packets = o.packets;
      dropped = λ j.
          any-insert (λ place. is_eq (nat_cmp (s.cursor + j) place)) s.dropped (s.cursor + i)
          ∙ ((λ x. is_eq (cmp-shift s.cursor t.cursor i j x) || o.dropped j x)
          ∙ sym (any-insert (λ place. is_eq (nat_cmp (t.cursor + j) place)) t.dropped (t.cursor + i)));
      stepped = o.stepped;
    }
