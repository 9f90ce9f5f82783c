-- The laws of the definitions.
use Rattle.std.proofs.Common.{◌≡◌, ◌≢◌, ℕ, cond, Bool, true, false, ◌&&◌, List, [], ◌∷◌, ◌++◌, map, refl, sym, ap, ◌∙◌, T, is_some}
use Rattle.std.proofs.lemmas.Bool.{ne_eqb}
use Rattle.std.specs.declared.cmp.Ordering.{Ordering}
use Rattle.std.specs.declared.cmp.Ordering.TheVariants.{Less, Equal, Greater}
use Rattle.std.specs.Cmp.{IsTotalOrder}
use Rattle.std.specs.List.{AllByRecursion, list_any}
use Rattle.std.specs.Ordering.{is_lt, eq_by_cmp}
use Rattle.std.specs.FinMap as finmap
use Rattle.std.specs.FinMap.Entries.{is_some-find, is_sorted, below_all}
use Rattle.mr_user.specs.Groups.{rising}
use Rattle.mr_user.specs.Sequential.{onto_first, lines_of}
use Rattle.mr_user.specs.Meaning.{HasNoLineFeed, LinesArePieces, IsRising, KeysRise}

line_before : (line rest : List ℕ) → HasNoLineFeed line → lines_of (line ++ 10 ∷ rest) ≡ line ∷ lines_of rest
line_before [] rest h = refl
line_before (b ∷ line) rest h =
    ap (λ t. cond t ([] ∷ lines_of (line ++ 10 ∷ rest)) (onto_first b (lines_of (line ++ 10 ∷ rest)))) (ne_eqb b 10 h.0)
    ∙ ap (onto_first b) (line_before line rest h.1)

line_last : (line : List ℕ) → HasNoLineFeed line → line ≢ [] → lines_of line ≡ line ∷ []
line_last [] h some = absurd (some refl)
line_last (b ∷ []) h some = ap (λ t. cond t ([] ∷ []) ((b ∷ []) ∷ [])) (ne_eqb b 10 h.0)
line_last (b ∷ c ∷ line) h some =
    ap (λ t. cond t ([] ∷ lines_of (c ∷ line)) (onto_first b (lines_of (c ∷ line)))) (ne_eqb b 10 h.0)
    ∙ ap (onto_first b) (line_last (c ∷ line) h.1 (λ e. cc))

pub lines_are : LinesArePieces
lines_are = record { none = refl; before = line_before; last = line_last }

less : (o : Ordering) → T (is_lt o) → o ≡ Less
less Less h = refl
less Equal h = absurd h
less Greater h = absurd h

and_left : (a b : Bool) → T (a && b) → T a
and_left true b h = tt
and_left false b h = absurd h

and_right : (a b : Bool) → T (a && b) → T b
and_right true b h = h
and_right false b h = absurd h

module _ {K : Type 0} (cmp : K → K → Ordering) where
  all_less : (k : K) (es : List (K × Unit {0})) → T (below_all cmp k es) → AllByRecursion (λ q. cmp k q ≡ Less) (map (λ e. e.0) es)
  all_less k [] h = tt
  all_less k (e ∷ es) h = (less (cmp k e.0) (and_left (is_lt (cmp k e.0)) (below_all cmp k es) h), all_less k es (and_right (is_lt (cmp k e.0)) (below_all cmp k es) h))

  sorted_rises : (es : List (K × Unit {0})) → T (is_sorted cmp es) → IsRising cmp (map (λ e. e.0) es)
  sorted_rises [] h = tt
  sorted_rises (e ∷ es) h = (all_less e.0 es (and_left (below_all cmp e.0 es) (is_sorted cmp es) h), sorted_rises es (and_right (below_all cmp e.0 es) (is_sorted cmp es) h))

  pub rising_in_order : (ks : List K) → IsRising cmp (rising cmp ks)
  rising_in_order ks =
      let keys = finmap.from_entries {R = cmp} (map (λ k. (k, tt {0})) ks) in
      sorted_rises (finmap.entries keys) (finmap.entries_sorted keys)

  units_keys : (ks : List K) → map (λ (e : K × Unit {0}). e.0) (map (λ k. (k, tt {0})) ks) ≡ ks
  units_keys [] = refl
  units_keys (k ∷ ks) = ap (λ ls. k ∷ ls) (units_keys ks)

  pub rising_members : IsTotalOrder cmp → (ks : List K) (k : K) → list_any (eq_by_cmp cmp k) (rising cmp ks) ≡ list_any (eq_by_cmp cmp k) ks
  rising_members order ks k =
      let units : List (K × Unit {0}) = map (λ k. (k, tt {0})) ks in
      sym (finmap.contains_key-keys (finmap.from_entries {R = cmp} units) k)
      ∙ ap is_some (finmap.get-from_entries order units k)
      ∙ is_some-find cmp k units
      ∙ ap (list_any (eq_by_cmp cmp k)) (units_keys ks)

  pub keys_rise : IsTotalOrder cmp → KeysRise cmp
  keys_rise order = record { in_order = rising_in_order; same = rising_members order }
