-- Pairs by their keys. Dean and Ghemawat 2 and 4.2: the values of a key are reduced together, keys in rising order.
use Rattle.std.specs.Prelude.{cond, List, [], ◌∷◌, ◌++◌, map, filter}
use Rattle.std.specs.Ordering.{eq_by_cmp}
use Rattle.std.specs.declared.cmp.Ordering.{Ordering}
use Rattle.std.specs.FinMap as finmap

module _ {K : Type 0} (cmp : K → K → Ordering) where
  -- the keys of a list, rising, each once
  abbrev pub rising : List K → List K
  rising ks = finmap.keys (finmap.from_entries {R = cmp} (map (λ k. (k, tt {0})) ks))

module _ {K V : Type 0} (cmp : K → K → Ordering) where
  -- the keys of pairs, rising, each once
  abbrev pub keys_of : List (K × V) → List K
  keys_of ps = rising cmp (map (λ p. p.0) ps)

  -- the values of a key, in order
  abbrev pub values_of : K → List (K × V) → List V
  values_of k ps = map (λ p. p.1) (filter (λ p. eq_by_cmp cmp k p.0) ps)

  -- the keys, rising, each with its values in order
  abbrev pub groups_of : List (K × V) → List (K × List V)
  groups_of ps = map (λ k. (k, values_of k ps)) (keys_of ps)

  -- a pair goes to the last group where the keys tie, and else to a new one
  abbrev pub with_pair : List (K × List V) → K × V → List (K × List V)
  with_pair [] p = (p.0, p.1 ∷ []) ∷ []
  with_pair (g ∷ []) p = cond (eq_by_cmp cmp g.0 p.0) ((g.0, g.1 ++ p.1 ∷ []) ∷ []) (g ∷ (p.0, p.1 ∷ []) ∷ [])
  with_pair (g ∷ h ∷ gs) p = g ∷ with_pair (h ∷ gs) p
