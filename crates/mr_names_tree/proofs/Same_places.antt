-- Slabs that keep the same nodes with the same edges under the same keys are one graph.
use Rattle.std.proofs.Common.{◌≡◌, ◌<◌, ◌≤◌, ◌⊎◌, inl, inr, ℕ, zero, suc, List, refl, sym, ap, ◌∙◌, arith, rules, Option, Some, None, length, nat_eq, ◌&&◌}
use Rattle.std.proofs.lemmas.List.{get_or_past}
use Rattle.std.proofs.lemmas.Slice.Eq.{slice_eq-Decides}
use Rattle.std.specs.Bool.{Decides}
use Rattle.std.specs.Map.{lookup}
use Rattle.std.specs.BTreeMap.{is_at}
use Rattle.std.specs.Ordering.{nat_cmp}
use Rattle.std.specs.Cmp.Lexicographic.{slice_cmp, pointwise}
use Rattle.std.specs.Option.{option_map}
use Rattle.slab.specs.Slab.{Slab, get}
use Rattle.mr_names_tree.specs.declared.place.Place.{Place}
use Rattle.mr_names_tree.specs.inner.Tree.{AreSamePlaces, SameGraph, child_by}
use Rattle.mr_names_tree.proofs.Comparing.{numbers_decide, bytes_decide}

edges_at : (old new : Option Place) (name : List ℕ) → AreSamePlaces old new → child_by new name ≡ child_by old name
edges_at None None name same = refl
edges_at None (Some q) name same = absurd same
edges_at (Some p) None name same = absurd same
edges_at (Some p) (Some q) name same = ap (lookup (is_at (slice_cmp nat_cmp name))) same.1

node_at : (old new : Option Place) → AreSamePlaces old new → option_map (λ (p : Place). p.node) new ≡ option_map (λ (p : Place). p.node) old
node_at None None same = refl
node_at None (Some q) same = absurd same
node_at (Some p) None same = absurd same
node_at (Some p) (Some q) same = ap Some same.0

below_or_not : (k n : ℕ) → (k < n) ⊎ (n ≤ k)
below_or_not k zero = inr (omega arith)
below_or_not zero (suc n) = inl (omega arith)
below_or_not (suc k) (suc n) = elim (below_or_not k n) [ inl a ↦ inl (omega (arith, a)) | inr b ↦ inr (omega (arith, b)) ]

-- past all slots there is nothing
nothing : (s : Slab Place) (count key : ℕ) → length s.slots ≤ count → count ≤ key → get s key ≡ None
nothing s count key fit past = get_or_past s.slots key None (omega (arith, fit, past))

-- slabs whose slots are not more than so many, and that have the same under each key below that number
pub graph_is : (s t : Slab Place) (count : ℕ) → length s.slots ≤ count → length t.slots ≤ count → ((key : ℕ) → key < count → AreSamePlaces (get s key) (get t key)) → SameGraph s t
graph_is s t count fit fits same = record {
  edges = λ key name. edges_at (get s key) (get t key) name (at key);
  nodes = λ key. node_at (get s key) (get t key) (at key);
}
  where
    none : (old new : Option Place) → old ≡ None → new ≡ None → AreSamePlaces old new
    none old new o n = rw o (rw n tt)

    at : (key : ℕ) → AreSamePlaces (get s key) (get t key)
    at key = elim (below_or_not key count) [
      | inl below ↦ same key below
      | inr past ↦ none (get s key) (get t key) (nothing s count key fit past) (nothing t count key fits past)
    ]

edge_decides : (p q : List ℕ × ℕ) → Decides (pointwise nat_eq p.0 q.0 && nat_eq p.1 q.1) (p ≡ q)
edge_decides = search (rules, bytes_decide, numbers_decide)

-- `==` of two lists of edges holds exactly where they are equal
pub edges_decide : (a b : List (List ℕ × ℕ)) → Decides (pointwise (λ p q. pointwise nat_eq p.0 q.0 && nat_eq p.1 q.1) a b) (a ≡ b)
edges_decide a b = slice_eq-Decides edge_decides a b _ refl
