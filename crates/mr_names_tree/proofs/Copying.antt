-- The nodes of a copy stand under the same keys, with the same edges.
use Rattle.std.proofs.Common.{◌≡◌, ℕ, zero, suc, List, [], ◌∷◌, refl, sym, ap, ◌∙◌, arith, Option, Some, None}
use Rattle.std.proofs.lemmas.List.{get_or_past}
use Rattle.std.proofs.lemmas.List.Elements.{same_from_all_zip}
use Rattle.std.specs.Prelude.{slice_index_or}
use Rattle.std.specs.List.{AllZip}
use Rattle.std.specs.Map.{lookup}
use Rattle.std.specs.BTreeMap.{is_at}
use Rattle.std.specs.Ordering.{nat_cmp}
use Rattle.std.specs.Cmp.Lexicographic.{slice_cmp}
use Rattle.std.specs.Option.{option_map}
use Rattle.slab.specs.Slab.{Slab, IsSlotClone, IsSlabClone}
use Rattle.mr_names_tree.specs.declared.node.Node.{Node}
use Rattle.mr_names_tree.specs.declared.place.Place.{Place}
use Rattle.mr_names_tree.specs.inner.Tree.{SamePlace, SameGraph, child_by}

-- the same keys by the same names
pub same_links : (xs ys : List (List ℕ × ℕ)) → AllZip (λ p q. (q.0 ≡ p.0) × (q.1 ≡ p.1)) xs ys → ys ≡ xs
same_links xs ys all = same_from_all_zip (λ p q. (q.0 ≡ p.0) × (q.1 ≡ p.1)) xs ys all (λ p q same. λ i. (same.0 i, same.1 i))

-- what two slots hold is the same node with the same edges
record SameSlot (old new : Option Place) : Type 0 where
  edges : (name : List ℕ) → child_by new name ≡ child_by old name
  node : option_map (λ (p : Place). p.node) new ≡ option_map (λ (p : Place). p.node) old

same_slot : (old new : Option Place) → IsSlotClone SamePlace old new → SameSlot old new
same_slot None new is = rw is (record { edges = λ name. refl; node = refl })
same_slot (Some old) None is = absurd is
same_slot (Some old) (Some new) is = record {
  edges = λ name. ap (lookup (is_at (slice_cmp nat_cmp name))) is.1;
  node = ap Some is.0;
}

same_slots : (xs ys : List (Option Place)) (key : ℕ) → AllZip (IsSlotClone SamePlace) xs ys → SameSlot (slice_index_or xs key None) (slice_index_or ys key None)
same_slots [] [] key all = record { edges = λ name. refl; node = refl }
same_slots [] (y ∷ ys) key all = absurd all
same_slots (x ∷ xs) [] key all = absurd all
same_slots (x ∷ xs) (y ∷ ys) zero all = same_slot x y all.0
same_slots (x ∷ xs) (y ∷ ys) (suc key) all = same_slots xs ys key all.1

pub graph_copied : (s t : Slab Place) → IsSlabClone SamePlace s t → SameGraph s t
graph_copied s t copied = record {
  edges = λ key. (same_slots s.slots t.slots key copied.slots).edges;
  nodes = λ key. (same_slots s.slots t.slots key copied.slots).node;
}
