-- Who holds the same machine of each container, and of each node.
use Rattle.std.proofs.Common.{◌≡◌, ◌∙◌, ◌↔◌, ◌&&◌, ◌+◌, ◌<◌, ℕ, zero, suc, Bool, true, false, List, [], ◌∷◌, ◌++◌, length, take, get_or, Some, None, IsTrue, refl, sym, ap, ap₂, subst, arith}
use Rattle.std.proofs.lemmas.Bool.{true≢false}
use Rattle.std.proofs.lemmas.Cmp.{nat_cmp_total, on_total, then_total}
use Rattle.std.proofs.lemmas.List.{take_more}
use Rattle.std.proofs.lemmas.Map.Lookups.{CmpEqualImpliesEq, btree_map_eq-Decides, btree_map_from_get}
use Rattle.std.specs.BTreeMap.{IsOrdered, btree_map_len, is_at}
use Rattle.std.specs.Bool.{Decides}
use Rattle.std.specs.Cmp.{IsTotalOrder}
use Rattle.std.specs.Cmp.Lexicographic.{pointwise}
use Rattle.std.specs.List.{slice_get}
use Rattle.std.specs.Map.{lookup}
use Rattle.std.specs.Ordering.{is_eq}
use Rattle.mr_container.proofs.Equality.{machines_decide}
use Rattle.mr_container.specs.State.{Container}
use Rattle.mr_container.specs.contracts.machine.ContainerMachinePartialEq.TheImpl as machine
use Rattle.mr_node.specs.State.{Node}
use Rattle.mr_packet.proofs.Same.{eq-same, same-is, same-itself}
use Rattle.mr_packet.specs.contracts.packet.ContainerIdPartialEq.TheImpl as id
use Rattle.mr_world_model.proofs.Closed.{container_eq-true}
use Rattle.mr_world_model.specs.Ids.{ContainerId}
use Rattle.mr_world_actors.specs.declared.living.Living.{Living}
use Rattle.mr_world_actors.specs.Living.{container_cmp, kept}
use Rattle.mr_world_actors.specs.declared.nodes.Nodes.{Nodes}
use Rattle.mr_world_actors.specs.Nodes.{node_of}
use Rattle.mr_world_actors.proofs.Keys.{found_is}

-- ---- containers

ids-decide : (c d : ContainerId) → Decides (id.eq-value.it c d) (c ≡ d)
ids-decide c d = (
  λ yes. same-is c d (sym (eq-same c d) ∙ yes),
  λ same. subst (λ (e : ContainerId). id.eq-value.it c e ≡ true) same (eq-same c c ∙ same-itself c),
)

order-total : IsTotalOrder container_cmp
order-total = then_total (on_total (λ (c : ContainerId). c.app) nat_cmp_total) (on_total (λ (c : ContainerId). c.number) nat_cmp_total)

order-exact : CmpEqualImpliesEq container_cmp
order-exact c d tied = sym (container_eq-true d c (sym (found_is c d) ∙ ap is_eq tied))

-- where of each container the same is kept, all is the same
pub same_entries : (p q : Living) → IsOrdered container_cmp p.machines → IsOrdered container_cmp q.machines → ((c : ContainerId) → kept p c ≡ kept q c) → p.machines.entries ≡ q.machines.entries
unfolding kept
same_entries p q s t same = btree_map_from_get order-total p.machines q.machines s t same order-exact

-- of others there are not as many
pub other_count : (p q : Living) → IsOrdered container_cmp p.machines → IsOrdered container_cmp q.machines → (btree_map_len p.machines ≡ btree_map_len q.machines → ⊥) → IsTrue false ↔ ((c : ContainerId) → kept p c ≡ kept q c)
other_count p q s t differ = (λ no. absurd (true≢false (sym no)), λ same. absurd (differ (ap length (same_entries p q s t same))))

-- and what `==` answers
pub living_decide : (p q : Living) (r : Bool) → IsOrdered container_cmp p.machines → IsOrdered container_cmp q.machines
    → r ≡ pointwise (λ (e f : ContainerId × Container). id.eq-value.it e.0 f.0 && machine.eq-value.it e.1 f.1) p.machines.entries q.machines.entries
    → Decides r ((c : ContainerId) → kept p c ≡ kept q c)
unfolding kept
living_decide p q r s t is =
    let told : Decides r (p.machines.entries ≡ q.machines.entries) = btree_map_eq-Decides ids-decide machines_decide p.machines q.machines r is in (
      λ yes c. ap (λ (es : List (ContainerId × Container)). lookup (is_at (container_cmp c)) es) (told.0 yes),
      λ same. told.1 (same_entries p q s t same),
    )

-- ---- nodes

each-same : {A : Type 0} (xs ys : List A) → ((n : ℕ) → slice_get xs n ≡ slice_get ys n) → xs ≡ ys
each-same [] [] same = refl
each-same [] (y ∷ ys) same = let first : None ≡ Some y = same 0 in absurd (cc)
each-same (x ∷ xs) [] same = let first : Some x ≡ None = same 0 in absurd (cc)
each-same (x ∷ xs) (y ∷ ys) same =
    let first : Some x ≡ Some y = same 0 in
    let one : x ≡ y = cc in
    λ i. one i ∷ each-same xs ys (λ n. same (suc n)) i

-- one machine more is the same
pub one_more : (xs ys : List Node) (i : ℕ) (d e x y : Node) → i < length xs → i < length ys → x ≡ get_or xs i d → y ≡ get_or ys i e → x ≡ y → take i xs ≡ take i ys → take (i + 1) xs ≡ take (i + 1) ys
one_more xs ys i d e x y low high is it one same = take_more xs i d low ∙ ap₂ (λ (l : List Node) (z : Node). l ++ z ∷ []) same (sym is ∙ (one ∙ it)) ∙ sym (take_more ys i e high)

-- a place within is found with any default
inside : (xs : List Node) (i : ℕ) (d e : Node) → i < length xs → get_or xs i d ≡ get_or xs i e
inside [] i d e h = absurd (omega arith)
inside (x ∷ xs) zero d e h = refl
inside (x ∷ xs) (suc i) d e h = inside xs i d e (omega arith)

-- lists that are the same are so at each place
pub one_differs : (xs ys : List Node) (i : ℕ) (d e x y : Node) → i < length ys → x ≡ get_or xs i d → y ≡ get_or ys i e → xs ≡ ys → x ≡ y
one_differs xs ys i d e x y low is it same = is ∙ (ap (λ (l : List Node). get_or l i d) same ∙ (inside ys i d e low ∙ sym it))

-- nodes are the same exactly where the lists of their machines are
pub nodes_decide : (p q : Nodes) (r : Bool) (xs ys : List Node) → xs ≡ p.machines.items → ys ≡ q.machines.items → Decides r (xs ≡ ys) → Decides r ((n : ℕ) → node_of p n ≡ node_of q n)
unfolding node_of
nodes_decide p q r xs ys here there told = (
  λ yes n. ap (λ (ms : List Node). slice_get ms n) (sym here ∙ (told.0 yes ∙ there)),
  λ same. told.1 (here ∙ (each-same p.machines.items q.machines.items same ∙ sym there)),
)
