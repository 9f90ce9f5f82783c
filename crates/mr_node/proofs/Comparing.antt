-- Where two nodes hold the same: `==` of the containers that they know, and their parts.
use Rattle.std.proofs.Common.{◌≡◌, ◌↔◌, ℕ, Bool, true, false, List, IsTrue, ap, refl, sym, subst, ◌∙◌}
use Rattle.std.proofs.lemmas.Bool.{true≢false}
use Rattle.std.proofs.lemmas.Slice.Eq.{slice_eq-Decides}
use Rattle.std.specs.Bool.{Decides}
use Rattle.std.specs.Cmp.Lexicographic.{pointwise}
use Rattle.mr_packet.specs.declared.packet.ContainerId.{ContainerId}
use Rattle.mr_packet.specs.contracts.packet.ContainerIdPartialEq.TheImpl.{eq-value}
use Rattle.mr_packet.proofs.Same.{eq-same, same-is, same-itself}
use Rattle.mr_shuffle.specs.Shelf.{Shelf}
use Rattle.mr_node.specs.State.{Node}

container-decides : (c d : ContainerId) → Decides (eq-value.it c d) (c ≡ d)
container-decides c d = (
  λ yes. same-is c d (sym (eq-same c d) ∙ yes),
  λ same. subst (λ (e : ContainerId). eq-value.it c e ≡ true) same (eq-same c c ∙ same-itself c),
)

pub containers_decide : (cs ds : List ContainerId) → Decides (pointwise eq-value.it cs ds) (cs ≡ ds)
containers_decide cs ds = slice_eq-Decides container-decides cs ds _ refl

abbrev node_of : ℕ → ℕ → List ContainerId → Shelf → Node
node_of n i cs shelf = record { number = n; seen = record { incarnation = i; known = cs; shelf = shelf } }

-- two nodes that differ at most in their shelves
pub shelves_left : (m n : Node) (a b i j : ℕ) (cs ds : List ContainerId) (s t : Shelf) (r : Bool) → node_of a i cs s ≡ m → node_of b j ds t ≡ n → a ≡ b → i ≡ j → cs ≡ ds → (IsTrue r ↔ (s ≡ t)) → IsTrue r ↔ (m ≡ n)
shelves_left m n a b i j cs ds s t r x y number incarnation knows shelf = (
  λ yes. sym x ∙ ((λ z. node_of (number z) (incarnation z) (knows z) (shelf.0 yes z)) ∙ y),
  λ same. shelf.1 (ap (λ (p : Node). p.seen.shelf) (x ∙ (same ∙ sym y))),
)

-- and two that differ in something else

pub other_number : (m n : Node) (a b i j : ℕ) (cs ds : List ContainerId) (s t : Shelf) → node_of a i cs s ≡ m → node_of b j ds t ≡ n → (a ≡ b → ⊥) → IsTrue false ↔ (m ≡ n)
other_number m n a b i j cs ds s t x y differ = (λ no. absurd (true≢false (sym no)), λ same. absurd (differ (ap (λ (p : Node). p.number) (x ∙ (same ∙ sym y)))))

pub other_incarnation : (m n : Node) (a b i j : ℕ) (cs ds : List ContainerId) (s t : Shelf) → node_of a i cs s ≡ m → node_of b j ds t ≡ n → (i ≡ j → ⊥) → IsTrue false ↔ (m ≡ n)
other_incarnation m n a b i j cs ds s t x y differ = (λ no. absurd (true≢false (sym no)), λ same. absurd (differ (ap (λ (p : Node). p.seen.incarnation) (x ∙ (same ∙ sym y)))))
