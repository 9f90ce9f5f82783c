-- What is read off a node's past is what mr_node reads.
use Rattle.std.proofs.Common.{ℕ, suc, ◌≡◌, refl, sym, ◌∙◌, ap, subst, Bool, true, false, ◌&&◌, ◌||◌, not, ◌==◌, List, [], ◌∷◌, ◌++◌, Option, Some, None, if◌then◌else◌, nat_eq, nat_le, length, slice_get}
use Rattle.std.specs.Option.{option_and_then}
use Rattle.std.specs.FinMap as finite
use Rattle.std.specs.Cmp.{IsTotalOrder}
use Rattle.std.specs.Ordering.{eq_by_cmp}
use Rattle.std.proofs.lemmas.Cmp.{nat_list_cmp_total}
use Rattle.std.proofs.lemmas.Bool.{eqb-true, eq-eqb}
use Rattle.std.specs.Cmp.{both_ways}
use Rattle.std.proofs.Math.Numerals.{add-one}
use Rattle.mr_packet.specs.Same as container
use Rattle.mr_packet.proofs.Same.{same-is}
use Rattle.mr_mapside.specs.Cutting.{cut}
use Rattle.mr_shuffle.specs.Shelf as shelf
use Rattle.mr_shuffle.proofs.Shelves.{attempts_are_apart}
use Rattle.mr_node.specs.declared.reaction.Reaction.TheVariants.{Adds}
use Rattle.mr_node.specs.Readings as node
use Rattle.mr_world_model.specs.Ids.{Attempt, ContainerId, container_eq, attempt_eq}
use Rattle.mr_world_model.specs.Packets.{Config, Packet, Launch, Kill, Fetch, NodeUp, Master}
use Rattle.mr_world_model.specs.Pasts.{Node_step, Node_got, Shelved, Gone, Restarted, incarnation_of, is_known, remembers, on_shelf}
use Rattle.mr_world_model.specs.World.{World, obeys, block_there, block_at, piece_limit}
use Rattle.mr_world_model.specs.Sending.{node_replies, piece_of}
use Rattle.mr_world_model.specs.Nodes.{NodesAgree, added, started}
use Rattle.mr_world_model.proofs.Basic.{if_cases}
use Rattle.mr_world_model.proofs.Closed.{or-true}
use Rattle.mr_world_model.proofs.Lists.{attempt_eq-true, attempt_eq-refl}

-- two containers are one alike
same-container : (c d : ContainerId) → container.same_container c d ≡ container_eq c d
unfolding container.same_container
same-container c d = refl

has-last : (cs : List ContainerId) (c d : ContainerId) → container.has (cs ++ d ∷ []) c ≡ (container_eq c d || container.has cs c)
has-last [] c d = ap (λ b. b || false) (same-container c d)
has-last (x ∷ cs) c d = ap (λ b. container.same_container c x || b) (has-last cs c d) ∙ swap (container.same_container c x) (container_eq c d) (container.has cs c)
  where
    swap : (x y z : Bool) → (x || (y || z)) ≡ (y || (x || z))
    swap true true z = refl
    swap true false z = refl
    swap false y z = refl

-- one that is there is added for nothing
there-already : (cs : List ContainerId) (c d : ContainerId) → container.has cs d ≡ true → container.has cs c ≡ (container_eq c d || container.has cs c)
there-already cs c d e = by (container_eq c d) (same-container c d)
  where
    by : (t : Bool) → container.same_container c d ≡ t → container.has cs c ≡ (t || container.has cs c)
    by true q = subst (λ z. container.has cs z ≡ true) (sym (same-is c d q)) e
    by false q = refl

eq-swap : (m n : ℕ) → nat_eq m n ≡ nat_eq n m
eq-swap m n = both_ways (nat_eq m n) (nat_eq n m) (λ e. eq-eqb n m (sym (eqb-true m n e))) (λ e. eq-eqb m n (sym (eqb-true n m e)))

-- whether a launch is remembered, by whether the container was known and whether it is for the node's own incarnation
launch-knows : (s : node.Seen) (d c : ContainerId) (i : ℕ) → container.has (node.after_launch s d i).known c ≡ ((container_eq c d && nat_eq s.incarnation i) || container.has s.known c)
launch-knows s d c i = by (container.has s.known d) refl (i == s.incarnation) (eq-swap s.incarnation i)
  where
    was : (u t : Bool) → container_eq c d ≡ t → container.has s.known d ≡ true → container.has s.known c ≡ ((t && u) || container.has s.known c)
    was u true q e = there-already s.known c d e ∙ rw q (sym (or-true u) ∙ ap (λ b. u || b) (sym (there-already s.known c d e ∙ rw q refl)))
    was u false q e = refl

    by : (t : Bool) → container.has s.known d ≡ t → (u : Bool) → nat_eq s.incarnation i ≡ u →
        container.has (if t then s else if u then record s { known = s.known ++ d ∷ [] } else s).known c ≡ ((container_eq c d && nat_eq s.incarnation i) || container.has s.known c)
    by true e u v = was (nat_eq s.incarnation i) (container_eq c d) refl e
    by false e true v = has-last s.known c d ∙ rw v (at (container_eq c d))
      where
        at : (t : Bool) → (t || container.has s.known c) ≡ ((t && true) || container.has s.known c)
        at true = refl
        at false = refl
    by false e false v = rw v (at (container_eq c d))
      where
        at : (t : Bool) → container.has s.known c ≡ ((t && false) || container.has s.known c)
        at true = refl
        at false = refl

kill-knows : (cs : List ContainerId) (d c : ContainerId) → container.has (container.with_last cs d) c ≡ (container_eq c d || container.has cs c)
kill-knows cs d c = by (container.has cs d) refl
  where
    by : (t : Bool) → container.has cs d ≡ t → container.has (if t then cs else cs ++ d ∷ []) c ≡ (container_eq c d || container.has cs c)
    by true e = there-already cs c d e
    by false e = has-last cs c d

heard-incarnation : (s : node.Seen) (p : Packet) → (node.after_packet s p).incarnation ≡ s.incarnation
heard-incarnation s (Launch c a i) = if_cases (λ (z : node.Seen). z.incarnation ≡ s.incarnation) (container.has s.known c) s _ (λ t. refl)
    (λ t. if_cases (λ (z : node.Seen). z.incarnation ≡ s.incarnation) (i == s.incarnation) (record s { known = s.known ++ c ∷ [] }) s (λ u. refl) (λ u. refl))
heard-incarnation s p = refl

heard-shelf : (s : node.Seen) (p : Packet) → (node.after_packet s p).shelf ≡ s.shelf
heard-shelf s (Launch c a i) = if_cases (λ (z : node.Seen). z.shelf ≡ s.shelf) (container.has s.known c) s _ (λ t. refl)
    (λ t. if_cases (λ (z : node.Seen). z.shelf ≡ s.shelf) (i == s.incarnation) (record s { known = s.known ++ c ∷ [] }) s (λ u. refl) (λ u. refl))
heard-shelf s p = refl

heard-knows : (s : node.Seen) (p : Packet) (c : ContainerId) → container.has (node.after_packet s p).known c ≡ (remembers s.incarnation c p || container.has s.known c)
heard-knows s (Launch d a i) c = launch-knows s d c i
heard-knows s (Kill d) c = kill-knows s.known d c
heard-knows s p c = refl

pub incarnation-agrees : (reduces : ℕ) (h : List Node_step) → incarnation_of h ≡ (node.seen reduces h).incarnation
unfolding incarnation_of node.seen node.next_seen
incarnation-agrees reduces [] = refl
incarnation-agrees reduces (Node_got p ∷ h) = incarnation-agrees reduces h ∙ sym (heard-incarnation (node.seen reduces h) p)
incarnation-agrees reduces (Shelved a bytes ∷ h) = incarnation-agrees reduces h
incarnation-agrees reduces (Gone c ∷ h) = incarnation-agrees reduces h
incarnation-agrees reduces (Restarted ∷ h) = ap suc (incarnation-agrees reduces h) ∙ sym (add-one (node.seen reduces h).incarnation)

pub known-agrees : (reduces : ℕ) (h : List Node_step) (c : ContainerId) → is_known h c ≡ container.has (node.seen reduces h).known c
unfolding is_known node.seen node.next_seen
known-agrees reduces [] c = refl
known-agrees reduces (Node_got p ∷ h) c = (λ i. remembers (incarnation-agrees reduces h i) c p || known-agrees reduces h c i) ∙ sym (heard-knows (node.seen reduces h) p c)
known-agrees reduces (Shelved a bytes ∷ h) c = known-agrees reduces h c
known-agrees reduces (Gone d ∷ h) c = known-agrees reduces h c
known-agrees reduces (Restarted ∷ h) c = known-agrees reduces h c

attempt_order : IsTotalOrder shelf.attempt_cmp
attempt_order = record {
  antisymm = λ a b. nat_list_cmp_total.antisymm (shelf.numbers_of a) (shelf.numbers_of b);
  trans = λ a b c. nat_list_cmp_total.trans (shelf.numbers_of a) (shelf.numbers_of b) (shelf.numbers_of c);
  congr = λ a b c. nat_list_cmp_total.congr (shelf.numbers_of a) (shelf.numbers_of b) (shelf.numbers_of c);
}

one-attempt : (a b : Attempt) → eq_by_cmp shelf.attempt_cmp a b ≡ attempt_eq a b
one-attempt a b = both_ways (eq_by_cmp shelf.attempt_cmp a b) (attempt_eq a b)
    (λ e. subst (λ z. attempt_eq a z ≡ true) ((attempts_are_apart a b).0 e) (attempt_eq-refl a))
    (λ e. (attempts_are_apart a b).1 (attempt_eq-true a b e))

shelf-reduces : (reduces : ℕ) (h : List Node_step) → (node.seen reduces h).shelf.reduces ≡ reduces
unfolding node.seen node.next_seen
shelf-reduces reduces [] = refl
shelf-reduces reduces (Node_got p ∷ h) = ap (λ (z : shelf.Shelf). z.reduces) (heard-shelf (node.seen reduces h) p) ∙ shelf-reduces reduces h
shelf-reduces reduces (Shelved a bytes ∷ h) = shelf-reduces reduces h
shelf-reduces reduces (Gone c ∷ h) = shelf-reduces reduces h
shelf-reduces reduces (Restarted ∷ h) = shelf-reduces reduces h

-- what lies on the shelf of an attempt
pub output-agrees : (reduces : ℕ) (h : List Node_step) (a : Attempt) → on_shelf h a ≡ finite.get (node.seen reduces h).shelf.outputs a
unfolding on_shelf node.seen node.next_seen
output-agrees reduces [] a = sym (finite.get-empty shelf.attempt_cmp a)
output-agrees reduces (Node_got p ∷ h) a = output-agrees reduces h a ∙ ap (λ (z : shelf.Shelf). finite.get z.outputs a) (sym (heard-shelf (node.seen reduces h) p))
output-agrees reduces (Shelved b bytes ∷ h) a =
    (λ i. if sym (one-attempt a b) i then Some bytes else output-agrees reduces h a i) ∙ sym (finite.get-insert attempt_order (node.seen reduces h).shelf.outputs b bytes a)
output-agrees reduces (Gone c ∷ h) a = output-agrees reduces h a
output-agrees reduces (Restarted ∷ h) a = sym (finite.get-empty shelf.attempt_cmp a)

block-is : (reduces r : ℕ) (o : Option (List ℕ)) → block_there reduces o r ≡ option_and_then (λ bytes. option_and_then (λ blocks. slice_get blocks r) (cut reduces bytes)) o
block-is reduces r None = refl
block-is reduces r (Some bytes) = by (cut reduces bytes)
  where
    by : (o : Option (List (List ℕ))) → block_at o r ≡ option_and_then (λ blocks. slice_get blocks r) o
    by None = refl
    by (Some blocks) = refl

pub shelves-agree : (reduces : ℕ) (h : List Node_step) (a : Attempt) (r : ℕ) → block_there reduces (on_shelf h a) r ≡ shelf.block_there (node.seen reduces h).shelf a r
shelves-agree reduces h a r = block-is reduces r (on_shelf h a)
    ∙ (λ i. option_and_then (λ bytes. option_and_then (λ blocks. slice_get blocks r) (cut (sym (shelf-reduces reduces h) i) bytes)) (output-agrees reduces h a i))

-- What it answers

piece-is : (c : ContainerId) (a : Attempt) (r o : ℕ) (b : Option (List ℕ)) → piece_of c a r o b ≡ node.piece_or_lost c a r o b ∷ []
unfolding piece_limit node.piece_limit
piece-is c a r o None = refl
piece-is c a r o (Some block) = by (nat_le o (length block)) refl
  where
    by : (t : Bool) → nat_le o (length block) ≡ t → piece_of c a r o (Some block) ≡ node.piece_or_lost c a r o (Some block) ∷ []
    by true e = rw e refl
    by false e = rw e refl

module _ (cfg : Config) (w : World) (n : ℕ) where
  abbrev Past : List Node_step
  Past = w.node_past n

  abbrev Read : node.Seen
  Read = node.seen cfg.reduces Past

  launch-replies : (c : ContainerId) (a : Attempt) (i : ℕ) → node_replies cfg w n (Launch c a i) ≡ added (node.launched n Read c a i)
  launch-replies c a i = by (is_known Past c) (sym (known-agrees cfg.reduces Past c)) (nat_eq i (incarnation_of Past)) refl
    where
      same : (i == Read.incarnation) ≡ nat_eq i (incarnation_of Past)
      same = ap (nat_eq i) (sym (incarnation-agrees cfg.reduces Past))

      by : (t : Bool) → container.has Read.known c ≡ t → (u : Bool) → nat_eq i (incarnation_of Past) ≡ u →
          (if not t && not u then record { to = Master c.app; body = NodeUp n (incarnation_of Past) } ∷ [] else []) ≡ added (node.launched n Read c a i)
      by true e u v = rw e refl
      by false e true v = rw (e, same ∙ v) refl
      by false e false v = rw (e, same ∙ v) (ap (λ j. record { to = Master c.app; body = NodeUp n j } ∷ []) (incarnation-agrees cfg.reduces Past))

  fetch-replies : (c : ContainerId) (a : Attempt) (r i o : ℕ) → node_replies cfg w n (Fetch c a r i o) ≡ added (Adds (node.fetched Read c a r i o))
  fetch-replies c a r i o = by (nat_eq i (incarnation_of Past)) refl
    where
      same : (i == Read.incarnation) ≡ nat_eq i (incarnation_of Past)
      same = ap (nat_eq i) (sym (incarnation-agrees cfg.reduces Past))

      by : (u : Bool) → nat_eq i (incarnation_of Past) ≡ u → (if u then piece_of c a r o (block_there cfg.reduces (on_shelf Past a) r) else node.lost c a ∷ []) ≡ added (Adds (node.fetched Read c a r i o))
      by true v = rw (same ∙ v) (piece-is c a r o _ ∙ ap (λ b. node.piece_or_lost c a r o b ∷ []) (shelves-agree cfg.reduces Past a r))
      by false v = rw (same ∙ v) refl

  pub replies-agree : (p : Packet) → node_replies cfg w n p ≡ added (node.reaction n Read p)
  unfolding node.reaction
  replies-agree (Launch c a i) = launch-replies c a i
  replies-agree (Kill c) = refl
  replies-agree (Fetch c a r i o) = fetch-replies c a r i o
  replies-agree p = refl

  launch-starts : (c : ContainerId) (a : Attempt) (i : ℕ) → obeys w n (Launch c a i) ≡ started n (incarnation_of Past) (node.launched n Read c a i)
  launch-starts c a i = by (is_known Past c) (sym (known-agrees cfg.reduces Past c)) (nat_eq i (incarnation_of Past)) refl
    where
      same : (i == Read.incarnation) ≡ nat_eq i (incarnation_of Past)
      same = ap (nat_eq i) (sym (incarnation-agrees cfg.reduces Past))

      by : (t : Bool) → container.has Read.known c ≡ t → (u : Bool) → nat_eq i (incarnation_of Past) ≡ u →
          (if not t && u then Some (record { container = c; place = record { attempt = a; node = n; incarnation = i } }) else None) ≡ started n (incarnation_of Past) (node.launched n Read c a i)
      by true e u v = rw e refl
      by false e true v = rw (e, same ∙ v) (ap (λ j. Some (record { container = c; place = record { attempt = a; node = n; incarnation = j } })) (eqb-true i (incarnation_of Past) v))
      by false e false v = rw (e, same ∙ v) refl

  pub starts-agree : (p : Packet) → obeys w n p ≡ started n (incarnation_of Past) (node.reaction n Read p)
  unfolding node.reaction
  starts-agree (Launch c a i) = launch-starts c a i
  starts-agree p = refl

pub nodes_agree : NodesAgree
nodes_agree = record {
  incarnations = incarnation-agrees;
  known = known-agrees;
  shelves = shelves-agree;
  replies = replies-agree;
  starts = starts-agree;
}
