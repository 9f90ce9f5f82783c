-- A packet that comes is the same in two alike worlds: it is taken in both, and leaves alike worlds.
use Rattle.std.proofs.Common.{ℕ, ◌≡◌, refl, sym, ◌∙◌, ap, true, List, Option, Some, None, is_some, slice_get}
use Rattle.std.proofs.lemmas.Bool.{true≢false}
use Rattle.mr_container.specs.State as container
use Rattle.mr_container.proofs.Standing as container_standing
use Rattle.mr_node.specs.Readings as readings
use Rattle.mr_node.specs.State as node
use Rattle.mr_node.specs.declared.reaction.Reaction.TheVariants.{Starts}
use Rattle.mr_node.proofs.Standing as node_standing
use Rattle.mr_master_model.specs.Past as machine
use Rattle.mr_world_model.specs.Ids.{Attempt, ContainerId}
use Rattle.mr_world_model.specs.Packets.{Config, Packet, Address, Envelope, Master, Container, Node}
use Rattle.mr_world_model.specs.Pasts.{Got, Node_got, incarnation_of}
use Rattle.mr_world_model.specs.Duties.{Came}
use Rattle.mr_world_model.specs.World.{World, Event, Deliver, obeyed}
use Rattle.mr_world_model.specs.Sending.{sent}
use Rattle.mr_world_model.specs.Effect.{NoAddressee, unless, addressee, not_now, effect}
use Rattle.mr_world_model.specs.Claims.{Limits, world_of}
use Rattle.mr_world_model.specs.Actors.{NodeIn, BoundsBytes, Carries}
use Rattle.mr_world_model.specs.Nodes.{started}
use Rattle.mr_world_model.proofs.Basic.{unless_parts}
use Rattle.mr_world_model.proofs.Acts.{masters_act, containers_act, nodes_act}
use Rattle.mr_world_model.proofs.Runs.{begins_once}
use Rattle.mr_world_model.proofs.Nodes.{nodes_agree}
use Rattle.mr_world_model.proofs.Addressed.{packets_find_their_nodes}
use Rattle.mr_master_refinement.proofs.Stores.{masters_go_on, masters_send}
use Rattle.mr_world_alike.proofs.Raised.{Same}
use Rattle.mr_world_alike.proofs.Stored.{history-same, fence-same}
use Rattle.mr_world_alike.proofs.Masters.{MastersAlike, masters-rest, masters-move}
use Rattle.mr_world_alike.proofs.Actors.{ContainersAlike, NodesAlike, containers-rest, containers-move, containers-hear, nodes-rest, nodes-move}
use Rattle.mr_world_alike.proofs.Events.{masters-of, containers-of, join, none-called, Follows, step-sends}

addressee-same : (cfg : Config) (w u : World) → Same cfg w u → (o : Option Envelope) → addressee w o ≡ addressee u o
addressee-same cfg w u e None = refl
addressee-same cfg w u e (Some x) = by x.to x.body
  where
    by : (a : Address) (p : Packet) → addressee w (Some (record { to = a; body = p })) ≡ addressee u (Some (record { to = a; body = p }))
    by (Master k) p = let l = e.is_master k in λ i. unless (l i) NoAddressee None
    by (Container c) p = let l = e.is_alive c in λ i. unless (l i) NoAddressee None
    by (Node n) p = refl

-- what a node starts
starts-so : (cfg : Config) (w : World) (i n : ℕ) (p : Packet) (m : node.Node) → Carries w i (record { to = Node n; body = p }) → NodeIn cfg w n m → (c : ContainerId) (a : Attempt)
    → readings.reaction m.number m.seen p ≡ Starts c a → obeyed w (Deliver i) ≡ Some (record { container = c; place = record { attempt = a; node = n; incarnation = incarnation_of (w.node_past n) } })
unfolding obeyed
starts-so cfg w i n p m q at c a r =
    let reading : readings.reaction n (readings.seen cfg.reduces (w.node_past n)) p ≡ readings.reaction m.number m.seen p = λ j. readings.reaction (sym at.number j) (sym at.seen j) p in
    rw q (nodes_agree.starts cfg w n p ∙ ap (started n (incarnation_of (w.node_past n))) (reading ∙ r))

module _ (cfg : Config) (within : Limits) (bound : BoundsBytes within) (es fs : List Event) (e : Same cfg (world_of cfg within es) (world_of cfg within fs)) (i j : ℕ)
    (one : slice_get (world_of cfg within es).bag i ≡ slice_get (world_of cfg within fs).bag j) where
  abbrev W : World
  W = world_of cfg within es

  abbrev U : World
  U = world_of cfg within fs

  pub deliver-permitted : not_now cfg W (Deliver i) ≡ not_now cfg U (Deliver j)
  unfolding not_now
  deliver-permitted = addressee-same cfg W U e (slice_get W.bag i) ∙ ap (λ (o : Option Envelope). addressee U o) one

  addressed : not_now cfg W (Deliver i) ≡ None → addressee W (slice_get W.bag i) ≡ None
  unfolding not_now
  addressed now = now

  -- no store is called
  joined : (sends : sent cfg W (Deliver i) ≡ sent cfg U (Deliver j)) → MastersAlike cfg (effect cfg W (Deliver i)) (effect cfg U (Deliver j)) → ContainersAlike cfg (effect cfg W (Deliver i)) (effect cfg U (Deliver j))
      → NodesAlike cfg (effect cfg W (Deliver i)) (effect cfg U (Deliver j)) → Follows cfg W U (Deliver i) (Deliver j)
  joined sends m c n = record {
    sends = sends;
    left = join cfg W U e (Deliver i) (Deliver j) (none-called cfg W (Deliver i) refl ∙ sym (none-called cfg U (Deliver j) refl)) (history-same cfg W U e (Deliver i)) (fence-same cfg W U e (Deliver i)) sends m c n;
  }

  to-master : (k : ℕ) (p : Packet) → Carries W i (record { to = Master k; body = p }) → Carries U j (record { to = Master k; body = p }) → not_now cfg W (Deliver i) ≡ None → Follows cfg W U (Deliver i) (Deliver j)
  to-master k p q r now =
      let x : Envelope = record { to = Master k; body = p } in
      let lives : W.is_master k ≡ true = (unless_parts (W.is_master k) NoAddressee None (sym (ap (addressee W) q) ∙ addressed now)).0 in
      let sends : sent cfg W (Deliver i) ≡ sent cfg U (Deliver j) =
      sym (masters_send.hears cfg within es i k x q refl now) ∙ (step-sends cfg within bound es fs e k lives (machine.Hears p) ∙ masters_send.hears cfg within fs j k x r refl (sym deliver-permitted ∙ now)) in
      joined sends
      (masters-move cfg W U (masters-of cfg W U e) (Deliver i) (Deliver j) k (Came p) (Came p) lives refl (masters_go_on.hears cfg W i k x q refl) (masters_go_on.hears cfg U j k x r refl))
      (containers-rest cfg W U (containers-of cfg W U e) (effect cfg W (Deliver i)) (effect cfg U (Deliver j)) (masters_act.containers_told cfg W i k p q) (masters_act.containers_told cfg U j k p r))
      (nodes-rest cfg W U e.nodes (effect cfg W (Deliver i)) (effect cfg U (Deliver j)) (masters_act.nodes_told cfg W i k p q) (masters_act.nodes_told cfg U j k p r))

  to-container : (c : ContainerId) (p : Packet) → Carries W i (record { to = Container c; body = p }) → Carries U j (record { to = Container c; body = p }) → not_now cfg W (Deliver i) ≡ None → Follows cfg W U (Deliver i) (Deliver j)
  to-container c p q r now =
      let x : Envelope = record { to = Container c; body = p } in
      let lives : W.is_alive c ≡ true = (unless_parts (W.is_alive c) NoAddressee None (sym (ap (addressee W) q) ∙ addressed now)).0 in
      let o = e.containers c lives in
      let new = container.after o.machine (Got p) in
      let on = container_standing.stands_after o.machine new (Got p) refl in
      let a = containers_act.hears cfg W i c p o.machine new q o.one on in
      let b = containers_act.hears cfg U j c p o.machine new r o.other on in
      joined (a.sends ∙ sym b.sends)
      (masters-rest cfg W U (masters-of cfg W U e) (Deliver i) (Deliver j) (masters_go_on.told_others cfg W i x q refl) (masters_go_on.told_others cfg U j x r refl))
      (containers-move cfg W U (containers-of cfg W U e) (effect cfg W (Deliver i)) (effect cfg U (Deliver j)) c new a.moved b.moved)
      (nodes-rest cfg W U e.nodes (effect cfg W (Deliver i)) (effect cfg U (Deliver j)) a.nodes b.nodes)

  to-node : (n : ℕ) (p : Packet) → Carries W i (record { to = Node n; body = p }) → Carries U j (record { to = Node n; body = p }) → not_now cfg W (Deliver i) ≡ None → Follows cfg W U (Deliver i) (Deliver j)
  to-node n p q r now =
      let x : Envelope = record { to = Node n; body = p } in
      let o = e.nodes n (packets_find_their_nodes cfg within es i n p q) in
      let new = node.after o.machine (Node_got p) in
      let on = node_standing.stands_after o.machine new (Node_got p) refl in
      let a = nodes_act.hears cfg W i n p o.machine new q o.one on in
      let b = nodes_act.hears cfg U j n p o.machine new r o.other on in
      let too = sym deliver-permitted ∙ now in
      joined (a.sends ∙ sym b.sends)
      (masters-rest cfg W U (masters-of cfg W U e) (Deliver i) (Deliver j) (masters_go_on.told_others cfg W i x q refl) (masters_go_on.told_others cfg U j x r refl))
      (containers-hear cfg W U (containers-of cfg W U e) (effect cfg W (Deliver i)) (effect cfg U (Deliver j)) n p o.machine new (sent cfg W (Deliver i)) (sent cfg U (Deliver j)) a b
      (λ c v s. (
        (begins_once.unborn cfg within es (Deliver i) (record { container = c; place = record { attempt = v; node = n; incarnation = incarnation_of (W.node_past n) } }) now (starts-so cfg W i n p o.machine q o.one c v s)).1,
        (begins_once.unborn cfg within fs (Deliver j) (record { container = c; place = record { attempt = v; node = n; incarnation = incarnation_of (U.node_past n) } }) too (starts-so cfg U j n p o.machine r o.other c v s)).1,
      )))
      (nodes-move cfg W U e.nodes (effect cfg W (Deliver i)) (effect cfg U (Deliver j)) n new a.node b.node)

  pub deliver-follows : not_now cfg W (Deliver i) ≡ None → Follows cfg W U (Deliver i) (Deliver j)
  deliver-follows now = by (slice_get W.bag i) refl
    where
      to : (a : Address) (p : Packet) → Carries W i (record { to = a; body = p }) → Follows cfg W U (Deliver i) (Deliver j)
      to (Master k) p q = to-master k p q (sym one ∙ q) now
      to (Container c) p q = to-container c p q (sym one ∙ q) now
      to (Node n) p q = to-node n p q (sym one ∙ q) now

      by : (o : Option Envelope) → slice_get W.bag i ≡ o → Follows cfg W U (Deliver i) (Deliver j)
      by None q = absurd (true≢false (ap is_some (sym (ap (addressee W) q) ∙ addressed now)))
      by (Some x) q = to x.to x.body q
