-- A packet is delivered to a node: when it can be, and what the parts stand for then.
use Rattle.std.proofs.Common.{◌≡◌, ℕ, refl, sym, ◌∙◌, ap, subst, Bool, true, false, ◌||◌, ◌&&◌, not, nat_eq, nat_lt, List, [], ◌∷◌, ◌++◌, Option, Some, None, if◌then◌else◌, is_some, length, slice_get}
use Rattle.std.specs.Option.{option_map}
use Rattle.mr_packet.specs.Bag.{Held}
use Rattle.mr_packet.specs.declared.packet.Packet.{Packet}
use Rattle.mr_packet.specs.declared.packet.Packet.TheVariants as packet
use Rattle.mr_packet.specs.declared.packet.Envelope.{Envelope}
use Rattle.mr_packet.specs.declared.packet.Address.TheVariants.{Node}
use Rattle.mr_ids.specs.Attempt.{Attempt}
use Rattle.mr_container.specs.Readings as readings
use Rattle.mr_container.specs.State as container
use Rattle.mr_container.proofs.Standing.{launched}
use Rattle.mr_node.specs.Past.{Hears}
use Rattle.mr_node.specs.Readings.{Seen, reaction}
use Rattle.mr_node.specs.State as node
use Rattle.mr_node.specs.declared.reaction.Reaction.{Reaction}
use Rattle.mr_node.specs.declared.reaction.Reaction.TheVariants.{Nothing, Starts, Adds}
use Rattle.mr_node.proofs.Standing.{stands_after}
use Rattle.mr_world_model.specs.Ids.{ContainerId}
use Rattle.mr_world_model.specs.Packets.{Config}
use Rattle.mr_world_model.specs.Pasts.{incarnation_of}
use Rattle.mr_world_model.specs.World.{World, Deliver, Obeyed, obeyed, obeys, call_of}
use Rattle.mr_world_model.specs.Effect.{effect, not_now}
use Rattle.mr_world_model.specs.Sending.{sent}
use Rattle.mr_world_model.specs.Nodes as agreed
use Rattle.mr_world_model.specs.Actors.{ContainerIn}
use Rattle.mr_world_model.specs.Acts.{NodeHeard, begins, is_killed}
use Rattle.mr_world_model.proofs.Acts.{nodes_act}
use Rattle.mr_world_model.proofs.Addressed.{packets_find_their_nodes}
use Rattle.mr_world_model.proofs.Closed.{container_eq-true}
use Rattle.mr_world_model.proofs.Nodes.{nodes_agree}
use Rattle.mr_world_model.proofs.Runs.{begins_once}
use Rattle.mr_world_model.proofs.Stored.{stores_go_on}
use Rattle.mr_master_refinement.proofs.Stores.{masters_go_on}
use Rattle.mr_world_actors.specs.declared.living.Living.{Living}
use Rattle.mr_world_actors.specs.declared.nodes.Nodes.{Nodes}
use Rattle.mr_world_actors.specs.Living.{kept, Same}
use Rattle.mr_world_actors.specs.Nodes.{node_of, node_stepped, reaction_of, ChangesNode, SameNodes, added_by}
use Rattle.mr_world_state.specs.declared.parts.Parts.{Parts}
use Rattle.mr_world_state.specs.Limits.{within, fits_bag}
use Rattle.mr_world_state.specs.inner.Serving.{begun_by, served, BeginsAnew, Serves}
use Rattle.mr_world_state.specs.inner.Replying.{answers_at, one_if}
use Rattle.mr_world_state.specs.Standing.{Standing, IsTaken, IsTo, LivingStand}
use Rattle.mr_world_state.proofs.Frames.{rests, nodes-moved}
use Rattle.mr_world_state.proofs.Refusals.{NeedsRoom}

abbrev heard : node.Node → Packet → node.Node
heard m packet = node.after m (Hears packet)

carried : (p : Parts) (w : World) (i : ℕ) (e : Envelope) → Standing p w → slice_get p.bag.packets i ≡ Some e → slice_get w.bag i ≡ Some e
carried p w i e s at = subst (λ es. slice_get es i ≡ Some e) s.bag at

went : (p : Parts) (w : World) (i n : ℕ) (packet : Packet) (m : node.Node) → Standing p w → slice_get p.bag.packets i ≡ Some (record { to = Node n; body = packet }) → node_of p.nodes n ≡ Some m
    → NodeHeard p.config w (effect p.config w (Deliver i)) n packet m (heard m packet) (sent p.config w (Deliver i))
went p w i n packet m s at there = nodes_act.hears p.config w i n packet m (heard m packet) (carried p w i _ s at) (s.nodes.machines n m there) (stands_after m (heard m packet) (Hears packet) refl)

some-of : (o : Option node.Node) → is_some o ≡ true → (m : node.Node) × (o ≡ Some m)
some-of (Some m) e = (m, refl)
some-of None e = cc

-- the node is one of the cluster's
pub there : (p : Parts) (w : World) (i n : ℕ) → Standing p w → IsTo p i (Node n) → (m : node.Node) × (node_of p.nodes n ≡ Some m)
there p w i n s to = some-of (node_of p.nodes n) (s.nodes.there n
    ∙ subst (λ u. slice_get u.bag i ≡ Some (record { to = Node n; body = to.0 }) → nat_lt n p.config.nodes ≡ true) s.reached.is (packets_find_their_nodes p.config (within p.config) s.reached.events i n to.0) (carried p w i _ s to.1))

-- ---- who begins

-- a packet that starts a container kills none
starts-kill-none : (n : ℕ) (s : Seen) (p : Packet) (d : ContainerId) → begins (reaction n s p) d ≡ true → is_killed p d ≡ false
unfolding reaction
starts-kill-none n s (packet.Kill c) d e = cc
starts-kill-none n s p d e = refl

begun-is : (r : Reaction) (d : ContainerId) → begins r d ≡ true → (a : Attempt) × (r ≡ Starts d a)
begun-is (Starts c a) d e = (a, ap (λ (x : ContainerId). Starts x a) (sym (container_eq-true d c e)))
begun-is Nothing d e = cc
begun-is (Adds x) d e = cc

begun-there : (m : node.Node) (maps : ℕ) (r : Reaction) (d : ContainerId) → begins r d ≡ true → is_some (begun_by m maps r) ≡ true
begun-there m maps (Starts c a) d e = refl
begun-there m maps Nothing d e = cc
begun-there m maps (Adds x) d e = cc

permitted : (cfg : Config) (w : World) (i n : ℕ) (packet : Packet) → slice_get w.bag i ≡ Some (record { to = Node n; body = packet }) → not_now cfg w (Deliver i) ≡ None
unfolding not_now
permitted cfg w i n packet at = rw at refl

obeyed-is : (w : World) (i n : ℕ) (packet : Packet) → slice_get w.bag i ≡ Some (record { to = Node n; body = packet }) → obeyed w (Deliver i) ≡ obeys w n packet
unfolding obeyed
obeyed-is w i n packet at = rw at refl

-- who begins has done nothing, and does not live
unborn : (p : Parts) (w : World) (i n : ℕ) (packet : Packet) (m : node.Node) → Standing p w → slice_get p.bag.packets i ≡ Some (record { to = Node n; body = packet }) → node_of p.nodes n ≡ Some m
    → (d : ContainerId) (a : Attempt) → reaction m.number m.seen packet ≡ Starts d a → (w.container_past d ≡ []) × (w.is_alive d ≡ false)
unborn p w i n packet m s at here d a is =
    let st = s.nodes.machines n m here in
    let o : Obeyed = record { container = d; place = record { attempt = a; node = n; incarnation = incarnation_of (w.node_past n) } } in
    let obeys-it : obeyed w (Deliver i) ≡ Some o = obeyed-is w i n packet (carried p w i _ s at) ∙ (nodes_agree.starts p.config w n packet
    ∙ ap (agreed.started n (incarnation_of (w.node_past n))) (sym (λ j. reaction (st.number j) (st.seen j) packet) ∙ is)) in
    let none = (subst (λ u. not_now p.config u (Deliver i) ≡ None → obeyed u (Deliver i) ≡ Some o → (u.place d ≡ None) × (u.container_past d ≡ []) × (u.is_alive d ≡ false)) s.reached.is
    (begins_once.unborn p.config (within p.config) s.reached.events (Deliver i) o) (permitted p.config w i n packet (carried p w i _ s at)) obeys-it) in
    (none.1, none.2)

none-of : (o : Option container.Container) → is_some o ≡ false → o ≡ None
none-of None e = refl
none-of (Some m) e = cc

pub anew : (p : Parts) (w : World) (i n : ℕ) → Standing p w → (to : IsTo p i (Node n)) → BeginsAnew p.living p.nodes n to.0
anew p w i n s to d e =
    let m = there p w i n s to in
    let x = begun-is (reaction m.0.number m.0.seen to.0) d (ap (λ o. begins (reaction_of o to.0) d) (sym m.1) ∙ e) in
    none-of (kept p.living d) (s.living.alive d ∙ (unborn p w i n to.0 m.0 s to.1 m.1 d x.0 x.1).1)

-- ---- the living

alive-by : (b q : Bool) (g o : Option container.Container) (a : Bool) → is_some o ≡ a → (b ≡ true → is_some g ≡ true) → (b ≡ true → q ≡ false) → is_some (if b then g else (if q then None else o)) ≡ ((b || a) && not q)
alive-by true q g o a e f k = f refl ∙ ap not (sym (k refl))
alive-by false true g o true e f k = refl
alive-by false true g o false e f k = refl
alive-by false false g o true e f k = e
alive-by false false g o false e f k = e

kept-by : (q : Bool) (o : Option container.Container) (m : container.Container) → (if q then None else o) ≡ Some m → o ≡ Some m
kept-by true o m e = cc
kept-by false o m e = e

born : (cfg : Config) (w : World) (u : World) (n : ℕ) (packet : Packet) (m new : node.Node) (es : List Envelope) → NodeHeard cfg w u n packet m new es → m.number ≡ n
    → (d : ContainerId) (a : Attempt) (o : container.Container) → reaction m.number m.seen packet ≡ Starts d a → w.container_past d ≡ [] → begun_by m (length cfg.splits) (Starts d a) ≡ Some o → ContainerIn cfg u d o
born cfg w u n packet m new es h number d a o is past e =
    let same : o ≡ record { id = d; place = record { attempt = a; node = m.number; incarnation = m.seen.incarnation }; maps = length cfg.splits; seen = readings.opening (length cfg.splits) a } = cc e in
    h.started d a o is past (launched o d _ (length cfg.splits)
    (same ∙ ap (λ k. record { id = d; place = record { attempt = a; node = k; incarnation = m.seen.incarnation }; maps = length cfg.splits; seen = readings.opening (length cfg.splits) a }) number))

living-machine : (p : Parts) (w : World) (i n : ℕ) (packet : Packet) (m : node.Node) → Standing p w → slice_get p.bag.packets i ≡ Some (record { to = Node n; body = packet }) → node_of p.nodes n ≡ Some m
    → (d : ContainerId) (o : container.Container) (b : Bool) → b ≡ begins (reaction m.number m.seen packet) d
    → (if b then begun_by m (length p.config.splits) (reaction m.number m.seen packet) else (if is_killed packet d then None else kept p.living d)) ≡ Some o → ContainerIn p.config (effect p.config w (Deliver i)) d o
living-machine p w i n packet m s at here d o true b e =
    let x = begun-is (reaction m.number m.seen packet) d (sym b) in
    born p.config w _ n packet m (heard m packet) _ (went p w i n packet m s at here) (s.nodes.machines n m here).number d x.0 o x.1 (unborn p w i n packet m s at here d x.0 x.1).0
    (ap (begun_by m (length p.config.splits)) (sym x.1) ∙ e)
living-machine p w i n packet m s at here d o false b e = (went p w i n packet m s at here).others d o (sym b) (s.living.machines d o (kept-by (is_killed packet d) (kept p.living d) o e))

living-served : (p : Parts) (w : World) (i n : ℕ) (packet : Packet) (m : node.Node) (living : Living) → Standing p w → slice_get p.bag.packets i ≡ Some (record { to = Node n; body = packet }) → node_of p.nodes n ≡ Some m
    → ((d : ContainerId) → kept living d ≡ (if begins (reaction m.number m.seen packet) d then begun_by m (length p.config.splits) (reaction m.number m.seen packet) else (if is_killed packet d then None else kept p.living d)))
    → LivingStand p.config living (effect p.config w (Deliver i))
living-served p w i n packet m living s at here is = record {
  alive = λ d. ap is_some (is d) ∙ (alive-by (begins (reaction m.number m.seen packet) d) (is_killed packet d) _ (kept p.living d) (w.is_alive d) (s.living.alive d)
      (begun-there m (length p.config.splits) (reaction m.number m.seen packet) d) (starts-kill-none m.number m.seen packet d) ∙ sym ((went p w i n packet m s at here).living d));
  machines = λ d o e. living-machine p w i n packet m s at here d o (begins (reaction m.number m.seen packet) d) refl (sym (is d) ∙ e);
}

served-is : (living : Living) (nodes : Nodes) (n maps : ℕ) (packet : Packet) (m : node.Node) → node_of nodes n ≡ Some m → (d : ContainerId)
    → served living nodes n maps packet d ≡ (if begins (reaction m.number m.seen packet) d then begun_by m maps (reaction m.number m.seen packet) else (if is_killed packet d then None else kept living d))
served-is living nodes n maps packet m here d = rw here refl

-- ---- the node heard the packet

pub stands : (p : Parts) (w : World) (i n : ℕ) (living : Living) (bag : Held) (nodes : Nodes) → Standing p w → IsTaken p.config w (Deliver i) → (to : IsTo p i (Node n))
    → ChangesNode p.nodes n (node_stepped p.nodes n (Hears to.0)) nodes → Serves p.living p.nodes n (length p.config.splits) to.0 living → bag.packets ≡ p.bag.packets ++ agreed.added (reaction_of (node_of p.nodes n) to.0)
    → Standing (record p { living = living; bag = bag; nodes = nodes }) (effect p.config w (Deliver i))
stands p w i n living bag nodes s t to ch sv b =
    let m = there p w i n s to in
    let h = went p w i n to.0 m.0 s to.1 m.1 in
    rests p w (Deliver i) p.names living bag nodes s t refl (masters_go_on.told_others p.config w i _ (carried p w i _ s to.1) refl) (stores_go_on.rests p.config w p.names p.history (Deliver i) s.stores refl)
    (living-served p w i n to.0 m.0 living s to.1 m.1 (λ d. sv (anew p w i n s to) d ∙ served-is p.living p.nodes n (length p.config.splits) to.0 m.0 m.1 d))
    (nodes-moved n m.0 (heard m.0 to.0) m.1 h.node (λ j. ch j ∙ ap (λ o. if nat_eq j n then option_map (λ x. node.after x (Hears to.0)) o else node_of p.nodes j) m.1) s.nodes)
    (b ∙ (ap (λ o. p.bag.packets ++ agreed.added (reaction_of o to.0)) m.1 ∙ ap (λ es. p.bag.packets ++ es) (sym h.sends)))

pub one-added : (r : Reaction) (e : Envelope) → Some e ≡ added_by r → agreed.added r ≡ e ∷ []
one-added (Adds x) e is = cc
one-added Nothing e is = cc
one-added (Starts c a) e is = cc

pub none-added : (r : Reaction) → None ≡ added_by r → agreed.added r ≡ []
none-added (Adds x) is = cc
none-added Nothing is = refl
none-added (Starts c a) is = refl

-- ---- when it can be delivered

limit-is : (cfg : Config) (w : World) (i : ℕ) → within cfg w (Deliver i) ≡ fits_bag cfg w (Deliver i)
unfolding within call_of
limit-is cfg w i = refl

counted : (r : Reaction) → length (agreed.added r) ≡ one_if (is_some (added_by r))
counted Nothing = refl
counted (Starts c a) = refl
counted (Adds e) = refl

pub needs : (p : Parts) (i n : ℕ) → IsTo p i (Node n) → (w : World) → Standing p w → NeedsRoom p w (Deliver i) (one_if (answers_at p.nodes n (slice_get p.bag.packets i)))
needs p i n to w s = let m = there p w i n s to in record {
  now = permitted p.config w i n to.0 (carried p w i _ s to.1);
  limit = limit-is p.config w i;
  count = ap length (went p w i n to.0 m.0 s to.1 m.1).sends ∙ (counted (reaction m.0.number m.0.seen to.0)
      ∙ (ap (λ o. one_if (is_some (added_by (reaction_of o to.0)))) (sym m.1) ∙ ap (λ o. one_if (answers_at p.nodes n o)) (sym to.1)));
}

-- ---- where nothing happened

pub same-all : (p : Parts) (w : World) (living : Living) (bag : Held) (nodes : Nodes) → SameNodes p.nodes nodes → Same p.living living → bag.packets ≡ p.bag.packets → Standing p w → Standing (record p { living = living; bag = bag; nodes = nodes }) w
same-all p w living bag nodes same is b s = record {
  reached = s.reached;
  dest = s.dest;
  stores = s.stores;
  bag = b ∙ s.bag;
  living = record { alive = λ c. ap is_some (is c) ∙ s.living.alive c; machines = λ c m o. s.living.machines c m (sym (is c) ∙ o) };
  nodes = record { there = λ k. ap is_some (same k) ∙ s.nodes.there k; machines = λ k m o. s.nodes.machines k m (sym (same k) ∙ o) };
  masters = s.masters;
  launched = s.launched;
}

-- ---- what the call answers

-- who answers wants room for one packet
pub answering : (nodes : Nodes) (n : ℕ) (o : Option Envelope) (e x : Envelope) → o ≡ Some e → Some x ≡ added_by (reaction_of (node_of nodes n) e.body) → one_if (answers_at nodes n o) ≡ 1
answering nodes n o e x at is = ap (λ z. one_if (answers_at nodes n z)) at ∙ ap (λ z. one_if (is_some z)) (sym is)

pub is-none : (o : Option Envelope) → ((e : Envelope) → o ≡ Some e → ⊥) → o ≡ None
is-none None f = refl
is-none (Some e) f = absurd (f e refl)
