-- The steps, the results and the deaths of containers, and restarts of nodes: each is permitted in both of two alike worlds, and leaves alike worlds.
use Rattle.std.proofs.Common.{ℕ, ◌≡◌, refl, sym, ◌∙◌, ap, subst, Bool, true, false, ◌||◌, not, List, Option, Some, None, is_some, nat_lt}
use Rattle.mr_container.specs.State as container
use Rattle.mr_container.specs.declared.reply.Reply as container_reply
use Rattle.mr_container.proofs.Standing as container_standing
use Rattle.mr_node.specs.State as node
use Rattle.mr_node.proofs.Standing as node_standing
use Rattle.mr_world_model.specs.Ids.{ContainerId, is_reduce}
use Rattle.mr_world_model.specs.Content.{Op}
use Rattle.mr_world_model.specs.Packets.{Config, Envelope, Names, Caller, NodeUp}
use Rattle.mr_world_model.specs.Pasts.{Sent, Computed, Called, Shelved, Restarted, Place}
use Rattle.mr_world_model.specs.World.{World, Event, ContainerStep, Compute, Die, NodeRestart, Weather, call_of, op_made, unless_stopped, is_stopped, caller_of, attempt_of, op_of, packet_of, wish_of, reply_to, reply_under, as_heard}
use Rattle.mr_world_model.specs.Sending.{sent, to_masters}
use Rattle.mr_world_model.specs.Effect.{NoContainer, WrongWish, NoStoreCall, NotBlocks, NoNode, unless, wants_compute, is_calm, is_blocks, not_now, effect}
use Rattle.mr_world_model.specs.Claims.{Limits, world_of}
use Rattle.mr_world_model.specs.Actors.{ContainerSays, BoundsBytes}
use Rattle.mr_world_model.proofs.Basic.{unless_parts}
use Rattle.mr_world_model.proofs.Acts.{containers_act, maps_act, nodes_act}
use Rattle.mr_world_model.proofs.Runs.{containers_say}
use Rattle.mr_world_model.proofs.Places.{places_are_nodes}
use Rattle.mr_master_refinement.proofs.Stores.{masters_go_on}
use Rattle.mr_world_alike.proofs.Raised.{Same}
use Rattle.mr_world_alike.proofs.Stored.{reply-to-same, stopped-same, history-same, fence-same}
use Rattle.mr_world_alike.proofs.Masters.{masters-rest}
use Rattle.mr_world_alike.proofs.Actors.{ContainersAlike, NodesAlike, containers-rest, containers-move, containers-die, containers-end, nodes-rest, nodes-move}
use Rattle.mr_world_alike.proofs.Events.{masters-of, containers-of, join, unless-same, none-called, Follows}

record Says (cfg : Config) (w u : World) (c : ContainerId) (m : container.Container) : Type 0 where
  pub here : ContainerSays cfg w c m
  pub there : ContainerSays cfg u c m

module _ (cfg : Config) (within : Limits) (bound : BoundsBytes within) (es fs : List Event) (e : Same cfg (world_of cfg within es) (world_of cfg within fs)) where
  abbrev W : World
  W = world_of cfg within es

  abbrev U : World
  U = world_of cfg within fs

  -- ---- what a living container says in both

  says : (c : ContainerId) (t : W.is_alive c ≡ true) → Says cfg W U c (e.containers c t).machine
  says c t =
      let o = e.containers c t in
      record { here = containers_say cfg within bound es c o.machine o.one; there = containers_say cfg within bound fs c o.machine o.other }

  place-same : (c : ContainerId) → W.is_alive c ≡ true → W.place c ≡ U.place c
  place-same c t = let s = says c t in s.here.place ∙ sym s.there.place

  wish-same : (c : ContainerId) → W.is_alive c ≡ true → wish_of cfg W c ≡ wish_of cfg U c
  wish-same c t = let s = says c t in s.here.wish ∙ sym s.there.wish

  op-same : (c : ContainerId) → W.is_alive c ≡ true → op_of cfg W c ≡ op_of cfg U c
  op-same c t = let s = says c t in s.here.call ∙ sym s.there.call

  packet-same : (c : ContainerId) → W.is_alive c ≡ true → packet_of cfg W c ≡ packet_of cfg U c
  packet-same c t = let s = says c t in s.here.packet ∙ sym s.there.packet

  caller-same : (c : ContainerId) → W.is_alive c ≡ true → caller_of W c ≡ caller_of U c
  caller-same c t = ap (λ (p : Option Place). record { app = c.app; attempt = attempt_of p }) (place-same c t)

  -- ---- a step

  pub step-permitted : (c : ContainerId) (f : Weather) → not_now cfg W (ContainerStep c f) ≡ not_now cfg U (ContainerStep c f)
  unfolding not_now
  step-permitted c f =
      unless-same (W.is_alive c) (U.is_alive c) NoContainer (unless (not (wants_compute (wish_of cfg W c))) WrongWish (unless (is_calm f || is_some (op_of cfg W c)) NoStoreCall None))
      (unless (not (wants_compute (wish_of cfg U c))) WrongWish (unless (is_calm f || is_some (op_of cfg U c)) NoStoreCall None)) (e.is_alive c)
      (λ t. let v = wish-same c t in let o = op-same c t in λ i. unless (not (wants_compute (v i))) WrongWish (unless (is_calm f || is_some (o i)) NoStoreCall None))

  step-lives : (c : ContainerId) (f : Weather) → not_now cfg W (ContainerStep c f) ≡ None → W.is_alive c ≡ true
  unfolding not_now
  step-lives c f now = (unless_parts (W.is_alive c) NoContainer (unless (not (wants_compute (wish_of cfg W c))) WrongWish (unless (is_calm f || is_some (op_of cfg W c)) NoStoreCall None)) now).0

  step-calls : (c : ContainerId) (f : Weather) → W.is_alive c ≡ true → call_of cfg W (ContainerStep c f) ≡ call_of cfg U (ContainerStep c f)
  unfolding call_of
  step-calls c f t =
      let o = op-same c t in
      let stop : is_stopped W (caller_of W c) ≡ is_stopped U (caller_of U c) = stopped-same cfg W U e (caller_of W c) ∙ ap (λ (x : Caller). is_stopped U x) (caller-same c t) in
      λ i. unless_stopped (stop i) (op_made c.app f (o i))

  step-joined : (c : ContainerId) (f : Weather) → W.is_alive c ≡ true → sent cfg W (ContainerStep c f) ≡ sent cfg U (ContainerStep c f) → ContainersAlike cfg (effect cfg W (ContainerStep c f)) (effect cfg U (ContainerStep c f))
      → NodesAlike cfg (effect cfg W (ContainerStep c f)) (effect cfg U (ContainerStep c f)) → Follows cfg W U (ContainerStep c f) (ContainerStep c f)
  step-joined c f t sends m n = record {
    sends = sends;
    left = join cfg W U e (ContainerStep c f) (ContainerStep c f) (step-calls c f t) (history-same cfg W U e (ContainerStep c f)) (fence-same cfg W U e (ContainerStep c f)) sends
        (masters-rest cfg W U (masters-of cfg W U e) (ContainerStep c f) (ContainerStep c f) (masters_go_on.rests cfg W (ContainerStep c f) refl) (masters_go_on.rests cfg U (ContainerStep c f) refl)) m n;
  }

  -- it calls
  calls-follow : (c : ContainerId) (f : Weather) (op : Op) → W.is_alive c ≡ true → op_of cfg W c ≡ Some op → Follows cfg W U (ContainerStep c f) (ContainerStep c f)
  calls-follow c f op t q =
      let o = e.containers c t in
      let r = as_heard (reply_under f (reply_to W (caller_of W c) (Names op))) in
      let replies : as_heard (reply_under f (reply_to W (caller_of W c) (Names op))) ≡ as_heard (reply_under f (reply_to U (caller_of U c) (Names op))) =
      ap (λ z. as_heard (reply_under f z)) (reply-to-same cfg W U e (caller_of W c) (Names op) ∙ ap (λ (x : Caller). reply_to U x (Names op)) (caller-same c t)) in
      let new = container.after o.machine (Called op r) in
      let on = container_standing.stands_after o.machine new (Called op r) refl in
      let P : container_reply.Reply → Type 0 = λ z. container.Stands o.machine (Called op z) new in
      let a = containers_act.calls cfg W c f op o.machine new q o.one on in
      let b = containers_act.calls cfg U c f op o.machine new (sym (op-same c t) ∙ q) o.other (subst P replies on) in
      step-joined c f t (a.sends ∙ sym b.sends)
      (containers-move cfg W U (containers-of cfg W U e) (effect cfg W (ContainerStep c f)) (effect cfg U (ContainerStep c f)) c new a.moved b.moved)
      (nodes-rest cfg W U e.nodes (effect cfg W (ContainerStep c f)) (effect cfg U (ContainerStep c f)) a.nodes b.nodes)

  -- it sends
  sends-follow : (c : ContainerId) (f : Weather) (x : Envelope) → W.is_alive c ≡ true → op_of cfg W c ≡ None → packet_of cfg W c ≡ Some x → Follows cfg W U (ContainerStep c f) (ContainerStep c f)
  sends-follow c f x t q r =
      let o = e.containers c t in
      let new = container.after o.machine (Sent x.body) in
      let on = container_standing.stands_after o.machine new (Sent x.body) refl in
      let a = containers_act.sends cfg W c f x o.machine new q r o.one on in
      let b = containers_act.sends cfg U c f x o.machine new (sym (op-same c t) ∙ q) (sym (packet-same c t) ∙ r) o.other on in
      step-joined c f t (a.sends ∙ sym b.sends)
      (containers-move cfg W U (containers-of cfg W U e) (effect cfg W (ContainerStep c f)) (effect cfg U (ContainerStep c f)) c new a.moved b.moved)
      (nodes-rest cfg W U e.nodes (effect cfg W (ContainerStep c f)) (effect cfg U (ContainerStep c f)) a.nodes b.nodes)

  -- it does neither
  rests-follow : (c : ContainerId) (f : Weather) → W.is_alive c ≡ true → op_of cfg W c ≡ None → packet_of cfg W c ≡ None → Follows cfg W U (ContainerStep c f) (ContainerStep c f)
  rests-follow c f t q r =
      let a = containers_act.rests cfg W c f q r in
      let b = containers_act.rests cfg U c f (sym (op-same c t) ∙ q) (sym (packet-same c t) ∙ r) in
      step-joined c f t (a.2 ∙ sym b.2)
      (containers-rest cfg W U (containers-of cfg W U e) (effect cfg W (ContainerStep c f)) (effect cfg U (ContainerStep c f)) a.0 b.0)
      (nodes-rest cfg W U e.nodes (effect cfg W (ContainerStep c f)) (effect cfg U (ContainerStep c f)) a.1 b.1)

  pub step-follows : (c : ContainerId) (f : Weather) → not_now cfg W (ContainerStep c f) ≡ None → Follows cfg W U (ContainerStep c f) (ContainerStep c f)
  step-follows c f now = by (step-lives c f now) (op_of cfg W c) (packet_of cfg W c) refl refl
    where
      by : W.is_alive c ≡ true → (o : Option Op) (x : Option Envelope) → op_of cfg W c ≡ o → packet_of cfg W c ≡ x → Follows cfg W U (ContainerStep c f) (ContainerStep c f)
      by t (Some op) x q r = calls-follow c f op t q
      by t None (Some x) q r = sends-follow c f x t q r
      by t None None q r = rests-follow c f t q r

  -- ---- bytes that are handed in

  pub bytes-permitted : (c : ContainerId) (bytes : List ℕ) → not_now cfg W (Compute c bytes) ≡ not_now cfg U (Compute c bytes)
  unfolding not_now
  bytes-permitted c bytes =
      unless-same (W.is_alive c) (U.is_alive c) NoContainer (unless (wants_compute (wish_of cfg W c)) WrongWish (unless (is_blocks cfg (W.place c) bytes) NotBlocks None))
      (unless (wants_compute (wish_of cfg U c)) WrongWish (unless (is_blocks cfg (U.place c) bytes) NotBlocks None)) (e.is_alive c)
      (λ t. let v = wish-same c t in let p = place-same c t in λ i. unless (wants_compute (v i)) WrongWish (unless (is_blocks cfg (p i) bytes) NotBlocks None))

  bytes-parts : (c : ContainerId) (bytes : List ℕ) → not_now cfg W (Compute c bytes) ≡ None → (W.is_alive c ≡ true) × (wants_compute (wish_of cfg W c) ≡ true)
  unfolding not_now
  bytes-parts c bytes now =
      let a = unless_parts (W.is_alive c) NoContainer (unless (wants_compute (wish_of cfg W c)) WrongWish (unless (is_blocks cfg (W.place c) bytes) NotBlocks None)) now in
      let b = unless_parts (wants_compute (wish_of cfg W c)) WrongWish (unless (is_blocks cfg (W.place c) bytes) NotBlocks None) a.1 in
      (a.0, b.0)

  bytes-joined : (c : ContainerId) (bytes : List ℕ) → sent cfg W (Compute c bytes) ≡ sent cfg U (Compute c bytes) → ContainersAlike cfg (effect cfg W (Compute c bytes)) (effect cfg U (Compute c bytes))
      → NodesAlike cfg (effect cfg W (Compute c bytes)) (effect cfg U (Compute c bytes)) → Follows cfg W U (Compute c bytes) (Compute c bytes)
  bytes-joined c bytes sends m n = record {
    sends = sends;
    left = join cfg W U e (Compute c bytes) (Compute c bytes) (none-called cfg W (Compute c bytes) refl ∙ sym (none-called cfg U (Compute c bytes) refl)) (history-same cfg W U e (Compute c bytes)) (fence-same cfg W U e (Compute c bytes)) sends
        (masters-rest cfg W U (masters-of cfg W U e) (Compute c bytes) (Compute c bytes) (masters_go_on.rests cfg W (Compute c bytes) refl) (masters_go_on.rests cfg U (Compute c bytes) refl)) m n;
  }

  pub bytes-follow : (c : ContainerId) (bytes : List ℕ) → not_now cfg W (Compute c bytes) ≡ None → Follows cfg W U (Compute c bytes) (Compute c bytes)
  bytes-follow c bytes now = let parts = bytes-parts c bytes now in by parts.0 parts.1 (is_reduce (e.containers c parts.0).machine.place.attempt) refl
    where
      by : (t : W.is_alive c ≡ true) → wants_compute (wish_of cfg W c) ≡ true → (b : Bool) → is_reduce (e.containers c t).machine.place.attempt ≡ b → Follows cfg W U (Compute c bytes) (Compute c bytes)
      by t v true r =
          let s = says c t in
          let o = e.containers c t in
          let wishes = sym s.here.computes ∙ v in
          let new = container.after o.machine (Computed bytes) in
          let on = container_standing.stands_after o.machine new (Computed bytes) refl in
          let a = containers_act.computes cfg W c bytes o.machine new r wishes o.one on in
          let b = containers_act.computes cfg U c bytes o.machine new r wishes o.other on in
          bytes-joined c bytes (a.sends ∙ sym b.sends)
          (containers-move cfg W U (containers-of cfg W U e) (effect cfg W (Compute c bytes)) (effect cfg U (Compute c bytes)) c new a.moved b.moved)
          (nodes-rest cfg W U e.nodes (effect cfg W (Compute c bytes)) (effect cfg U (Compute c bytes)) a.nodes b.nodes)
      by t v false r =
          let s = says c t in
          let o = e.containers c t in
          let wishes = sym s.here.computes ∙ v in
          let new = container.after o.machine (Computed bytes) in
          let on = container_standing.stands_after o.machine new (Computed bytes) refl in
          let k = e.nodes o.machine.place.node (places_are_nodes cfg within es c o.machine.place s.here.place) in
          let shelf = node.after k.machine (Shelved o.machine.place.attempt bytes) in
          let shelves = node_standing.stands_after k.machine shelf (Shelved o.machine.place.attempt bytes) refl in
          let a = maps_act cfg W c bytes o.machine new k.machine shelf r wishes o.one on k.one shelves in
          let b = maps_act cfg U c bytes o.machine new k.machine shelf r wishes o.other on k.other shelves in
          bytes-joined c bytes (a.sends ∙ sym b.sends)
          (containers-move cfg W U (containers-of cfg W U e) (effect cfg W (Compute c bytes)) (effect cfg U (Compute c bytes)) c new a.moved b.moved)
          (nodes-move cfg W U e.nodes (effect cfg W (Compute c bytes)) (effect cfg U (Compute c bytes)) o.machine.place.node shelf a.node b.node)

  -- ---- a death

  pub die-permitted : (c : ContainerId) → not_now cfg W (Die c) ≡ not_now cfg U (Die c)
  unfolding not_now
  die-permitted c = let l = e.is_alive c in λ i. unless (l i) NoContainer None

  pub die-follows : (c : ContainerId) → Follows cfg W U (Die c) (Die c)
  die-follows c =
      let a = nodes_act.dies cfg W c in
      let b = nodes_act.dies cfg U c in
      let sends : sent cfg W (Die c) ≡ sent cfg U (Die c) = a.sends ∙ sym b.sends in
      record {
        sends = sends;
        left = join cfg W U e (Die c) (Die c) (none-called cfg W (Die c) refl ∙ sym (none-called cfg U (Die c) refl)) (history-same cfg W U e (Die c)) (fence-same cfg W U e (Die c)) sends
            (masters-rest cfg W U (masters-of cfg W U e) (Die c) (Die c) (masters_go_on.rests cfg W (Die c) refl) (masters_go_on.rests cfg U (Die c) refl))
            (containers-die cfg W U (containers-of cfg W U e) (effect cfg W (Die c)) (effect cfg U (Die c)) c (sent cfg W (Die c)) (sent cfg U (Die c)) a b)
            (nodes-rest cfg W U e.nodes (effect cfg W (Die c)) (effect cfg U (Die c)) a.nodes b.nodes);
      }

  -- ---- a node restarts

  pub restart-permitted : (n : ℕ) → not_now cfg W (NodeRestart n) ≡ not_now cfg U (NodeRestart n)
  unfolding not_now
  restart-permitted n = refl

  restart-there : (n : ℕ) → not_now cfg W (NodeRestart n) ≡ None → nat_lt n cfg.nodes ≡ true
  unfolding not_now
  restart-there n now = (unless_parts (nat_lt n cfg.nodes) NoNode None now).0

  pub restart-follows : (n : ℕ) → not_now cfg W (NodeRestart n) ≡ None → Follows cfg W U (NodeRestart n) (NodeRestart n)
  restart-follows n now =
      let o = e.nodes n (restart-there n now) in
      let new = node.after o.machine Restarted in
      let on = node_standing.stands_after o.machine new Restarted refl in
      let a = nodes_act.restarts cfg W n o.machine new o.one on in
      let b = nodes_act.restarts cfg U n o.machine new o.other on in
      let told : to_masters W.is_master W.fence (NodeUp n new.seen.incarnation) ≡ to_masters U.is_master U.fence (NodeUp n new.seen.incarnation) =
      λ i. to_masters (λ k. e.is_master k i) (e.fence i) (NodeUp n new.seen.incarnation) in
      let sends : sent cfg W (NodeRestart n) ≡ sent cfg U (NodeRestart n) = a.sends ∙ (told ∙ sym b.sends) in
      record {
        sends = sends;
        left = join cfg W U e (NodeRestart n) (NodeRestart n) (none-called cfg W (NodeRestart n) refl ∙ sym (none-called cfg U (NodeRestart n) refl)) (history-same cfg W U e (NodeRestart n)) (fence-same cfg W U e (NodeRestart n)) sends
            (masters-rest cfg W U (masters-of cfg W U e) (NodeRestart n) (NodeRestart n) (masters_go_on.rests cfg W (NodeRestart n) refl) (masters_go_on.rests cfg U (NodeRestart n) refl))
            (containers-end cfg W U (containers-of cfg W U e) (effect cfg W (NodeRestart n)) (effect cfg U (NodeRestart n)) n new new (sent cfg W (NodeRestart n)) (sent cfg U (NodeRestart n)) a b)
            (nodes-move cfg W U e.nodes (effect cfg W (NodeRestart n)) (effect cfg U (NodeRestart n)) n new a.node b.node);
      }
