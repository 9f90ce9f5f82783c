-- What the parts stand for after an event of no master: stores, masters and launches as they go on by themselves, the living and the nodes as their machines do.
use Rattle.std.proofs.Common.{◌≡◌, ℕ, zero, suc, refl, sym, ◌∙◌, ap, subst, Bool, true, false, ◌&&◌, not, List, [], ◌∷◌, ◌++◌, Option, Some, None, if◌then◌else◌, is_some, nat_eq, nat_lt, ◌⊎◌, inl, inr}
use Rattle.std.proofs.lemmas.Bool.{eqb-true, eqb-false}
use Rattle.mr_names.specs.Calls as names
use Rattle.mr_packet.specs.Bag.{Held}
use Rattle.mr_container.specs.State as container
use Rattle.mr_master.specs.State as master
use Rattle.mr_node.specs.State as node
use Rattle.mr_world_model.specs.Ids.{ContainerId, container_eq}
use Rattle.mr_world_model.specs.Packets.{Config}
use Rattle.mr_world_model.specs.Duties.{Master_step}
use Rattle.mr_world_model.specs.World.{World, Event, opening_world}
use Rattle.mr_world_model.specs.Effect.{effect, run, happens}
use Rattle.mr_world_model.specs.Sending.{sent}
use Rattle.mr_world_model.specs.Stored.{StoresStand}
use Rattle.mr_world_model.specs.Actors as actors
use Rattle.mr_world_model.proofs.Basic.{run-append}
use Rattle.mr_world_model.proofs.Closed.{container_eq-true}
use Rattle.mr_master_refinement.specs.Steps.{setting, steps}
use Rattle.mr_master_refinement.specs.Stores.{MastersRest}
use Rattle.mr_world_actors.specs.declared.living.Living.{Living}
use Rattle.mr_world_actors.specs.declared.nodes.Nodes.{Nodes}
use Rattle.mr_world_actors.specs.Living.{kept, Changes}
use Rattle.mr_world_actors.specs.Nodes.{node_of, ChangesNode}
use Rattle.mr_world_state.specs.declared.masters.Masters.{Masters}
use Rattle.mr_world_state.specs.declared.parts.Parts.{Parts}
use Rattle.mr_world_state.specs.Limits.{within, launches_of}
use Rattle.mr_world_state.specs.Standing.{Standing, Reached, IsTaken, LivingStand, NodesStand, MastersStand}

-- ---- the world after one event more is reached

happens-taken : (cfg : Config) (w : World) (e : Event) → IsTaken cfg w e → happens cfg (within cfg) w e ≡ effect cfg w e
unfolding happens
happens-taken cfg w e t = rw (t.now, t.fits) refl

pub reached-on : {cfg : Config} {w : World} {e : Event} → Reached cfg w → IsTaken cfg w e → Reached cfg (effect cfg w e)
unfolding run
reached-on {cfg} {w} {e} r t = record {
  events = r.events ++ e ∷ [];
  is = run-append cfg (within cfg) opening_world r.events (e ∷ []) ∙ (ap (λ u. happens cfg (within cfg) u e) r.is ∙ happens-taken cfg w e t);
}

-- ---- masters, and how many containers were launched

pub launches-same : (f g : ℕ → List Master_step) → ((k : ℕ) → g k ≡ f k) → (n : ℕ) → launches_of g n ≡ launches_of f n
unfolding launches_of
launches-same f g same zero = refl
launches-same f g same (suc n) = rw (launches-same f g same n, same (suc n)) refl

pub masters-rest : {cfg : Config} {ms : Masters} {w : World} {e : Event} → (effect cfg w e).fence ≡ w.fence → MastersRest cfg w e → MastersStand cfg ms w → MastersStand cfg ms (effect cfg w e)
masters-rest {cfg} {ms} {w} {e} fence r s = record {
  count = s.count ∙ sym fence;
  alive = λ k. s.alive k ∙ sym (r.living k);
  machines = λ k m o. subst (λ past. master.StandsFor m (setting cfg k) (steps past)) (sym (r.pasts k)) (s.machines k m o);
}

-- An event that is no step of a master, nor a start or a crash
pub rests : (p : Parts) (w : World) (e : Event) (names : names.State) (living : Living) (bag : Held) (nodes : Nodes) → Standing p w → IsTaken p.config w e
    → (effect p.config w e).fence ≡ w.fence → MastersRest p.config w e → StoresStand names p.history (effect p.config w e) → LivingStand p.config living (effect p.config w e)
    → NodesStand p.config nodes (effect p.config w e) → bag.packets ≡ p.bag.packets ++ sent p.config w e
    → Standing (record p { names = names; living = living; bag = bag; nodes = nodes }) (effect p.config w e)
rests p w e names living bag nodes s t fence r stores l n b = record {
  reached = reached-on s.reached t;
  dest = s.dest;
  stores = stores;
  bag = b ∙ ap (λ es. es ++ sent p.config w e) s.bag;
  living = l;
  nodes = n;
  masters = masters-rest fence r s.masters;
  launched = s.launched ∙ sym (launches-same w.master_past (effect p.config w e).master_past r.pasts 1000);
}

-- ---- nodes

pub nodes-stay : {cfg : Config} {l k : Nodes} {w u : World} → actors.SameNodes cfg w u → ((n : ℕ) → node_of k n ≡ node_of l n) → NodesStand cfg l w → NodesStand cfg k u
nodes-stay same is s = record {
  there = λ n. ap is_some (is n) ∙ s.there n;
  machines = λ n m o. same n m (s.machines n m (sym (is n) ∙ o));
}

-- one node went on

moved-there : {cfg : Config} {w : World} (n : ℕ) (l : Nodes) (old m : node.Node) (j : ℕ) (b : Bool) → NodesStand cfg l w → node_of l n ≡ Some old → b ≡ nat_eq j n → is_some (if b then Some m else node_of l j) ≡ nat_lt j cfg.nodes
moved-there n l old m j true s at e = ap is_some (sym at) ∙ (ap (λ k. is_some (node_of l k)) (sym (eqb-true j n (sym e))) ∙ s.there j)
moved-there n l old m j false s at e = s.there j

moved-machine : {cfg : Config} {w u : World} (n : ℕ) (l : Nodes) (m : node.Node) (j : ℕ) (o : node.Node) (b : Bool) → actors.NodeMoved cfg w u n m → NodesStand cfg l w → b ≡ nat_eq j n → (if b then Some m else node_of l j) ≡ Some o → actors.NodeIn cfg u j o
moved-machine {cfg} {w} {u} n l m j o true moved s e is = let same : m ≡ o = cc is in
    subst (λ k. actors.NodeIn cfg u k o) (sym (eqb-true j n (sym e))) (subst (actors.NodeIn cfg u n) same moved.now)
moved-machine {cfg} {w} {u} n l m j o false moved s e is = moved.others j o (eqb-false j n (sym e)) (s.machines j o is)

pub nodes-moved : {cfg : Config} {l k : Nodes} {w u : World} (n : ℕ) (old m : node.Node) → node_of l n ≡ Some old → actors.NodeMoved cfg w u n m → ChangesNode l n (Some m) k → NodesStand cfg l w → NodesStand cfg k u
nodes-moved {cfg} {l} {k} {w} {u} n old m at moved is s = record {
  there = λ j. ap is_some (is j) ∙ moved-there n l old m j (nat_eq j n) s at refl;
  machines = λ j o e. moved-machine n l m j o (nat_eq j n) moved s refl (sym (is j) ∙ e);
}

-- ---- the living

pub living-stay : {cfg : Config} {l k : Living} {w u : World} → actors.SameContainers cfg w u → ((c : ContainerId) → kept k c ≡ kept l c) → LivingStand cfg l w → LivingStand cfg k u
living-stay same is s = record {
  alive = λ c. ap is_some (is c) ∙ (s.alive c ∙ sym (same.living c));
  machines = λ c m o. same.machines c m (s.machines c m (sym (is c) ∙ o));
}

gone : (b : Bool) (o : Option container.Container) (a : Bool) → is_some o ≡ a → is_some (if b then None else o) ≡ (a && not b)
gone true o true e = refl
gone true o false e = refl
gone false o true e = e
gone false o false e = e

not-gone : (b : Bool) (o : Option container.Container) (m : container.Container) → (if b then None else o) ≡ Some m → o ≡ Some m
not-gone true o m e = cc
not-gone false o m e = e

-- one lives no longer, and no machine went on
pub living-without : {cfg : Config} {l k : Living} {w u : World} (c : ContainerId) → ((d : ContainerId) (m : container.Container) → actors.ContainerIn cfg w d m → actors.ContainerIn cfg u d m)
    → ((d : ContainerId) → u.is_alive d ≡ (w.is_alive d && not (container_eq d c))) → Changes l c None k → LivingStand cfg l w → LivingStand cfg k u
living-without {cfg} {l} {k} {w} {u} c stay lives is s = record {
  alive = λ d. ap is_some (is d) ∙ (gone (container_eq d c) (kept l d) (w.is_alive d) (s.alive d) ∙ sym (lives d));
  machines = λ d m o. stay d m (s.machines d m (not-gone (container_eq d c) (kept l d) m (sym (is d) ∙ o)));
}

-- ---- one container went on

abbrev moved_to : Bool → Bool → container.Container → Option container.Container → Option container.Container
moved_to b over m o = if b then (if over then None else Some m) else o

still-alive : (b over : Bool) (m : container.Container) (o : Option container.Container) (a : Bool) → is_some o ≡ a → (b ≡ true → a ≡ true) → is_some (moved_to b over m o) ≡ (a && not (b && over))
still-alive true true m o true e f = refl
still-alive true true m o false e f = refl
still-alive true false m o true e f = refl
still-alive true false m o false e f = sym (f refl)
still-alive false over m o true e f = e
still-alive false over m o false e f = e

kept-machine : (b over : Bool) (m n : container.Container) (o : Option container.Container) → moved_to b over m o ≡ Some n → ((b ≡ true) × (m ≡ n)) ⊎ ((b ≡ false) × (o ≡ Some n))
kept-machine true true m n o e = cc
kept-machine true false m n o e = inl (refl, cc)
kept-machine false over m n o e = inr (refl, e)

pub living-moved : {cfg : Config} {l k : Living} {w u : World} (c : ContainerId) (old m : container.Container) → kept l c ≡ Some old → actors.ContainerMoved cfg w u c m
    → Changes l c (if actors.is_finished m.seen.wish then None else Some m) k → LivingStand cfg l w → LivingStand cfg k u
living-moved {cfg} {l} {k} {w} {u} c old m there moved is s = record {
  alive = λ d. ap is_some (is d) ∙ (still-alive (container_eq d c) (actors.is_finished m.seen.wish) m (kept l d) (w.is_alive d) (s.alive d) (λ e. sym (s.alive d) ∙ ap (λ x. is_some (kept l x)) (container_eq-true d c e) ∙ ap is_some there) ∙ sym (moved.living d));
  machines = λ d n o. by d n (kept-machine (container_eq d c) (actors.is_finished m.seen.wish) m n (kept l d) (sym (is d) ∙ o));
}
  where
    by : (d : ContainerId) (n : container.Container) → ((container_eq d c ≡ true) × (m ≡ n)) ⊎ ((container_eq d c ≡ false) × (kept l d ≡ Some n)) → actors.ContainerIn cfg u d n
    by d n (inl p) = subst (λ x. actors.ContainerIn cfg u x n) (sym (container_eq-true d c p.0)) (subst (λ x. actors.ContainerIn cfg u c x) p.1 moved.now)
    by d n (inr p) = moved.others d n p.0 (s.machines d n p.1)

-- ---- where nothing happened

pub same-parts : (p : Parts) (w : World) (living : Living) (bag : Held) → ((c : ContainerId) → kept living c ≡ kept p.living c) → bag.packets ≡ p.bag.packets → Standing p w → Standing (record p { living = living; bag = bag }) w
same-parts p w living bag is b s = record {
  reached = s.reached;
  dest = s.dest;
  stores = s.stores;
  bag = b ∙ s.bag;
  living = record { alive = λ c. ap is_some (is c) ∙ s.living.alive c; machines = λ c m o. s.living.machines c m (sym (is c) ∙ o) };
  nodes = s.nodes;
  masters = s.masters;
  launched = s.launched;
}

pub changes-twice : (a b k : Living) (c : ContainerId) (m n : Option container.Container) → Changes a c m b → Changes b c n k → Changes a c n k
changes-twice a b k c m n f g d = g d ∙ by (container_eq d c) (f d)
  where
    by : (t : Bool) → kept b d ≡ (if t then m else kept a d) → (if t then n else kept b d) ≡ (if t then n else kept a d)
    by true e = refl
    by false e = e
