-- What each kind of event changes of the machines of containers and nodes, and the packets that it adds to the bag.
-- Our own: it ties the cluster to the crates beneath it.
use Rattle.std.specs.Prelude.{◌≡◌, ℕ, Bool, true, false, ◌&&◌, ◌||◌, not, List, [], ◌∷◌, Some, None, length}
use Rattle.mr_packet.specs.Sends as sends
use Rattle.mr_container.specs.Past as container_past
use Rattle.mr_container.specs.Readings as container_readings
use Rattle.mr_container.specs.State as container
use Rattle.mr_container.specs.Wished as called
use Rattle.mr_node.specs.declared.reaction.Reaction.{Reaction}
use Rattle.mr_node.specs.declared.reaction.Reaction.TheVariants.{Starts}
use Rattle.mr_node.specs.Readings as readings
use Rattle.mr_node.specs.State as node
use Rattle.mr_world_model.specs.Ids.{Attempt, ContainerId, container_eq, is_reduce}
use Rattle.mr_world_model.specs.Content.{Op}
use Rattle.mr_world_model.specs.Packets.{Config, Packet, Kill, NodeUp, Envelope, Master, Container, Node, Names}
use Rattle.mr_world_model.specs.Pasts.{Got, Sent, Computed, Called, Node_got, Shelved, Restarted}
use Rattle.mr_world_model.specs.World.{World, Weather, Event, Deliver, ContainerStep, Compute, Die, NodeRestart, op_of, packet_of, caller_of, reply_to, reply_under, as_heard, is_on}
use Rattle.mr_world_model.specs.Sending.{sent, to_masters}
use Rattle.mr_world_model.specs.Effect.{effect}
use Rattle.mr_world_model.specs.Nodes.{added}
use Rattle.mr_world_model.specs.Actors.{ContainerIn, NodeIn, SameContainers, SameNodes, ContainerMoved, NodeMoved, Carries, is_of_masters}

-- the events of masters, and a packet that comes to one
pub record MastersAct : Type 0 where
  pub containers : (cfg : Config) (w : World) (e : Event) → is_of_masters e ≡ true → SameContainers cfg w (effect cfg w e)
  pub nodes : (cfg : Config) (w : World) (e : Event) → is_of_masters e ≡ true → SameNodes cfg w (effect cfg w e)
  pub containers_told : (cfg : Config) (w : World) (i k : ℕ) (p : Packet) → Carries w i (record { to = Master k; body = p }) → SameContainers cfg w (effect cfg w (Deliver i))
  pub nodes_told : (cfg : Config) (w : World) (i k : ℕ) (p : Packet) → Carries w i (record { to = Master k; body = p }) → SameNodes cfg w (effect cfg w (Deliver i))

-- a container went on, no node did, and these packets were sent
pub record Went (cfg : Config) (w : World) (e : Event) (c : ContainerId) (m : container.Container) (packets : List Envelope) : Type 0 where
  pub moved : ContainerMoved cfg w (effect cfg w e) c m
  pub nodes : SameNodes cfg w (effect cfg w e)
  pub sends : sent cfg w e ≡ packets

-- the steps of a container, whose machine goes from m to new
pub record ContainersAct : Type 0 where
  -- a packet comes to it
  pub hears : (cfg : Config) (w : World) (i : ℕ) (c : ContainerId) (p : Packet) (m new : container.Container) → Carries w i (record { to = Container c; body = p }) → ContainerIn cfg w c m → container.Stands m (Got p) new →
      Went cfg w (Deliver i) c new (called.end_of c new.seen.wish)
  -- it makes the call that it wishes to make
  pub calls : (cfg : Config) (w : World) (c : ContainerId) (f : Weather) (op : Op) (m new : container.Container) → op_of cfg w c ≡ Some op → ContainerIn cfg w c m →
      container.Stands m (Called op (as_heard (reply_under f (reply_to w (caller_of w c) (Names op))))) new → Went cfg w (ContainerStep c f) c new []
  -- it sends the packet that it wishes to send
  pub sends : (cfg : Config) (w : World) (c : ContainerId) (f : Weather) (e : Envelope) (m new : container.Container) → op_of cfg w c ≡ None → packet_of cfg w c ≡ Some e → ContainerIn cfg w c m →
      container.Stands m (Sent e.body) new → Went cfg w (ContainerStep c f) c new (e ∷ called.end_of c new.seen.wish)
  -- it wishes neither: nothing changes
  pub rests : (cfg : Config) (w : World) (c : ContainerId) (f : Weather) → op_of cfg w c ≡ None → packet_of cfg w c ≡ None →
      SameContainers cfg w (effect cfg w (ContainerStep c f)) × SameNodes cfg w (effect cfg w (ContainerStep c f)) × (sent cfg w (ContainerStep c f) ≡ [])
  -- a reduce's bytes are handed in
  pub computes : (cfg : Config) (w : World) (c : ContainerId) (bytes : List ℕ) (m new : container.Container) → is_reduce m.place.attempt ≡ true → container_readings.is_computing m.seen.wish ≡ true → ContainerIn cfg w c m →
      container.Stands m (Computed bytes) new → Went cfg w (Compute c bytes) c new []

-- a map's bytes are handed in, and lie on its node's shelf
pub record Shelves (cfg : Config) (w : World) (e : Event) (c : ContainerId) (m : container.Container) (n : ℕ) (on : node.Node) : Type 0 where
  pub moved : ContainerMoved cfg w (effect cfg w e) c m
  pub node : NodeMoved cfg w (effect cfg w e) n on
  pub sends : sent cfg w e ≡ []

abbrev pub MapsAct : Type 0
MapsAct = (cfg : Config) (w : World) (c : ContainerId) (bytes : List ℕ) (m new : container.Container) (n on : node.Node) → is_reduce m.place.attempt ≡ false → container_readings.is_computing m.seen.wish ≡ true →
    ContainerIn cfg w c m → container.Stands m (Computed bytes) new → NodeIn cfg w m.place.node n → node.Stands n (Shelved m.place.attempt bytes) on → Shelves cfg w (Compute c bytes) c new m.place.node on

-- a container dies
pub record Dies (cfg : Config) (w u : World) (c : ContainerId) (packets : List Envelope) : Type 0 where
  pub machines : (d : ContainerId) (m : container.Container) → ContainerIn cfg w d m → ContainerIn cfg u d m
  pub living : (d : ContainerId) → u.is_alive d ≡ (w.is_alive d && not (container_eq d c))
  pub nodes : SameNodes cfg w u
  pub sends : packets ≡ sends.ended c ∷ []

-- a node restarts: its containers end without a packet, and the living masters are told of its incarnation
pub record Restarts (cfg : Config) (w u : World) (n : ℕ) (m : node.Node) (packets : List Envelope) : Type 0 where
  pub machines : (c : ContainerId) (o : container.Container) → ContainerIn cfg w c o → ContainerIn cfg u c o
  pub living : (c : ContainerId) → u.is_alive c ≡ (w.is_alive c && not (is_on n (w.place c)))
  pub node : NodeMoved cfg w u n m
  pub sends : packets ≡ to_masters w.is_master w.fence (NodeUp n m.seen.incarnation)

-- whether a reaction starts a container, and a packet kills one
abbrev pub begins : Reaction → ContainerId → Bool
begins (Starts c a) d = container_eq d c
begins r d = false

abbrev pub is_killed : Packet → ContainerId → Bool
is_killed (Kill c) d = container_eq d c
is_killed p d = false

-- a packet p comes to node n, whose machine was m and is new. What it adds is its reaction's packet; a container that it starts has a machine k of its own
pub record NodeHeard (cfg : Config) (w u : World) (n : ℕ) (p : Packet) (m new : node.Node) (packets : List Envelope) : Type 0 where
  pub node : NodeMoved cfg w u n new
  pub sends : packets ≡ added (readings.reaction m.number m.seen p)
  pub started : (c : ContainerId) (a : Attempt) (k : container.Container) → readings.reaction m.number m.seen p ≡ Starts c a → w.container_past c ≡ [] →
      container.StandsFor k c (length cfg.splits) (container_past.launched_as (record { attempt = a; node = n; incarnation = m.seen.incarnation })) → ContainerIn cfg u c k
  pub others : (d : ContainerId) (o : container.Container) → begins (readings.reaction m.number m.seen p) d ≡ false → ContainerIn cfg w d o → ContainerIn cfg u d o
  pub living : (d : ContainerId) → u.is_alive d ≡ ((begins (readings.reaction m.number m.seen p) d || w.is_alive d) && not (is_killed p d))

pub record NodesAct : Type 0 where
  pub hears : (cfg : Config) (w : World) (i n : ℕ) (p : Packet) (m new : node.Node) → Carries w i (record { to = Node n; body = p }) → NodeIn cfg w n m → node.Stands m (Node_got p) new →
      NodeHeard cfg w (effect cfg w (Deliver i)) n p m new (sent cfg w (Deliver i))
  pub restarts : (cfg : Config) (w : World) (n : ℕ) (m new : node.Node) → NodeIn cfg w n m → node.Stands m Restarted new → Restarts cfg w (effect cfg w (NodeRestart n)) n new (sent cfg w (NodeRestart n))
  pub dies : (cfg : Config) (w : World) (c : ContainerId) → Dies cfg w (effect cfg w (Die c)) c (sent cfg w (Die c))
