-- Which world the parts of a simulator stand for, and what an event's call promises. Here code and definitions meet.
-- Our own: where code and definitions meet.
use Rattle.std.specs.Prelude.{◌≡◌, ℕ, Bool, true, false, nat_lt, List, Option, Some, None, Result, Ok, Err, ◌⊎◌, is_some, slice_get}
use Rattle.mr_packet.specs.declared.packet.Address.{Address}
use Rattle.mr_packet.specs.declared.packet.Packet.{Packet}
use Rattle.mr_world_events.specs.declared.why.Why.{Why}
use Rattle.mr_container.specs.State as container
use Rattle.mr_node.specs.State as node
use Rattle.mr_master.specs.State as master
use Rattle.mr_world_model.specs.Ids.{ContainerId, dest}
use Rattle.mr_world_model.specs.Packets.{Config}
use Rattle.mr_world_model.specs.World.{World, Event}
use Rattle.mr_world_model.specs.Effect.{not_now, effect}
use Rattle.mr_world_model.specs.Claims.{world_of}
use Rattle.mr_world_model.specs.Stored.{StoresStand}
use Rattle.mr_world_model.specs.Actors.{ContainerIn, NodeIn}
use Rattle.mr_master_refinement.specs.Steps.{setting, steps}
use Rattle.mr_world_actors.specs.declared.living.Living.{Living}
use Rattle.mr_world_actors.specs.declared.nodes.Nodes.{Nodes}
use Rattle.mr_world_actors.specs.Living.{kept}
use Rattle.mr_world_actors.specs.Nodes.{node_of}
use Rattle.mr_world_state.specs.declared.fault.WorldFault.{WorldFault}
use Rattle.mr_world_state.specs.declared.fault.WorldFault.TheVariants as fault
use Rattle.mr_world_state.specs.declared.masters.Masters.{Masters}
use Rattle.mr_world_state.specs.declared.parts.Parts.{Parts}
use Rattle.mr_world_state.specs.Limits.{within, fits_counted, launch_count}
use Rattle.mr_world_state.specs.Machines.{master_of, master_count}

-- w is the world after some events
pub record Reached (cfg : Config) (w : World) : Type 0 where
  pub events : List Event
  pub is : world_of cfg (within cfg) events ≡ w

-- the machine m of the master of generation k stands for its past in the world
abbrev pub MasterIn : Config → World → ℕ → master.Master → Type 0
MasterIn cfg w k m = master.StandsFor m (setting cfg k) (steps (w.master_past k))

-- whose machine is kept is who lives, and each machine stands for its past
pub record LivingStand (cfg : Config) (living : Living) (w : World) : Type 0 where
  pub alive : (c : ContainerId) → is_some (kept living c) ≡ w.is_alive c
  pub machines : (c : ContainerId) (m : container.Container) → kept living c ≡ Some m → ContainerIn cfg w c m

-- the nodes are those below their number
pub record NodesStand (cfg : Config) (nodes : Nodes) (w : World) : Type 0 where
  pub there : (n : ℕ) → is_some (node_of nodes n) ≡ nat_lt n cfg.nodes
  pub machines : (n : ℕ) (m : node.Node) → node_of nodes n ≡ Some m → NodeIn cfg w n m

-- as many masters were started as the newest generation says, and those that are kept are alive
pub record MastersStand (cfg : Config) (masters : Masters) (w : World) : Type 0 where
  pub count : master_count masters ≡ w.fence
  pub alive : (k : ℕ) → is_some (master_of masters k) ≡ w.is_master k
  pub machines : (k : ℕ) (m : master.Master) → master_of masters k ≡ Some m → MasterIn cfg w k m

-- The parts p stand for the world w, which is reached.
pub record Standing (p : Parts) (w : World) : Type 0 where
  pub reached : Reached p.config w
  pub dest : p.layout.dest ≡ dest
  pub stores : StoresStand p.names p.history w
  pub bag : p.bag.packets ≡ w.bag
  pub living : LivingStand p.config p.living w
  pub nodes : NodesStand p.config p.nodes w
  pub masters : MastersStand p.config p.masters w
  pub launched : p.launched ≡ launch_count w

-- the packet at a place of the bag goes to this address
abbrev pub IsTo : Parts → ℕ → Address → Type 0
IsTo p i a = (body : Packet) × (slice_get p.bag.packets i ≡ Some (record { to = a; body = body }))

-- ---- what the calls of events promise, of every world that the parts stand for

-- an event is permitted in a world and passes no limit
pub record IsTaken (cfg : Config) (w : World) (e : Event) : Type 0 where
  pub now : not_now cfg w e ≡ None
  pub fits : within cfg w e ≡ true

-- The fault that is answered: the first reason why an event is not permitted, or else that it would pass a limit, or
-- else an allocation failure. An event may pass none of the limits that are found without memory. Then an allocation
-- failure may also come while it is found out whether it passes another.
abbrev pub Refuses : Option Why → Bool → Bool → WorldFault → Type 0
Refuses (Some why) fits counted f = f ≡ fault.NotNow why
Refuses None true counted f = f ≡ fault.NoMemory
Refuses None false false f = f ≡ fault.Full
Refuses None false true f = (f ≡ fault.Full) ⊎ (f ≡ fault.NoMemory)

-- an event is refused so
abbrev pub RefusesEvent : Config → World → Event → WorldFault → Type 0
RefusesEvent cfg w e f = Refuses (not_now cfg w e) (within cfg w e) (fits_counted cfg w e) f

-- a look at an event: it would be taken, or is refused so
abbrev pub Foresees : {A : Type 0} → Parts → Event → Result A WorldFault → Type 0
Foresees p e (Ok a) = (w : World) → Standing p w → IsTaken p.config w e
Foresees p e (Err f) = (w : World) → Standing p w → RefusesEvent p.config w e f

-- an event was taken, and had its effect; or it was refused, and the parts stand for what they stood for
abbrev pub Tries : {A : Type 0} → Parts → Event → Result A WorldFault → Parts → Type 0
Tries old e (Ok a) new = (w : World) → Standing old w → IsTaken old.config w e × Standing new (effect old.config w e)
Tries old e (Err f) new = (w : World) → Standing old w → RefusesEvent old.config w e f × Standing new w
