-- When two worlds are alike, whatever led to them: what each event makes of one, the same event makes of the other. Our own.
use Rattle.std.specs.Prelude.{◌≡◌, ◌≤◌, ℕ, true, nat_lt, slice_get}
use Rattle.mr_container.specs.State as container
use Rattle.mr_node.specs.State as node
use Rattle.mr_world_model.specs.Ids.{Attempt, ContainerId}
use Rattle.mr_world_model.specs.Packets.{Config}
use Rattle.mr_world_model.specs.Hearing.{has}
use Rattle.mr_world_model.specs.World.{World, Event, Deliver}
use Rattle.mr_world_model.specs.Results.{outcome}
use Rattle.mr_world_model.specs.Actors.{ContainerIn, NodeIn}
use Rattle.mr_master_refinement.specs.Steps.{setting}
use Rattle.mr_master_refinement.specs.Agreement.{machine_seen}
use Rattle.mr_world_alike.specs.Masters.{SameMasters}

-- one machine stands for the container's past in both worlds: its place, what it fetched, its bytes, its wish
pub record OneContainer (cfg : Config) (w u : World) (c : ContainerId) : Type 0 where
  pub machine : container.Container
  pub one : ContainerIn cfg w c machine
  pub other : ContainerIn cfg u c machine

-- one machine stands for the node's past in both worlds: its incarnation, what it knows, its shelf
pub record OneNode (cfg : Config) (w u : World) (n : ℕ) : Type 0 where
  pub machine : node.Node
  pub one : NodeIn cfg w n machine
  pub other : NodeIn cfg u n machine

-- The content of the namespace, its fence and its bars; the records of each generation's segment that a master was raised to; who lives; each living master, each living container and each node; and
-- the outcome, once one was told. Packets are compared where an event is: those that lie in a bag and never come make no difference.
pub record Alike (cfg : Config) (w u : World) : Type 0 where
  pub content : w.content ≡ u.content
  pub fence : w.fence ≡ u.fence
  pub barred : (a : Attempt) → has w.barred a ≡ has u.barred a
  pub history : (j : ℕ) → 1 ≤ j → j ≤ w.fence → w.history j ≡ u.history j
  pub is_master : (k : ℕ) → w.is_master k ≡ u.is_master k
  pub masters : (k : ℕ) → w.is_master k ≡ true → SameMasters (setting cfg k) (machine_seen cfg k (w.master_past k)) (machine_seen cfg k (u.master_past k))
  pub is_alive : (c : ContainerId) → w.is_alive c ≡ u.is_alive c
  pub containers : (c : ContainerId) → w.is_alive c ≡ true → OneContainer cfg w u c
  pub nodes : (n : ℕ) → nat_lt n cfg.nodes ≡ true → OneNode cfg w u n
  pub told : outcome w ≡ outcome u

-- the same event in two worlds: a packet that comes is the same, at whatever places of their bags it lies
abbrev pub IsSame : World → World → Event → Event → Type 0
IsSame w u (Deliver i) (Deliver j) = slice_get w.bag i ≡ slice_get u.bag j
IsSame w u (Deliver i) f = ⊥
IsSame w u e f = e ≡ f
