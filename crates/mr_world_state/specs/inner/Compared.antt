-- Which of two worlds' parts one look compares.
use Rattle.std.specs.Prelude.{◌≡◌, ℕ}
use Rattle.mr_packet.specs.declared.packet.ContainerId.{ContainerId}
use Rattle.mr_world_actors.specs.Living.{kept}
use Rattle.mr_world_actors.specs.Nodes.{node_of}
use Rattle.mr_world_state.specs.declared.parts.Parts.{Parts}
use Rattle.mr_world_state.specs.Machines.{master_of, SameMaster}

-- the machines of nodes, containers and masters
pub record SameMachinesIn (p q : Parts) : Type 0 where
  pub nodes : (n : ℕ) → node_of p.nodes n ≡ node_of q.nodes n
  pub living : (c : ContainerId) → kept p.living c ≡ kept q.living c
  pub masters : (k : ℕ) → SameMaster (master_of p.masters k) (master_of q.masters k)

-- what they were made for, and both stores
pub record SameStores (p q : Parts) : Type 0 where
  pub history : p.history ≡ q.history
  pub config : p.config ≡ q.config
  pub names : p.names ≡ q.names
