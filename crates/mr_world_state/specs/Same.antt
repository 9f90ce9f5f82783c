-- When the parts of two worlds hold the same: what a comparison of them has to find equal. Our own: where code and definitions meet.
use Rattle.std.specs.Prelude.{◌≡◌, ℕ}
use Rattle.mr_ids.specs.Attempt.{Attempt}
use Rattle.mr_names.specs.Barred.{is_barred}
use Rattle.mr_packet.specs.declared.packet.ContainerId.{ContainerId}
use Rattle.mr_world_actors.specs.Living.{kept}
use Rattle.mr_world_actors.specs.Nodes.{node_of}
use Rattle.mr_world_state.specs.declared.parts.Parts.{Parts}
use Rattle.mr_world_state.specs.Machines.{master_of, SameMaster}

-- The parts p and q hold the same. The bag and the number of launches are not compared, nor what follows from the config:
-- the paths, and the settings of masters.
pub record SameParts (p q : Parts) : Type 0 where
  pub config : p.config ≡ q.config
  pub content : p.names.content ≡ q.names.content
  pub fence : p.names.fence ≡ q.names.fence
  pub barred : (a : Attempt) → is_barred p.names.barred a ≡ is_barred q.names.barred a
  pub history : p.history ≡ q.history
  pub masters : (k : ℕ) → SameMaster (master_of p.masters k) (master_of q.masters k)
  pub living : (c : ContainerId) → kept p.living c ≡ kept q.living c
  pub nodes : (n : ℕ) → node_of p.nodes n ≡ node_of q.nodes n
