-- When two machines hold the same: what a comparison of them has to find equal. Our own: where code and definitions meet.
use Rattle.std.specs.Prelude.{◌≡◌, ℕ}
use Rattle.mr_master_tables.specs.Nodes.{known_in}
use Rattle.mr_master_state.specs.State.{Master}

-- two machines of masters of one generation hold the same, spare room aside
pub record SameMachines (m n : Master) : Type 0 where
  pub work : m.work ≡ n.work
  pub tasks : m.tasks ≡ n.tasks
  pub entries : m.launches.entries ≡ n.launches.entries
  pub killed : m.launches.killed ≡ n.launches.killed
  pub known : (k : ℕ) → known_in m.nodes k ≡ known_in n.nodes k
  pub earlier : m.earlier ≡ n.earlier
  pub due : m.writing.due ≡ n.writing.due
  pub tail : m.writing.tail ≡ n.writing.tail
  pub bars : m.bars.due ≡ n.bars.due
