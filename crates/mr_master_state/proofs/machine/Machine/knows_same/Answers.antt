use Rattle.std.proofs.Common.{sym, ap, ◌∙◌, true≢false}
use Rattle.mr_master_tables.specs.Nodes.{known_in}
use Rattle.mr_master_state.specs.State.{Master}
use Rattle.mr_master_state.proofs.machine.Machine.knows_same.Goals as goal

pub returns-else-is_same : goal.returns-else-is_same
returns-else-is_same c = (
  λ t. absurd (true≢false (sym t ∙ c.if-is_same.false)),
  λ s. c.is_same.ensures.1 (λ k. ap (λ (m : Master). known_in m.nodes k) c.self.view_is ∙ (s.0 k ∙ sym (ap (λ (m : Master). known_in m.nodes k) c.other.view_is))),
)
