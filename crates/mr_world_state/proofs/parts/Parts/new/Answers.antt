use Rattle.std.proofs.Common.{◌≡◌, ◌∙◌, ℕ, subst, sym, nat_lt, Some, None, if◌then◌else◌}
use Rattle.mr_node.specs.Readings.{opening}
use Rattle.mr_world_model.specs.Packets.{Config}
use Rattle.mr_world_actors.specs.Nodes.{node_of}
use Rattle.mr_world_state.proofs.Opening_parts.{opens, none-live, nodes-begin, no-master, none-launched, stores-open}
use Rattle.mr_world_state.proofs.parts.Parts.new.Goals as goal

pub returns-clause-opens : goal.returns-clause-opens
returns-clause-opens c = record {
  reached = opens c.in_ok-shared.shared;
  dest = c.in_ok-layout.ensures;
  stores = stores-open c.in_ok-names.names c.in_ok-history.history c.in_ok-names.ensures c.in_ok-history.ensures;
  bag = c.new-2.ensures;
  living = none-live c.in_ok-shared.shared c.new-4.result c.new-4.ensures;
  nodes = nodes-begin c.in_ok-shared.shared c.in_ok-nodes.nodes
      (subst (λ (cfg : Config). (n : ℕ) → node_of c.in_ok-nodes.nodes n ≡ (if nat_lt n cfg.nodes then Some (record { number = n; seen = opening cfg.reduces }) else None)) (c.config.view_is ∙ sym c.in_ok-shared.ensures) c.in_ok-nodes.ensures);
  masters = no-master c.in_ok-shared.shared c.new-3.result c.new-3.ensures.none c.new-3.ensures.count;
  launched = sym (none-launched 1000);
}
