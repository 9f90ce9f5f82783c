use Rattle.std.proofs.Common.{◌∙◌}
use Rattle.mr_names_tree.proofs.Graph.{told_same, content_is}
use Rattle.mr_names_tree.proofs.tree.Tree.copy.Goals as goal

pub invariant_of-result : goal.invariant_of-result
invariant_of-result c = (
  (c.self.inside.held.0, told_same c.self.inside.nodes c.in_ok-nodes.nodes c.self.inside.root c.self.inside.held.0 c.in_ok-nodes.ensures c.self.inside.held.1),
  tt,
)

pub returns : goal.returns
returns c =
    content_is c.in_ok-nodes.nodes c.self.inside.root c.result-1.given.0 c.self.inside.held.0
    (told_same c.self.inside.nodes c.in_ok-nodes.nodes c.self.inside.root c.self.inside.held.0 c.in_ok-nodes.ensures c.self.inside.held.1)
    ∙ c.self.view_is
