use Rattle.std.proofs.Common.{◌≡◌, ◌∙◌, sym, subst}
use Rattle.mr_names_tree.specs.inner.Tree.{IsTold, edges_of, nodes_of}
use Rattle.mr_names_tree.proofs.Graph.{told_same, content_is}
use Rattle.mr_names_tree.proofs.tree.Tree.is_made_alike.Goals as goal

pub returns-then-self-other : goal.returns-then-self-other
returns-then-self-other c = λ yes.
    let told : IsTold (edges_of c.other.inside.nodes) (nodes_of c.other.inside.nodes) c.self.inside.root c.self.inside.held.0 =
    told_same c.self.inside.nodes c.other.inside.nodes c.self.inside.root c.self.inside.held.0 (c.is_same_graph.ensures yes) c.self.inside.held.1 in
    let same : c.other.inside.held.0 ≡ c.self.inside.held.0 =
    content_is c.other.inside.nodes c.other.inside.root c.other.inside.held c.self.inside.held.0
    (subst (λ root. IsTold (edges_of c.other.inside.nodes) (nodes_of c.other.inside.nodes) root c.self.inside.held.0) c.if-self-other.true told) in
    sym c.self.view_is ∙ sym same ∙ c.other.view_is
