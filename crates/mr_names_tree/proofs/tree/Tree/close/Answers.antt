use Rattle.std.proofs.Common.{◌∙◌, ap, sym}
use Rattle.mr_names_tree.specs.Content.{changed_at}
use Rattle.mr_names_tree.specs.Node.{closed_of}
use Rattle.mr_names_tree.specs.inner.TreeProofs.{held_prop}
use Rattle.mr_names_tree.proofs.Graph.{some_changed, content_is}
use Rattle.mr_names_tree.proofs.tree.Tree.close.Goals as goal

pub invariant_of-self-inside : goal.invariant_of-self-inside
invariant_of-self-inside c = (
  (
    changed_at c.self.inside.held.0 c.args.names.now closed_of,
    some_changed c.self.inside.nodes c.close_at.new.nodes c.self.inside.root c.in-Some.key c.self.inside.held.0 c.args.names.now closed_of c.self.inside.held.1 (sym c.in-Some.ensures) c.close_at.ensures,
  ),
  tt,
)

pub same-self : goal.same-self
same-self c = λ i. record { nodes = c.self.inside.nodes; root = c.self.inside.root; held = held_prop c.self.inside.nodes c.self.inside.root c.self-in_default-1.given.0 c.self.inside.held i }

pub returns-in-Some : goal.returns-in-Some
returns-in-Some c =
    content_is c.close_at.new.nodes c.self.inside.root c.self-1.given.0 (changed_at c.self.inside.held.0 c.args.names.now closed_of)
    (some_changed c.self.inside.nodes c.close_at.new.nodes c.self.inside.root c.in-Some.key c.self.inside.held.0 c.args.names.now closed_of c.self.inside.held.1 (sym c.in-Some.ensures) c.close_at.ensures)
    ∙ ap (λ m. changed_at m c.args.names.now closed_of) c.self.view_is
