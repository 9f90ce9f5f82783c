use Rattle.std.proofs.Common.{◌∙◌, ap, sym, ◌∷◌, ◌++◌, []}
use Rattle.std.specs.FinMap as finite
use Rattle.mr_names_tree.proofs.Graph.{told_added, told_same, content_is, on_err, either_of}
use Rattle.mr_names_tree.proofs.tree.Tree.insert.Goals as goal

pub invariant_of-self-inside : goal.invariant_of-self-inside
invariant_of-self-inside c = (
  either_of c.add_node.result _ _ _ c.add_node.ensures.ok c.add_node.ensures.err
      (λ key new. (
        finite.insert c.self.inside.held.0 c.args.names.now c.args.node,
        told_added c.self.inside.nodes c.add_node.new.nodes c.self.inside.root c.in-Some-find.at key c.self.inside.held.0 c.in-Some.above.now c.args.names.now c.in_ok-name.name c.args.node
            c.self.inside.held.1 (c.in-Some.ensures.cases.0 ∙ ap (λ n. c.in-Some.above.now ++ n ∷ []) (sym c.in_ok-name.ensures)) (sym c.in-Some-find.ensures)
            (ap (λ m. finite.get m c.args.names.now) c.self.view_is ∙ c.requires.free) new,
      ))
      (λ same. (c.self.inside.held.0, told_same c.self.inside.nodes c.add_node.new.nodes c.self.inside.root c.self.inside.held.0 same c.self.inside.held.1)),
  tt,
)

pub returns-in_err-_key-clause-err : goal.returns-in_err-_key-clause-err
returns-in_err-_key-clause-err c = on_err _ _
    (content_is c.add_node.new.nodes c.self.inside.root c.self-1.given.0 c.self.inside.held.0
    (told_same c.self.inside.nodes c.add_node.new.nodes c.self.inside.root c.self.inside.held.0 c.in_err-_key.ensures.err c.self.inside.held.1)
    ∙ c.self.view_is)

pub returns-clause-ok : goal.returns-clause-ok
returns-clause-ok c =
    content_is c.add_node.new.nodes c.self.inside.root c.self-1.given.0 (finite.insert c.self.inside.held.0 c.args.names.now c.args.node)
    (told_added c.self.inside.nodes c.add_node.new.nodes c.self.inside.root c.in-Some-find.at c.in_ok-_key._key c.self.inside.held.0 c.in-Some.above.now c.args.names.now c.in_ok-name.name c.args.node
    c.self.inside.held.1 (c.in-Some.ensures.cases.0 ∙ ap (λ n. c.in-Some.above.now ++ n ∷ []) (sym c.in_ok-name.ensures)) (sym c.in-Some-find.ensures)
    (ap (λ m. finite.get m c.args.names.now) c.self.view_is ∙ c.requires.free) c.in_ok-_key.ensures.ok)
    ∙ ap (λ m. finite.insert m c.args.names.now c.args.node) c.self.view_is
