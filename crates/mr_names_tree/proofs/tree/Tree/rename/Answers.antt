use Rattle.std.proofs.Common.{◌∙◌, ap, sym, is_some, ◌∷◌, ◌++◌, []}
use Rattle.std.specs.FinMap as finite
use Rattle.mr_names_tree.specs.Content.{renamed}
use Rattle.mr_names_tree.proofs.Graph.{told_moved, told_same, content_is, on_err, either, none_above, no_edge}
use Rattle.mr_names_tree.proofs.tree.Tree.rename.Goals as goal

pub unreachable-requires-in_default-find : goal.unreachable-requires-in_default-find
unreachable-requires-in_default-find c = absurd (none_above c.self.inside.nodes c.self.inside.root c.self.inside.held.0 c.in-Some-Some.from_above.now c.args.from.now c.in-Some-Some.from_name.now c.self.inside.held.1 c.in-Some-Some.ensures.cases.0
    (ap (λ m. is_some (finite.get m c.args.from.now)) c.self.view_is ∙ c.requires.found) (sym c.in_default-find.ensures))

pub unreachable-requires-in_default-child : goal.unreachable-requires-in_default-child
unreachable-requires-in_default-child c = absurd (no_edge c.self.inside.nodes c.self.inside.root c.in-Some.from_at c.self.inside.held.0 c.in-Some-Some.from_above.now c.args.from.now c.in-Some-Some.from_name.now c.self.inside.held.1 c.in-Some-Some.ensures.cases.0
    (ap (λ m. is_some (finite.get m c.args.from.now)) c.self.view_is ∙ c.requires.found) (sym c.in-Some.ensures) (sym c.in_default-child.ensures))

pub invariant_of-self-inside : goal.invariant_of-self-inside
invariant_of-self-inside c = (
  either c.move_edge.result _ _ _ c.move_edge.ensures.ok c.move_edge.ensures.err
      (λ moved. (
        renamed c.args.from.now c.args.to.now c.self.inside.held.0,
        told_moved c.self.inside.nodes c.move_edge.new.nodes c.self.inside.root c.in-Some.from_at c.in-Some-child.key c.in-Some-find.at c.self.inside.held.0
            c.in-Some-Some.from_above.now c.args.from.now c.in-Some-Some.above.now c.args.to.now c.in-Some-Some.from_name.now c.in_ok-name.name c.self.inside.held.1
            c.in-Some-Some.ensures.cases.0 (c.in-Some-Some.ensures'.cases.0 ∙ ap (λ n. c.in-Some-Some.above.now ++ n ∷ []) (sym c.in_ok-name.ensures))
            (sym c.in-Some.ensures) (sym c.in-Some-child.ensures) (sym c.in-Some-find.ensures) (ap (λ m. finite.get m c.args.to.now) c.self.view_is ∙ c.requires.free) c.requires.outside moved,
      ))
      (λ same. (c.self.inside.held.0, told_same c.self.inside.nodes c.move_edge.new.nodes c.self.inside.root c.self.inside.held.0 same c.self.inside.held.1)),
  tt,
)

pub returns-in_err-move_edge-clause-err : goal.returns-in_err-move_edge-clause-err
returns-in_err-move_edge-clause-err c = on_err _ _
    (content_is c.move_edge.new.nodes c.self.inside.root c.self-1.given.0 c.self.inside.held.0
    (told_same c.self.inside.nodes c.move_edge.new.nodes c.self.inside.root c.self.inside.held.0 c.in_err-move_edge.ensures.err c.self.inside.held.1)
    ∙ c.self.view_is)

pub returns-clause-ok : goal.returns-clause-ok
returns-clause-ok c =
    content_is c.move_edge.new.nodes c.self.inside.root c.self-1.given.0 (renamed c.args.from.now c.args.to.now c.self.inside.held.0)
    (told_moved c.self.inside.nodes c.move_edge.new.nodes c.self.inside.root c.in-Some.from_at c.in-Some-child.key c.in-Some-find.at c.self.inside.held.0
    c.in-Some-Some.from_above.now c.args.from.now c.in-Some-Some.above.now c.args.to.now c.in-Some-Some.from_name.now c.in_ok-name.name c.self.inside.held.1
    c.in-Some-Some.ensures.cases.0 (c.in-Some-Some.ensures'.cases.0 ∙ ap (λ n. c.in-Some-Some.above.now ++ n ∷ []) (sym c.in_ok-name.ensures))
    (sym c.in-Some.ensures) (sym c.in-Some-child.ensures) (sym c.in-Some-find.ensures) (ap (λ m. finite.get m c.args.to.now) c.self.view_is ∙ c.requires.free) c.requires.outside c.in_ok-move_edge.ensures.ok)
    ∙ ap (renamed c.args.from.now c.args.to.now) c.self.view_is
