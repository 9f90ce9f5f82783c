use Rattle.std.proofs.Common.{◌∙◌, ap, sym}
use Rattle.mr_names_tree.specs.Content.{changed_at}
use Rattle.mr_names_tree.specs.Node.{appended}
use Rattle.mr_names_tree.specs.inner.TreeProofs.{held_prop}
use Rattle.mr_names_tree.proofs.Graph.{some_changed, told_same, content_is, on_err, either}
use Rattle.mr_names_tree.proofs.tree.Tree.append.Goals as goal

pub same-self : goal.same-self
same-self c = λ i. record { nodes = c.self.inside.nodes; root = c.self.inside.root; held = held_prop c.self.inside.nodes c.self.inside.root c.self-1.given.0 c.self.inside.held i }

pub invariant_of-self-inside-2 : goal.invariant_of-self-inside-2
invariant_of-self-inside-2 c = (
  either c.append_at.result _ _ _ c.append_at.ensures.ok c.append_at.ensures.err
      (λ changed. (
        changed_at c.self.inside.held.0 c.args.names.now (appended c.args.more.now),
        some_changed c.self.inside.nodes c.append_at.new.nodes c.self.inside.root c.in-Some.key c.self.inside.held.0 c.args.names.now (appended c.args.more.now) c.self.inside.held.1 (sym c.in-Some.ensures) changed,
      ))
      (λ same. (c.self.inside.held.0, told_same c.self.inside.nodes c.append_at.new.nodes c.self.inside.root c.self.inside.held.0 same c.self.inside.held.1)),
  tt,
)

pub returns-in_err-append_at-clause-err : goal.returns-in_err-append_at-clause-err
returns-in_err-append_at-clause-err c = on_err _ _
    (content_is c.append_at.new.nodes c.self.inside.root c.self-2-1.given.0 c.self.inside.held.0
    (told_same c.self.inside.nodes c.append_at.new.nodes c.self.inside.root c.self.inside.held.0 c.in_err-append_at.ensures.err c.self.inside.held.1)
    ∙ c.self.view_is)

pub returns-clause-ok : goal.returns-clause-ok
returns-clause-ok c =
    content_is c.append_at.new.nodes c.self.inside.root c.self-2-1.given.0 (changed_at c.self.inside.held.0 c.args.names.now (appended c.args.more.now))
    (some_changed c.self.inside.nodes c.append_at.new.nodes c.self.inside.root c.in-Some.key c.self.inside.held.0 c.args.names.now (appended c.args.more.now) c.self.inside.held.1 (sym c.in-Some.ensures) c.in_ok-append_at.ensures.ok)
    ∙ ap (λ m. changed_at m c.args.names.now (appended c.args.more.now)) c.self.view_is
