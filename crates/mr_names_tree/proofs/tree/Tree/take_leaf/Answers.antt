use Rattle.std.proofs.Common.{◌≡◌, ◌∙◌, ap, sym, Some, ◌∷◌, ◌++◌, [], subst}
use Rattle.mr_names_tree.specs.Content.{without_one}
use Rattle.mr_names_tree.specs.inner.Tree.{edges_of, nodes_of, along, steps, first_edge}
use Rattle.mr_names_tree.specs.inner.TreeProofs.{held_prop}
use Rattle.mr_names_tree.proofs.Graph.{told_cut, first_is, first_none}
use Rattle.mr_names_tree.proofs.Beneath.{depth_falls, within_itself}
use Rattle.mr_names_tree.proofs.Deleting.{opt_none, opt_some, within_more, leads_on, gone_already, one_less, cut_and_more, some_less}
use Rattle.mr_names_tree.proofs.tree.Tree.take_leaf.Goals as goal

pub same-self : goal.same-self
same-self c = λ i. record { nodes = c.self.inside.nodes; root = c.self.inside.root; held = held_prop c.self.inside.nodes c.self.inside.root c.self-1.given.0 c.self.inside.held i }

pub returns-in_default-find-clause-done : goal.returns-in_default-find-clause-done
returns-in_default-find-clause-done c = λ _.
    gone_already c.self.inside.nodes c.self.inside.root c.self.inside.held.0 c.self.inside.held.1 c.in-Some.above.now c.args.top.now c.in-Some.name.now c.in-Some.ensures.cases.0
    (ap (λ o. along (edges_of c.self.inside.nodes) o c.in-Some.name.now) (sym c.in_default-find.ensures)) c.args.self.now c.self.view_is

pub same-self-in_default-child : goal.same-self-in_default-child
same-self-in_default-child c = λ i. record { nodes = c.self.inside.nodes; root = c.self.inside.root; held = held_prop c.self.inside.nodes c.self.inside.root c.self-in_default-child-1.given.0 c.self.inside.held i }

pub returns-in_default-child-clause-done : goal.returns-in_default-child-clause-done
returns-in_default-child-clause-done c = λ _.
    gone_already c.self.inside.nodes c.self.inside.root c.self.inside.held.0 c.self.inside.held.1 c.in-Some.above.now c.args.top.now c.in-Some.name.now c.in-Some.ensures.cases.0
    (ap (λ o. along (edges_of c.self.inside.nodes) o c.in-Some.name.now) (sym c.in-Some-find.ensures) ∙ sym c.in_default-child.ensures) c.args.self.now c.self.view_is

pub invariant_of-self-inside-in_default-first_child : goal.invariant_of-self-inside-in_default-first_child
invariant_of-self-inside-in_default-first_child c = (
  (
    without_one c.args.top.now c.self.inside.held.0,
    told_cut c.self.inside.nodes c.cut.new.nodes c.self.inside.root c.in-Some-find.above c.in-Some-child.key c.self.inside.held.0 c.in-Some.above.now c.args.top.now c.in-Some.name.now c.self.inside.held.1
        c.in-Some.ensures.cases.0 (sym c.in-Some-find.ensures) (sym c.in-Some-child.ensures) (first_none c.self.inside.nodes c.in-Some-child.key (opt_none _ (sym c.in_default-first_child.ensures))) c.cut.ensures,
  ),
  tt,
)

pub returns-in_default-first_child-clause-more : goal.returns-in_default-first_child-clause-more
returns-in_default-first_child-clause-more c = λ _.
    one_less c.self.inside.nodes c.self.inside.root c.self.inside.held.0 c.self.inside.held.1 c.cut.new.nodes c.self-in_default-first_child-1.given.0 c.args.self.now c.args.top.now c.args.top.now c.in-Some-child.key
    (told_cut c.self.inside.nodes c.cut.new.nodes c.self.inside.root c.in-Some-find.above c.in-Some-child.key c.self.inside.held.0 c.in-Some.above.now c.args.top.now c.in-Some.name.now c.self.inside.held.1
    c.in-Some.ensures.cases.0 (sym c.in-Some-find.ensures) (sym c.in-Some-child.ensures) (first_none c.self.inside.nodes c.in-Some-child.key (opt_none _ (sym c.in_default-first_child.ensures))) c.cut.ensures)
    c.self.view_is (within_itself c.args.top.now)
    (subst (λ p. steps (edges_of c.self.inside.nodes) (Some c.self.inside.root) p ≡ Some c.in-Some-child.key) (sym c.in-Some.ensures.cases.0)
    (leads_on c.self.inside.nodes c.self.inside.root c.self.inside.held.0 c.self.inside.held.1 c.in-Some.above.now c.in-Some.name.now c.in-Some-find.above c.in-Some-child.key (sym c.in-Some-find.ensures) (sym c.in-Some-child.ensures)))

pub down-init : goal.down-init
down-init c =
    let first = opt_some (first_edge c.self.inside.nodes c.in-Some-child.key) c.in-Some-first_child.first (sym c.in-Some-first_child.ensures) in (
      c.args.top.now,
      first.0,
      subst (λ p. steps (edges_of c.self.inside.nodes) (Some c.self.inside.root) p ≡ Some c.in-Some-child.key) (sym c.in-Some.ensures.cases.0)
          (leads_on c.self.inside.nodes c.self.inside.root c.self.inside.held.0 c.self.inside.held.1 c.in-Some.above.now c.in-Some.name.now c.in-Some-find.above c.in-Some-child.key (sym c.in-Some-find.ensures) (sym c.in-Some-child.ensures)),
      within_itself c.args.top.now,
      first.1,
    )

pub down-smaller : goal.down-smaller
down-smaller c =
    let inv = c.down.invariant in
    let on = opt_some (first_edge c.self.inside.nodes c.down.first) c.in-Some-first_child-2.next (sym c.in-Some-first_child-2.ensures) in
    depth_falls (edges_of c.self.inside.nodes) (nodes_of c.self.inside.nodes) c.self.inside.root _ c.in-Some-first_child.self-in-Some-first_child-1-own.given.0.1 (inv.0 ++ inv.1 ∷ []) on.0 c.down.first c.in-Some-first_child-2.next
    (leads_on c.self.inside.nodes c.self.inside.root c.self.inside.held.0 c.self.inside.held.1 inv.0 inv.1 c.down.at c.down.first inv.2 (first_is c.self.inside.nodes c.down.at c.down.first inv.1 inv.4))
    (first_is c.self.inside.nodes c.down.first c.in-Some-first_child-2.next on.0 on.1)

pub down-preserved : goal.down-preserved
down-preserved c =
    let inv = c.down.invariant in
    let on = opt_some (first_edge c.self.inside.nodes c.down.first) c.in-Some-first_child-2.next (sym c.in-Some-first_child-2.ensures) in (
      inv.0 ++ inv.1 ∷ [],
      on.0,
      leads_on c.self.inside.nodes c.self.inside.root c.self.inside.held.0 c.self.inside.held.1 inv.0 inv.1 c.down.at c.down.first inv.2 (first_is c.self.inside.nodes c.down.at c.down.first inv.1 inv.4),
      within_more c.args.top.now inv.0 inv.1 inv.3,
      on.1,
    )

pub invariant_of-self-inside-2 : goal.invariant_of-self-inside-2
invariant_of-self-inside-2 c =
    let inv = c.down.invariant in
    let v = cut_and_more c.self.inside.nodes c.cut_first.new.nodes c.cut_on.new.nodes c.self.inside.root c.in-Some-child.key c.self.inside.held.0 c.self.inside.held.1 c.args.top.now inv.0 inv.1 c.down.at c.down.first
    (subst (λ p. steps (edges_of c.self.inside.nodes) (Some c.self.inside.root) p ≡ Some c.in-Some-child.key) (sym c.in-Some.ensures.cases.0)
    (leads_on c.self.inside.nodes c.self.inside.root c.self.inside.held.0 c.self.inside.held.1 c.in-Some.above.now c.in-Some.name.now c.in-Some-find.above c.in-Some-child.key (sym c.in-Some-find.ensures) (sym c.in-Some-child.ensures))) inv.2 inv.3 inv.4
    (opt_none (first_edge c.self.inside.nodes c.down.first) (sym c.in_default-first_child-2.ensures)) c.cut_first.ensures c.cut_on.ensures in
    ((v.0, v.1), tt)

pub returns-clause-more : goal.returns-clause-more
returns-clause-more c = λ _.
    let inv = c.down.invariant in
    some_less c.self.inside.nodes c.cut_first.new.nodes c.cut_on.new.nodes c.self.inside.root c.in-Some-child.key c.self.inside.held.0 c.self.inside.held.1 c.self-2-1.given.0 c.args.self.now c.args.top.now inv.0 inv.1 c.down.at c.down.first
    c.self.view_is (subst (λ p. steps (edges_of c.self.inside.nodes) (Some c.self.inside.root) p ≡ Some c.in-Some-child.key) (sym c.in-Some.ensures.cases.0)
    (leads_on c.self.inside.nodes c.self.inside.root c.self.inside.held.0 c.self.inside.held.1 c.in-Some.above.now c.in-Some.name.now c.in-Some-find.above c.in-Some-child.key (sym c.in-Some-find.ensures) (sym c.in-Some-child.ensures))) inv.2 inv.3 inv.4
    (opt_none (first_edge c.self.inside.nodes c.down.first) (sym c.in_default-first_child-2.ensures)) c.cut_first.ensures c.cut_on.ensures
