use Rattle.std.proofs.Common.{◌≡◌, ◌∙◌, length, nat_lt, true, sym, ap, subst}
use Rattle.std.specs.Prelude.{IfOk, OnErr}
use Rattle.mr_names_tree.specs.Listing.{children}
use Rattle.mr_names_tree.proofs.NodeLines.{children_are, children_none}
use Rattle.mr_names_tree.proofs.tree.Tree.children.Goals as goal

pub returns-in-Some : goal.returns-in-Some
returns-in-Some c =
    let is = children_are c.self.inside.nodes c.self.inside.root c.in-Some.key c.self.inside.held.0 c.args.top.now c.self.inside.held.1 (sym c.in-Some.ensures) c.list.ensures.rising
    ∙ ap (λ m. children m c.args.top.now) c.self.view_is in
    record {
      entries = subst (λ es. IfOk c.list.result (λ entries. entries ≡ es)) is c.list.ensures.lines;
      some = subst (λ es. OnErr c.list.result (nat_lt 0 (length es) ≡ true)) is c.list.ensures.some;
    }

pub returns-in-None-clause-entries : goal.returns-in-None-clause-entries
returns-in-None-clause-entries c =
    c.new.ensures ∙ children_none c.self.inside.nodes c.self.inside.root c.self.inside.held.0 c.args.top.now c.self.inside.held.1 (sym c.in-None.ensures)
    ∙ ap (λ m. children m c.args.top.now) c.self.view_is
