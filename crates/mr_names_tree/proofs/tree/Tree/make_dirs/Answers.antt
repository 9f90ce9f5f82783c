use Rattle.std.proofs.Common.{◌≡◌, ◌∙◌, ◌+◌, ◌++◌, ◌-◌, length, List, ℕ, true, ap, sym, subst, take, drop, filter}
use Rattle.mr_paths.specs.Path.{prefixes}
use Rattle.mr_names_tree.specs.Content.{without, with_dirs}
use Rattle.mr_names_tree.specs.Held.{is_absent}
use Rattle.mr_names_tree.specs.inner.Tree.{paths_down, HasRoom}
use Rattle.mr_names_tree.specs.inner.TreeProofs.{held_prop}
use Rattle.mr_names_tree.proofs.Graph.{content_is, either}
use Rattle.mr_names_tree.proofs.Making.{has_room, made_is, made_none, first_made, left_is, none_there}
use Rattle.mr_names_tree.proofs.tree.Tree.make_dirs.Goals as goal

pub same-self : goal.same-self
same-self c = λ i. record { nodes = c.self.inside.nodes; root = c.self.inside.root; held = held_prop c.self.inside.nodes c.self.inside.root c.self-1.given.0 c.self.inside.held i }

pub returns-then-names-there-clause-ok : goal.returns-then-names-there-clause-ok
returns-then-names-there-clause-ok c =
    subst (λ m. m ≡ with_dirs m (filter (is_absent m) (prefixes c.args.names.now))) c.self.view_is
    (made_none c.self.inside.nodes c.self.inside.root c.self.inside.held.0 c.self.inside.held.1 c.args.names.now c.reach-at.result.0 c.reach-at.result.1 c.reach-at.ensures.within c.reach-at.ensures.leads c.reach-at.ensures.ends c.if-names-there.true)

pub invariant_of-self-inside-2 : goal.invariant_of-self-inside-2
invariant_of-self-inside-2 c =
    let there = c.reach-at.result.1 in
    let left : List (List ℕ) = take (length c.args.names.now - there) (drop there c.args.names.now) in
    let room = subst (HasRoom c.self.inside.nodes c.self.inside.root c.self.inside.held.0 (take there c.args.names.now) c.reach-at.result.0) (sym (left_is c.args.names.now there))
    (has_room c.self.inside.nodes c.self.inside.root c.self.inside.held.0 c.self.inside.held.1 c.args.names.now c.reach-at.result.0 c.reach-at.result.1 c.reach-at.ensures.within c.reach-at.ensures.leads c.reach-at.ensures.ends c.if-names-there.false) in (
      either c.add_dirs.result _ _ _ c.add_dirs.ensures.ok c.add_dirs.ensures.err
          (λ added. (
            with_dirs c.self.inside.held.0 (paths_down (take there c.args.names.now) left),
            added c.self.inside.root c.self.inside.held.0 (take there c.args.names.now) room,
          ))
          (λ some. let v = some c.self.inside.root c.self.inside.held.0 (take there c.args.names.now) room in (v.0, v.1)),
      tt,
    )

pub returns-in-Ok-clause-ok : goal.returns-in-Ok-clause-ok
returns-in-Ok-clause-ok c =
    let there = c.reach-at.result.1 in
    let left : List (List ℕ) = take (length c.args.names.now - there) (drop there c.args.names.now) in
    let room = subst (HasRoom c.self.inside.nodes c.self.inside.root c.self.inside.held.0 (take there c.args.names.now) c.reach-at.result.0) (sym (left_is c.args.names.now there))
    (has_room c.self.inside.nodes c.self.inside.root c.self.inside.held.0 c.self.inside.held.1 c.args.names.now c.reach-at.result.0 c.reach-at.result.1 c.reach-at.ensures.within c.reach-at.ensures.leads c.reach-at.ensures.ends c.if-names-there.false) in
    content_is c.add_dirs.new.nodes c.self.inside.root c.self-2-1.given.0 _ (c.in-Ok.ensures.ok c.self.inside.root c.self.inside.held.0 (take there c.args.names.now) room)
    ∙ ap (λ xs. with_dirs c.self.inside.held.0 (paths_down (take there c.args.names.now) xs)) (left_is c.args.names.now there)
    ∙ made_is c.self.inside.nodes c.self.inside.root c.self.inside.held.0 c.self.inside.held.1 c.args.names.now c.reach-at.result.0 c.reach-at.result.1 c.reach-at.ensures.within c.reach-at.ensures.leads c.reach-at.ensures.ends
    ∙ ap (λ m. with_dirs m (filter (is_absent m) (prefixes c.args.names.now))) c.self.view_is

pub returns-in-Err-clause-err : goal.returns-in-Err-clause-err
returns-in-Err-clause-err c =
    let there = c.reach-at.result.1 in
    let left : List (List ℕ) = take (length c.args.names.now - there) (drop there c.args.names.now) in
    let room = subst (HasRoom c.self.inside.nodes c.self.inside.root c.self.inside.held.0 (take there c.args.names.now) c.reach-at.result.0) (sym (left_is c.args.names.now there))
    (has_room c.self.inside.nodes c.self.inside.root c.self.inside.held.0 c.self.inside.held.1 c.args.names.now c.reach-at.result.0 c.reach-at.result.1 c.reach-at.ensures.within c.reach-at.ensures.leads c.reach-at.ensures.ends c.if-names-there.false) in
    let v = c.in-Err.ensures.err c.self.inside.root c.self.inside.held.0 (take there c.args.names.now) room in
    c.take_out.ensures
    ∙ ap (without (take (there + 1) c.args.names.now)) (content_is c.add_dirs.new.nodes c.self.inside.root c.self-2-1.given.0 v.0 v.1)
    ∙ ap (λ p. without p v.0) (first_made c.self.inside.nodes c.self.inside.root c.self.inside.held.0 c.self.inside.held.1 c.args.names.now c.reach-at.result.0 c.reach-at.result.1 c.reach-at.ensures.within c.reach-at.ensures.leads c.reach-at.ensures.ends c.if-names-there.false ∙ ap (λ xs. take there c.args.names.now ++ take 1 xs) (sym (left_is c.args.names.now there)))
    ∙ v.2 ∙ c.self.view_is

pub returns-in-Err-clause-absent : goal.returns-in-Err-clause-absent
returns-in-Err-clause-absent c =
    subst (λ m. is_absent m c.args.names.now ≡ true) c.self.view_is
    (none_there c.self.inside.nodes c.self.inside.root c.self.inside.held.0 c.self.inside.held.1 c.args.names.now c.reach-at.result.0 c.reach-at.result.1 c.reach-at.ensures.within c.reach-at.ensures.leads c.reach-at.ensures.ends c.if-names-there.false)
