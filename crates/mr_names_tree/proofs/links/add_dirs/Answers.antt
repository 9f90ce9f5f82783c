use Rattle.std.proofs.Common.{subst, add-one, ◌<◌, length, arith, sym, ◌∙◌, []}
use Rattle.std.proofs.lemmas.List.{get_or_default}
use Rattle.mr_names_tree.proofs.Graph.{on_err}
use Rattle.mr_names_tree.proofs.Making.{Going, going_first, going_on, going_done, going_stopped, same_graph}
use Rattle.mr_names_tree.proofs.links.add_dirs.Goals as goal

pub loop-name-init : goal.loop-name-init
loop-name-init c = going_first c.args.nodes.now c.args.start c.args.names.now c.requires

pub returns-in_err-copied-clause-err : goal.returns-in_err-copied-clause-err
returns-in_err-copied-clause-err c =
    on_err _ _ (going_stopped c.args.nodes.now c.loop-name.nodes c.loop-name.nodes c.args.start c.loop-name.at c.args.names.now c.loop-name.name-index c.loop-name.invariant (same_graph c.loop-name.nodes))

pub returns-in_err-key-clause-err : goal.returns-in_err-key-clause-err
returns-in_err-key-clause-err c =
    on_err _ _ (going_stopped c.args.nodes.now c.loop-name.nodes c.add_node.new.nodes c.args.start c.loop-name.at c.args.names.now c.loop-name.name-index c.loop-name.invariant c.in_err-key.ensures.err)

pub loop-name-preserved : goal.loop-name-preserved
loop-name-preserved c =
    let lt : c.loop-name.name-index < length c.args.names.now = omega arith in
    subst (Going c.args.nodes.now c.add_node.new.nodes c.args.start c.in_ok-key.key c.args.names.now) (sym (add-one c.loop-name.name-index))
    (going_on c.args.nodes.now c.loop-name.nodes c.add_node.new.nodes c.args.start c.loop-name.at c.in_ok-key.key c.args.names.now c.loop-name.name-index c.in_ok-copied.copied lt
    (c.in_ok-copied.ensures ∙ c.name-item.is ∙ get_or_default c.args.names.now c.loop-name.name-index c.name-item.result [] lt) c.loop-name.invariant c.in_ok-key.ensures.ok)

pub returns-clause-ok : goal.returns-clause-ok
returns-clause-ok c = going_done c.args.nodes.now c.loop-name.nodes c.args.start c.loop-name.at c.args.names.now c.loop-name.name-index (omega arith) c.loop-name.invariant
