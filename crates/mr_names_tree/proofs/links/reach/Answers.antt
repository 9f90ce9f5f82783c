use Rattle.std.proofs.Common.{Some, None, ◌<◌, length, arith}
use Rattle.mr_names_tree.specs.inner.Tree.{edges_of}
use Rattle.mr_names_tree.proofs.Making.{one_more}
use Rattle.mr_names_tree.proofs.links.reach.Goals as goal

pub returns-in-None-clause-ends : goal.returns-in-None-clause-ends
returns-in-None-clause-ends c = λ lt.
    one_more (edges_of c.args.nodes.now) c.args.from c.args.names.now c.loop-count.count c.loop-count.at c.index-names-count.result None lt c.index-names-count.is c.loop-count.invariant (c.in-None.ensures)

pub loop-count-preserved : goal.loop-count-preserved
loop-count-preserved c =
    let lt : c.loop-count.count < length c.args.names.now = omega arith in
    one_more (edges_of c.args.nodes.now) c.args.from c.args.names.now c.loop-count.count c.loop-count.at c.index-names-count.result (Some c.in-Some.key) lt c.index-names-count.is c.loop-count.invariant (c.in-Some.ensures)
