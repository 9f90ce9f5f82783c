use Rattle.std.proofs.Common.{◌∙◌, sym, ap, drop, ◌∷◌, suc, ◌<◌, length, arith}
use Rattle.std.proofs.Math.Seq.{drop-cons}
use Rattle.mr_names_tree.specs.inner.Tree.{edges_of}
use Rattle.mr_names_tree.proofs.Walks.{stuck}
use Rattle.mr_names_tree.proofs.links.find.Goals as goal

pub returns-in-None : goal.returns-in-None
returns-in-None c =
    let lt : c.loop-name.name-index < length c.args.names.now = omega arith in
    sym (stuck (edges_of c.args.nodes.now) c.loop-name.at c.name-item.result (drop c.loop-name.name-index c.args.names.now) (drop (suc c.loop-name.name-index) c.args.names.now)
    (drop-cons c.args.names.now c.loop-name.name-index c.name-item.result lt ∙ ap (λ n. n ∷ drop (suc c.loop-name.name-index) c.args.names.now) (sym c.name-item.is))
    (sym c.in-None.ensures))
    ∙ c.loop-name.invariant
