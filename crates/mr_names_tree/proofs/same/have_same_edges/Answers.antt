use Rattle.std.proofs.Common.{sym, ◌∙◌}
use Rattle.mr_names_tree.proofs.Same_places.{edges_decide}
use Rattle.mr_names_tree.proofs.same.have_same_edges.Goals as goal

pub returns : goal.returns
returns c = λ yes. (edges_decide c.args.other.now.entries c.args.one.now.entries).0 (sym c.eq.ensures ∙ yes)
