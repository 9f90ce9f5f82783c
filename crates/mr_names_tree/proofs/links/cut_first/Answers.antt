use Rattle.mr_names_tree.proofs.Graph.{cut_some}
use Rattle.mr_names_tree.proofs.links.cut_first.Goals as goal

pub returns-in-Some : goal.returns-in-Some
returns-in-Some c = cut_some c.args.nodes.now c.unlink_first.new.nodes c.try_remove.new.self c.args.at c.in-Some.key c.in-Some.ensures.0 c.in-Some.ensures.1 c.in-Some.ensures.2 c.try_remove.ensures.updates
