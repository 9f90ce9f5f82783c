use Rattle.mr_names_tree.proofs.Graph.{node_cut}
use Rattle.mr_names_tree.proofs.links.cut.Goals as goal

pub returns : goal.returns
returns c = node_cut c.args.nodes.now c.unlink.new.nodes c.try_remove.new.self c.args.at c.args.key c.args.name.now c.unlink.ensures c.try_remove.ensures.updates
