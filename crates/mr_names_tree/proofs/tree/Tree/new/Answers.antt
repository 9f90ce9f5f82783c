use Rattle.mr_names_tree.proofs.Graph.{content_is}
use Rattle.mr_names_tree.proofs.tree.Tree.new.Goals as goal

pub returns : goal.returns
returns c = content_is c.in_ok-nodes.nodes c.in_ok-nodes.root c.result-1.given.0 _ c.in_ok-nodes.ensures
