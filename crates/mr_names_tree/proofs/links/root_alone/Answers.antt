use Rattle.mr_names_tree.proofs.Graph.{told_alone}
use Rattle.mr_names_tree.proofs.links.root_alone.Goals as goal

pub returns : goal.returns
returns c = told_alone c.new-nodes.result c.insert.new.self c.in_ok-root.root _ c.new-nodes.ensures.empty c.in_ok-root.ensures.updates c.new.ensures.empty
