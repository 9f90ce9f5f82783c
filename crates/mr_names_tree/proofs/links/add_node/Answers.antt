use Rattle.std.proofs.Common.{ap, rules}
use Rattle.mr_names_tree.proofs.Graph.{graph_kept, node_added, taken_back, on_err}
use Rattle.mr_names_tree.proofs.links.add_node.Goals as goal

pub returns-in_err-key-clause-err : goal.returns-in_err-key-clause-err
returns-in_err-key-clause-err c = on_err _ _ (graph_kept _ _ (ap (λ s. s.slots) c.in_err-key.ensures.err))

pub returns-in-Ok-clause-ok : goal.returns-in-Ok-clause-ok
returns-in-Ok-clause-ok c =
    node_added c.args.nodes.now c.insert.new.self c.link.new.nodes c.in_ok-key.key c.args.at _ c.args.name
    c.in_ok-key.ensures.was_vacant c.in_ok-key.ensures.updates (search rules) c.in-Ok.ensures.ok

pub returns-in-Err-clause-err : goal.returns-in-Err-clause-err
returns-in-Err-clause-err c =
    taken_back c.args.nodes.now c.insert.new.self c.link.new.nodes c.try_remove.new.self c.in_ok-key.key _
    c.in_ok-key.ensures.was_vacant c.in_ok-key.ensures.updates c.in-Err.ensures.err c.try_remove.ensures.updates
