use Rattle.std.proofs.Common.{[], ◌∷◌, ◌++◌, sym, ap, ◌∙◌, append-nil, append_assoc, add-one, ℕ}
use Rattle.mr_packet.specs.declared.packet.Packet.TheVariants as packet
use Rattle.mr_master_model.specs.Sends.{to_all}
use Rattle.mr_packet.specs.Sends.{to_node}
use Rattle.mr_master_tables.proofs.packets.push_won.Goals as goal

pub loop-node-init : goal.loop-node-init
unfolding to_all
loop-node-init c = sym (append-nil c.args.packets.now.items)

pub loop-node-preserved : goal.loop-node-preserved
unfolding to_all
loop-node-preserved c =
    let p = packet.Won c.args.task c.args.attempt in
    c.in_ok-push.ensures.items
    ∙ (λ j. c.loop-node.invariant j ++ c.to_node.ensures j ∷ [])
    ∙ append_assoc c.args.packets.now.items (to_all c.loop-node.node p) (to_node c.loop-node.node p ∷ [])
    ∙ ap (λ (n : ℕ). c.args.packets.now.items ++ to_all n p) (sym (add-one c.loop-node.node))
