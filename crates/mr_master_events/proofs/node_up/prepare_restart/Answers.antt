use Rattle.std.proofs.Common.{refl, []}
use Rattle.mr_master_state.specs.declared.change.Change.TheVariants as change
use Rattle.mr_master_state.proofs.Losing.{restart-is}
use Rattle.mr_master_state.proofs.Made.{plan-as}
use Rattle.mr_master_events.proofs.node_up.prepare_restart.Goals as goal

pub returns : goal.returns
returns c =
    plan-as [] (change.Knows c.args.node c.args.incarnation c.args.nodes c.in_ok-dead.dead c.in_ok-lost.lost) c.silent.ensures c.requires
    (λ w s k. refl)
    (λ w s k. restart-is w s c.args.node c.args.incarnation c.in_ok-dead.dead.items c.in_ok-lost.lost.items (c.in_ok-dead.ensures w s k) (c.in_ok-lost.ensures w s k))
