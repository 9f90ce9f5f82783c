use Rattle.std.proofs.Common.{refl, []}
use Rattle.mr_master_model.specs.Hearing.{with_known}
use Rattle.mr_master_state.specs.declared.change.Change.TheVariants as change
use Rattle.mr_master_state.specs.Told.{with_deaths, with_losses}
use Rattle.mr_master_state.proofs.Made.{plan-as}
use Rattle.mr_master_events.proofs.node_up.prepare_known.Goals as goal

pub returns : goal.returns
returns c =
    plan-as [] (change.Knows c.args.node c.args.incarnation c.args.nodes c.new-dead.result c.new-lost.result) c.silent.ensures c.requires
    (λ w s k. refl)
    (λ w s k. (λ j. with_known (with_losses w (with_deaths w s (c.new-dead.ensures.items j)) (c.new-lost.ensures.items j)) c.args.node c.args.incarnation))
