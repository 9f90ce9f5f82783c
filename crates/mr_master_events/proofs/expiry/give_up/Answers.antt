use Rattle.std.proofs.Common.{◌∙◌}
use Rattle.mr_master_state.specs.declared.change.Change.TheVariants as change
use Rattle.mr_master_events.proofs.GivenUp.{kills-are, expired-is}
use Rattle.mr_master_state.proofs.Made.{plan-as}
use Rattle.mr_master_events.proofs.expiry.give_up.Goals as goal

pub returns-clause-planned : goal.returns-clause-planned
returns-clause-planned c =
    plan-as c.in_ok-packets.packets.items (change.GivesUp c.in_ok-dead.dead c.in_ok-lost.lost c.in_ok-late.late) c.new.ensures tt
    (λ w s k. kills-are w s c.args.node c.deref.result.now c.in_ok-packets.packets.items (c.in_ok-packets.ensures w s k) (c.deref.ensures.value ∙ c.in_ok-dead.ensures w s k))
    (λ w s k. expired-is w s c.args.node c.in_ok-dead.dead.items c.in_ok-lost.lost.items c.in_ok-late.late.items (c.in_ok-dead.ensures w s k) (c.in_ok-lost.ensures w s k) (c.in_ok-late.ensures w s k))
