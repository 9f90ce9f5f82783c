use Rattle.std.proofs.Common.{sym, ◌∙◌}
use Rattle.mr_master_model.specs.Past.{Launches}
use Rattle.mr_master_events.specs.mr_master_state.proofs.Standing.{then-stands}
use Rattle.mr_master.proofs.master.MasterMachine.launch.Goals as goal

pub take-requires : goal.take-requires
take-requires c = (Launches c.args.task c.args.node, c.in-Ok.ensures.ready (Launches c.args.task c.args.node) c.in_ok-prepared.ensures.planned)

pub returns-in-Ok-clause-stands : goal.returns-in-Ok-clause-stands
returns-in-Ok-clause-stands c =
    then-stands c.args.self.now c.reserve.new.self c.take.new.self (Launches c.args.task c.args.node) c.in-Ok.ensures.still
    (c.take.ensures.stands (Launches c.args.task c.args.node) (c.in-Ok.ensures.ready (Launches c.args.task c.args.node) c.in_ok-prepared.ensures.planned))

pub only-requires : goal.only-requires
only-requires c = (c.in_ok-prepared.ensures.one.0, c.take.ensures.packets ∙ c.in_ok-prepared.ensures.one.1)

pub returns-in-Ok-clause-sent : goal.returns-in-Ok-clause-sent
returns-in-Ok-clause-sent c = λ w past k. sym c.only.ensures ∙ c.take.ensures.packets ∙ c.in_ok-prepared.ensures.sent w past k
