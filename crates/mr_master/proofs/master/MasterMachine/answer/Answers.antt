use Rattle.std.proofs.Common.{◌∙◌}
use Rattle.mr_master_model.specs.Past.{Answered}
use Rattle.mr_master_events.specs.mr_master_state.proofs.Standing.{then-stands}
use Rattle.mr_master.proofs.master.MasterMachine.answer.Goals as goal

pub take-requires : goal.take-requires
take-requires c = (Answered c.args.answer, c.in_ok-reserve.ensures.ready (Answered c.args.answer) c.in_ok-prepared.ensures.planned)

pub returns-clause-stands : goal.returns-clause-stands
returns-clause-stands c =
    then-stands c.args.self.now c.reserve.new.self c.take.new.self (Answered c.args.answer) c.in_ok-reserve.ensures.still
    (c.take.ensures.stands (Answered c.args.answer) (c.in_ok-reserve.ensures.ready (Answered c.args.answer) c.in_ok-prepared.ensures.planned))

pub returns-clause-sent : goal.returns-clause-sent
returns-clause-sent c = λ w past k. c.take.ensures.packets ∙ c.in_ok-prepared.ensures.sent w past k
