use Rattle.std.proofs.Common.{sym}
use Rattle.mr_commit.proofs.Calls.{made}
use Rattle.mr_commit.proofs.Steps.{step_from_took}
use Rattle.mr_commit.proofs.step.Step.next.Goals as goal

pub returns : goal.returns
returns c =
    step_from_took c.args.self.now c.args.names.now c.args.caller c.in-Some.op.now c.perform-answer.result c.took.result c.took.new.self c.perform-answer.new.self
    (sym c.in-Some.ensures)
    (made _ _ _ _ _ c.perform-answer.ensures.made c.perform-answer.ensures.always)
    c.took.ensures
