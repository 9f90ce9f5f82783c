use Rattle.std.proofs.lemmas.Result.{IfOk-weaker}
use Rattle.mr_judge.proofs.Traces.{no_blank, no_colon, said}
use Rattle.mr_judge.proofs.line.said_by.Goals as goal

pub returns-in-None : goal.returns-in-None
returns-in-None c = no_colon c.args.caller c.args.behind.now c.in-None.ensures.none.1

pub returns-in-None-behind_space : goal.returns-in-None-behind_space
returns-in-None-behind_space c = no_blank c.args.caller c.args.behind.now c.in-Some.last.now c.in-Some.ensures.some.1 c.in-None-behind_space.ensures.none

pub returns-in-Some-behind_space : goal.returns-in-Some-behind_space
returns-in-Some-behind_space c =
    IfOk-weaker c.answered.result _ _
    (λ found h. said c.args.caller c.args.behind.now c.in-Some.call.now c.in-Some.last.now c.in-Some-behind_space.answer.now found c.in-Some.ensures.some.0 c.in-Some.ensures.whole c.in-Some-behind_space.ensures.some h)
    c.answered.ensures
