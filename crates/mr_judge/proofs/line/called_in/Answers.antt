use Rattle.std.proofs.lemmas.Result.{IfOk-weaker}
use Rattle.mr_judge.proofs.Traces.{called, no_who, other_who}
use Rattle.mr_judge.proofs.line.called_in.Goals as goal

pub returns-in-None : goal.returns-in-None
returns-in-None c = no_who c.args.app c.args.rest.now c.in-None.ensures.none.1

pub returns-in-None-who_in : goal.returns-in-None-who_in
returns-in-None-who_in c = other_who c.args.app c.args.rest.now c.in-Some.word.now c.in-Some.ensures.some.0 c.in-None-who_in.ensures.none

pub returns-in-Some-who_in : goal.returns-in-Some-who_in
returns-in-Some-who_in c =
    IfOk-weaker c.said_by.result _ _
    (λ found h. called c.args.app c.in-Some-who_in.attempt c.args.rest.now c.in-Some.word.now c.in-Some.behind.now found c.in-Some-who_in.ensures.some.0 c.in-Some-who_in.ensures.some.1 c.in-Some.ensures.whole c.in-Some.ensures.some.1 h)
    c.said_by.ensures
