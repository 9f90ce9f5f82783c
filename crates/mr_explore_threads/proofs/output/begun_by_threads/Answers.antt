use Rattle.std.proofs.Common.{sym, subst}
use Rattle.std.proofs.lemmas.Result.{IfOk-weaker}
use Rattle.mr_explore_threads.specs.inner.Counting.{Advances}
use Rattle.mr_explore.specs.Explored.{goal_of}
use Rattle.mr_explore.specs.Exploring.{Remaining}
use Rattle.mr_explore.proofs.Printing.{begins_fails}
use Rattle.mr_explore_threads.proofs.Failing.{explored_failed, unchecked_failed, unchecked_fails}
use Rattle.mr_explore_threads.proofs.output.begun_by_threads.Goals as goal

pub returns-in_err-divided-clause-fault : goal.returns-in_err-divided-clause-fault
returns-in_err-divided-clause-fault g c =
    let f = c.in_err-divided.field-0.0 in
    explored_failed c.args.asked.now c.args.input.now f c.from_residual.result (begins_fails c.args.asked.now c.args.input.now f c.in_err-divided.ensures.fault) c.from_residual.ensures.1

pub returns-in_err-make-clause-fault : goal.returns-in_err-make-clause-fault
returns-in_err-make-clause-fault g c =
    let f = c.in_err-make.field-0.0 in
    explored_failed c.args.asked.now c.args.input.now f c.from_residual-in_err-make.result (unchecked_fails c.args.asked.now c.args.input.now f c.in_err-make.ensures.fault) c.from_residual-in_err-make.ensures.1

pub returns-clause-begun : goal.returns-clause-begun
returns-clause-begun g c =
    IfOk-weaker c.into_exploration.result _ _
    (λ x same. record {
      start = c.in_ok-divided.divided;
      begins = c.in_ok-divided.ensures.begins;
      goes = subst (λ (y : Remaining). Advances c.args.asked.now.most (goal_of c.args.asked.now) c.in_ok-divided.divided y) (sym same) c.in_ok-make.ensures.advances;
    })
    c.into_exploration.ensures.same

pub returns-clause-fault : goal.returns-clause-fault
returns-clause-fault g c = unchecked_failed c.args.asked.now c.args.input.now c.into_exploration.result c.into_exploration.ensures.fault
