use Rattle.mr_explore.proofs.Printing.{makes_failed, prints_ok, tells_fails}
use Rattle.mr_explore_threads.proofs.Failing.{explored_failed}
use Rattle.mr_explore_threads.proofs.output.explore_by_threads.Goals as goal

pub returns-in_err-exploration-clause-fault : goal.returns-in_err-exploration-clause-fault
returns-in_err-exploration-clause-fault g c =
    explored_failed c.args.asked.now c.args.input.now c.in_err-exploration.field-0.0 c.from_residual.result c.in_err-exploration.ensures.fault c.from_residual.ensures.1

pub returns-in_err-make_rest-clause-fault : goal.returns-in_err-make_rest-clause-fault
returns-in_err-make_rest-clause-fault g c =
    let b = c.in_ok-exploration.ensures.begun in
    makes_failed c.args.asked.now c.args.input.now b.start c.in_err-make_rest.field-0.0 c.from_residual-in_err-make_rest.result b.begins (c.in_err-make_rest.ensures b.start b.begins.table b.goes) c.from_residual-in_err-make_rest.ensures.1

pub returns-clause-ok : goal.returns-clause-ok
returns-clause-ok g c =
    let b = c.in_ok-exploration.ensures.begun in
    prints_ok (λ v. v.text.items) c.args.asked.now c.args.input.now b.start c.make_rest.new.exploration c.explored_text.result b.begins (c.in_ok-make_rest.ensures b.start b.begins.table b.goes) c.explored_text.ensures.tells

pub returns-clause-fault : goal.returns-clause-fault
returns-clause-fault g c = tells_fails c.args.asked.now c.args.input.now c.explored_text.result c.explored_text.ensures.fault
