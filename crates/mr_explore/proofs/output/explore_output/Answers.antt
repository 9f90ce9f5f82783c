use Rattle.mr_explore.proofs.Printing.{begins_failed, makes_failed, prints_ok, tells_fails}
use Rattle.mr_explore.proofs.output.explore_output.Goals as goal

pub returns-in_err-exploration-clause-fault : goal.returns-in_err-exploration-clause-fault
returns-in_err-exploration-clause-fault g c =
    begins_failed c.args.asked.now c.args.input.now c.in_err-exploration.field-0.0 c.from_residual.result c.in_err-exploration.ensures.fault c.from_residual.ensures.1

pub returns-in_err-make-clause-fault : goal.returns-in_err-make-clause-fault
returns-in_err-make-clause-fault g c =
    makes_failed c.args.asked.now c.args.input.now c.in_ok-exploration.exploration c.in_err-make.field-0.0 c.from_residual-in_err-make.result c.in_ok-exploration.ensures.begins c.in_err-make.ensures c.from_residual-in_err-make.ensures.1

pub returns-clause-ok : goal.returns-clause-ok
returns-clause-ok g c = prints_ok (λ v. v.text.items) c.args.asked.now c.args.input.now c.in_ok-exploration.exploration c.make.new.self c.explored_text.result c.in_ok-exploration.ensures.begins c.in_ok-make.ensures c.explored_text.ensures.tells

pub returns-clause-fault : goal.returns-clause-fault
returns-clause-fault g c = tells_fails c.args.asked.now c.args.input.now c.explored_text.result c.explored_text.ensures.fault
