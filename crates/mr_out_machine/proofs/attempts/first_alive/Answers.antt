use Rattle.std.proofs.Common.{sym, ◌∙◌}
use Rattle.mr_out_machine.proofs.Alive.{stops, passes, at-end}
use Rattle.mr_out_machine.proofs.attempts.first_alive.Goals as goal

pub returns-in-Some : goal.returns-in-Some
returns-in-Some c =
    sym (c.loop-told.invariant ∙ stops c.args.records.now c.args.task.now c.loop-told.told-index c.told-item.result c.in-Some.a c.loop-told-test.true c.told-item.is (sym c.in-Some.ensures))

pub loop-told-preserved : goal.loop-told-preserved
loop-told-preserved c =
    c.loop-told.invariant ∙ passes c.args.records.now c.args.task.now c.loop-told.told-index c.told-item.result c.loop-told-test.true c.told-item.is (sym c.in_default.ensures)

pub returns : goal.returns
returns c = sym (c.loop-told.invariant ∙ at-end c.args.records.now c.args.task.now c.loop-told.told-index c.loop-told-test.false)
