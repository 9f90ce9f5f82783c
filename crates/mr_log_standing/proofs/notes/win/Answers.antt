use Rattle.std.proofs.Common.{sym, ◌∙◌}
use Rattle.mr_log_standing.specs.declared.standing.Win.{Win}
use Rattle.mr_log_standing.specs.inner.Notes.{win_in}
use Rattle.mr_log_standing.proofs.Noted.{stops, passes, at-end}
use Rattle.mr_log_standing.proofs.notes.win.Goals as goal

pub returns-in-Some : goal.returns-in-Some
returns-in-Some c =
    sym (c.loop-item.invariant ∙ stops Win (win_in c.args.task.now) c.args.notes.now c.loop-item.item-index c.item-item.result c.in-Some.win c.loop-item-test.true c.item-item.is (sym c.in-Some.ensures))

pub loop-item-preserved : goal.loop-item-preserved
loop-item-preserved c =
    c.loop-item.invariant ∙ passes Win (win_in c.args.task.now) c.args.notes.now c.loop-item.item-index c.item-item.result c.loop-item-test.true c.item-item.is (sym c.in_default.ensures)

pub returns : goal.returns
returns c = sym (c.loop-item.invariant ∙ at-end Win (win_in c.args.task.now) c.args.notes.now c.loop-item.item-index c.loop-item-test.false)
