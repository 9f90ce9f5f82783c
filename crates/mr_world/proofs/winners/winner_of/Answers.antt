use Rattle.std.proofs.Common.{sym, ◌∙◌}
use Rattle.mr_world.proofs.Read_winners.{found-there, not-there, none-left}
use Rattle.mr_world.proofs.winners.winner_of.Goals as goal

pub returns-in-Some : goal.returns-in-Some
returns-in-Some c = found-there c.args.told.now c.args.task c.loop-entry.entry-index c.entry-item.result c.in-Some.attempt c.loop-entry-test.true c.entry-item.is (sym c.in-Some.is ∙ c.success_of.ensures) c.loop-entry.invariant

pub loop-entry-preserved : goal.loop-entry-preserved
loop-entry-preserved c = not-there c.args.told.now c.args.task c.loop-entry.entry-index c.entry-item.result c.loop-entry-test.true c.entry-item.is (sym c.in_default.is ∙ c.success_of.ensures) c.loop-entry.invariant

pub returns : goal.returns
returns c = none-left c.args.told.now c.args.task c.loop-entry.entry-index c.loop-entry-test.false c.loop-entry.invariant
