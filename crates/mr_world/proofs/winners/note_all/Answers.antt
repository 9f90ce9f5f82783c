use Rattle.mr_world.proofs.Noting.{none-yet, one-entry, all-noted}
use Rattle.mr_world.proofs.winners.note_all.Goals as goal

pub loop-entry-init : goal.loop-entry-init
loop-entry-init c = λ n e. none-yet c.args.job c.args.told.now n c.args.all.now e

pub loop-entry-preserved : goal.loop-entry-preserved
loop-entry-preserved c = λ n e. one-entry c.args.job c.args.told.now n c.loop-entry.entry-index c.entry-item.result c.loop-entry.all c.note.new.all c.loop-entry-test.true c.entry-item.is c.note.ensures (c.loop-entry.invariant n e)

pub returns : goal.returns
returns c = λ n e. all-noted c.args.job c.args.told.now n c.loop-entry.entry-index c.loop-entry.all c.loop-entry-test.false (c.loop-entry.invariant n e)
