use Rattle.std.proofs.Common.{◌∙◌, sym, arith}
use Rattle.mr_ids.proofs.Equal.{one_more, none_left}
use Rattle.mr_ids.proofs.share.are_equal.Goals as goal

pub loop-i-preserved : goal.loop-i-preserved
loop-i-preserved c = c.loop-i.invariant ∙ one_more c.args.left.now c.args.right.now c.loop-i.i c.loop-i.equal c.loop-i-test.true (omega (arith, c.loop-i-test.true, c.if-left-right.false))

pub returns : goal.returns
returns c = sym (c.loop-i.invariant ∙ none_left c.args.left.now c.args.right.now c.loop-i.i c.loop-i.equal c.loop-i-test.false (omega (arith, c.loop-i-test.false, c.if-left-right.false)))
