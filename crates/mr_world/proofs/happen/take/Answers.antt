use Rattle.mr_world.proofs.Happening.{not-fewer, counts}
use Rattle.mr_world.proofs.happen.take.Goals as goal

pub overflow_sub-result : goal.overflow_sub-result
overflow_sub-result c = not-fewer c.args.parts.now c.happen.new.self c.args.event.now c.len-first.result c.len.result c.requires c.len-first.ensures.len c.len.ensures.len c.in_ok-happen.ensures.tries

pub returns-clause-counts : goal.returns-clause-counts
returns-clause-counts c = counts c.args.parts.now c.happen.new.self c.args.event.now c.len-first.result c.len.result c.len-first.ensures.len c.len.ensures.len c.in_ok-happen.ensures.tries
