use Rattle.mr_jobs.proofs.Numbers.{greatest_more}
use Rattle.mr_jobs.proofs.max_by_key.greatest.Goals as goal

pub loop-number-preserved : goal.loop-number-preserved
loop-number-preserved c = greatest_more c.args.numbers.now c.loop-number.number-index c.loop-number.greatest c.max-greatest.result c.loop-number-test.true c.loop-number.invariant c.max-greatest.ensures
