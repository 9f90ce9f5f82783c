use Rattle.std.proofs.Common.{arith}
use Rattle.mr_explore_compared.proofs.Dropped.{passed-or}
use Rattle.mr_explore_compared.proofs.dropping.is_dropped_too.Goals as goal

pub returns : goal.returns
returns c = passed-or c.args.m c.args.n c.args.place c.args.others.now.keys c.lies_there.result (λ l. omega (arith, l, c.if-place-m.false)) c.lies_there.ensures
