use Rattle.std.proofs.Common.{arith}
use Rattle.mr_ids.proofs.Shown.{decimal-numeral}
use Rattle.mr_ids.proofs.display.AppAttemptDisplay.fmt.Goals as goal

pub returns-clause-writes : goal.returns-clause-writes
returns-clause-writes g c = rw (c.number-number.ensures.value, decimal-numeral c.args.self.now (omega arith)) at c.write.ensures.writes
