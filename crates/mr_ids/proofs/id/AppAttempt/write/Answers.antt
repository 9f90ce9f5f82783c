use Rattle.std.proofs.Common.{arith, rules, sym}
use Rattle.mr_ids.proofs.Texts.{numeral_is_plain}
use Rattle.mr_ids.proofs.Shown.{decimal-numeral}
use Rattle.mr_ids.proofs.id.AppAttempt.write.Goals as goal

pub returns-clause-ok : goal.returns-clause-ok
returns-clause-ok c = let same = decimal-numeral c.args.self.now (omega arith) in rw (sym same) (search rules)

pub returns-clause-plain : goal.returns-clause-plain
returns-clause-plain c = numeral_is_plain 4 c.args.self.now (omega arith) (omega arith) (omega arith)

pub returns-in_err-text-clause-plain : goal.returns-in_err-text-clause-plain
returns-in_err-text-clause-plain c = numeral_is_plain 4 c.args.self.now (omega arith) (omega arith) (omega arith)
