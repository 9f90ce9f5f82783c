use Rattle.std.proofs.Common.{◌≡◌, take}
use Rattle.mr_jobs.specs.MaxByKey.{greatest}
use Rattle.mr_jobs.proofs.max_by_key.greatest.Given as goal

abbrev pub invariant-loop-number : goal.invariant-loop-number
invariant-loop-number l = l.greatest ≡ greatest (take l.number-index l.numbers)
