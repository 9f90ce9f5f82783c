use Rattle.std.proofs.Common.{◌≡◌, take}
use Rattle.mr_jobs.specs.WordCount.{held_sum}
use Rattle.mr_jobs.proofs.word_count.held_sum.Given as goal

abbrev pub invariant-loop-count : goal.invariant-loop-count
invariant-loop-count l = l.total ≡ held_sum (take l.count-index l.counts)
