use Rattle.std.proofs.Common.{◌≡◌, map}
use Rattle.mr_jobs.proofs.word_count.counted.Given as goal

abbrev pub invariant-loop-word : goal.invariant-loop-word
invariant-loop-word l = l.pairs.items ≡ map (λ word. (word, 1)) l.yielded
