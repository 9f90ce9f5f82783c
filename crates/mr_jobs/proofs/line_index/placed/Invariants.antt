use Rattle.std.proofs.Common.{◌≡◌, map}
use Rattle.mr_jobs.proofs.line_index.placed.Given as goal

abbrev pub invariant-loop-word : goal.invariant-loop-word
invariant-loop-word l = l.pairs.items ≡ map (λ word. (word, l.position)) l.yielded
