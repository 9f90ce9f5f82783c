use Rattle.std.proofs.Common.{◌≡◌, ◌≤◌, ℕ, length}
use Rattle.mr_trace.specs.Happened.{source_at}
use Rattle.mr_trace.proofs.makers.stretches_left.Given as goal

-- those that were passed end before each of these places
abbrev pub invariant-loop-first : goal.invariant-loop-first
invariant-loop-first l = (n : ℕ) → l.place ≤ n → source_at l.left n ≡ source_at l.stretches n

abbrev pub decreases-loop-first : goal.decreases-loop-first
decreases-loop-first l = length l.left
