use Rattle.std.proofs.Common.{length}
use Rattle.mr_explore_ends.proofs.Pieces.{IsRead}
use Rattle.mr_explore_ends.proofs.goal.read_lines.Given as goal

-- the lines before those that are left are read
abbrev pub invariant-loop-line : goal.invariant-loop-line
invariant-loop-line l = IsRead l.text l.rest l.goal.items

abbrev pub decreases-loop-line : goal.decreases-loop-line
decreases-loop-line l = length l.rest
