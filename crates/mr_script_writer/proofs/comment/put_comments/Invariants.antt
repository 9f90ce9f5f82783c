use Rattle.std.proofs.Common.{◌≡◌, ◌++◌, length}
use Rattle.mr_script_writer.specs.Repeating.{commented}
use Rattle.mr_script_writer.proofs.comment.put_comments.Given as goal

-- what is written, and the lines that are left, are all lines
abbrev pub invariant-loop-line : goal.invariant-loop-line
invariant-loop-line l = l.out.items ++ commented l.rest ≡ l.fn.out.items ++ commented l.fn.text

abbrev pub decreases-loop-line : goal.decreases-loop-line
decreases-loop-line l = length l.rest
