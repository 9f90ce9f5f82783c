use Rattle.std.specs.FinMap as finite
use Rattle.mr_commit.specs.CommitterEffect.{most_calls, deepest}
use Rattle.mr_commit_trace.specs.Seen.{lines_in}
use Rattle.mr_commit_trace.proofs.Turning.{Gone}
use Rattle.mr_commit_trace.proofs.table.finish.Given as goal

abbrev pub invariant-turns : goal.invariant-turns
invariant-turns l = Gone l.fn.moves l.fn.names l.caller l.moves l.names l.told.items

-- at most so many calls are left
abbrev pub decreases-turns : goal.decreases-turns
decreases-turns l = most_calls (finite.len l.fn.names.content) (deepest l.fn.names.content) (lines_in l.moves)
