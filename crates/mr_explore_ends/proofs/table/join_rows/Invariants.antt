use Rattle.std.proofs.Common.{◌≡◌, map}
use Rattle.mr_explore_ends.specs.Rows.{as_end}
use Rattle.mr_explore_ends.specs.inner.Joined.{all_joined}
use Rattle.mr_explore_ends.proofs.table.join_rows.Given as goal

-- those so far were joined
abbrev pub invariant-loop-row : goal.invariant-loop-row
invariant-loop-row l = map as_end l.rows.items ≡ all_joined (map as_end l.yielded) (map as_end l.fn.rows.items)
