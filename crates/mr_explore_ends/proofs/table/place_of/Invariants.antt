use Rattle.std.proofs.Common.{◌≡◌, drop}
use Rattle.mr_explore_ends.specs.inner.Rows.{place_from}
use Rattle.mr_explore_ends.proofs.table.place_of.Given as goal

-- those so far are of other ends
abbrev pub invariant-loop-place : goal.invariant-loop-place
invariant-loop-place l = place_from l.end l.place (drop l.place l.rows) ≡ place_from l.end 0 l.rows
