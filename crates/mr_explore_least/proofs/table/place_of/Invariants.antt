use Rattle.std.proofs.Common.{◌≡◌, drop, map}
use Rattle.mr_explore_least.specs.Rows.{as_arrival}
use Rattle.mr_explore_least.specs.inner.Places.{place_from}
use Rattle.mr_explore_least.proofs.table.place_of.Given as goal

-- those so far are of other ends
abbrev pub invariant-loop-place : goal.invariant-loop-place
invariant-loop-place l = place_from l.end l.place (map as_arrival (drop l.place l.rows)) ≡ place_from l.end 0 (map as_arrival l.rows)
