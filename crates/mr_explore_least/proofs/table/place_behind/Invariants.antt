use Rattle.std.proofs.Common.{◌≡◌, drop, map}
use Rattle.mr_explore_least.specs.Rows.{as_arrival}
use Rattle.mr_explore_least.specs.inner.Places.{behind_from}
use Rattle.mr_explore_least.proofs.table.place_behind.Given as goal

-- those so far come before it
abbrev pub invariant-loop-place : goal.invariant-loop-place
invariant-loop-place l = behind_from (as_arrival l.new) l.place (map as_arrival (drop l.place l.rows)) ≡ behind_from (as_arrival l.new) 0 (map as_arrival l.rows)
