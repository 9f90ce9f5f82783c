use Rattle.std.proofs.Common.{◌≡◌, ◌*◌, ◌^◌, ◌<◌, ◌≤◌, ◌-◌}
use Rattle.mr_master_tables.proofs.marks.size_for.Given as goal

abbrev pub invariant-loop-size : goal.invariant-loop-size
invariant-loop-size l = record { power : l.size ≡ 2 ^ l.height; some : l.height < l.size; most : l.size ≤ 2 * 1099511627776; few : l.count ≤ 1099511627776 }

abbrev pub decreases-loop-size : goal.decreases-loop-size
decreases-loop-size l = l.count - l.size
