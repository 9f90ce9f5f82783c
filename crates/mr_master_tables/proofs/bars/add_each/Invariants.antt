use Rattle.std.proofs.Common.{◌≡◌, ◌+◌, ◌≤◌, length, take}
use Rattle.indexmap.specs.IndexSet.{spare}
use Rattle.mr_master_tables.specs.Bars.{all_added}
use Rattle.mr_master_tables.proofs.bars.add_each.Given as goal

abbrev pub invariant-loop-i : goal.invariant-loop-i
invariant-loop-i l = record {
  added : l.due.keys ≡ all_added l.initial.due.keys (take l.i l.attempts);
  room : length l.attempts ≤ l.i + spare l.due;
}
