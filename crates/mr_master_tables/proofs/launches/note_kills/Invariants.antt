use Rattle.std.proofs.Common.{take, length, ◌≡◌}
use Rattle.mr_master_tables.specs.Launches.{NotesKills}
use Rattle.mr_master_tables.proofs.launches.note_kills.Given as goal

abbrev pub invariant-loop-i : goal.invariant-loop-i
invariant-loop-i l = record {
  noted : NotesKills l.initial.killed.items (take l.i l.packets) l.killed.items;
  count : length l.killed.items ≡ length l.initial.killed.items;
}
