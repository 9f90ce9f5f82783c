use Rattle.std.proofs.Common.{◌≡◌, drop, map, ◌++◌, Bool, not}
use Rattle.std.specs.List.{flat_map}
use Rattle.mr_out_check.specs.Seen.{as_noted}
use Rattle.mr_out_check.specs.Report.{note_line}
use Rattle.mr_out_check.proofs.report.put_notes.Given as goal

abbrev pub invariant-loop-note : goal.invariant-loop-note
invariant-loop-note l = l.out.items ++ flat_map note_line (map as_noted (drop l.note-index l.notes)) ≡ l.fn.out.items ++ flat_map note_line (map as_noted l.notes)
