use Rattle.std.proofs.Common.{◌≡◌, drop, map, ◌++◌, Bool, not}
use Rattle.mr_out_check.specs.Seen.{as_noted}
use Rattle.serde_json.specs.View.{view}
use Rattle.mr_out_check.specs.Json.{note_object}
use Rattle.mr_out_check.proofs.json.note_values.Given as goal

abbrev pub invariant-loop-note : goal.invariant-loop-note
invariant-loop-note l = map view l.values.items ++ map note_object (map as_noted (drop l.note-index l.notes)) ≡ map note_object (map as_noted l.notes)
