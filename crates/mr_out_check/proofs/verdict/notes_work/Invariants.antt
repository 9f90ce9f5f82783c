use Rattle.std.proofs.Common.{◌≡◌, drop, map, ◌++◌, Bool, not}
use Rattle.std.specs.List.{list_any}
use Rattle.mr_out_check.specs.Seen.{Noted, as_noted}
use Rattle.mr_out_check.specs.Classes.{is_work}
use Rattle.mr_out_check.proofs.verdict.notes_work.Given as goal

abbrev pub invariant-loop-note : goal.invariant-loop-note
invariant-loop-note l = list_any (λ (n : Noted). is_work n.class) (map as_noted (drop l.note-index l.notes)) ≡ list_any (λ (n : Noted). is_work n.class) (map as_noted l.notes)
