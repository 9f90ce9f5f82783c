use Rattle.std.proofs.Common.{take}
use Rattle.mr_log_standing.specs.inner.Notes.{notes_by}
use Rattle.mr_log_standing.specs.inner.Kept.{HasNoted}
use Rattle.mr_log_standing.proofs.standings.note_all.Given as goal

abbrev pub invariant-loop-item : goal.invariant-loop-item
invariant-loop-item l = HasNoted l.job (notes_by l.entry.origin (take l.item-index l.lines)) l.fn.tasks.items l.tasks.items
