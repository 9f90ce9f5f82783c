use Rattle.std.proofs.Common.{◌≡◌, drop}
use Rattle.mr_log_standing.specs.declared.standing.Win.{Win}
use Rattle.mr_log_standing.specs.inner.Notes.{first_in, win_in}
use Rattle.mr_log_standing.proofs.notes.win.Given as goal

abbrev pub invariant-loop-item : goal.invariant-loop-item
invariant-loop-item l = first_in Win (win_in l.task) l.notes ≡ first_in Win (win_in l.task) (drop l.item-index l.notes)
