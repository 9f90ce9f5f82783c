use Rattle.std.proofs.Common.{◌≡◌, ℕ, drop}
use Rattle.mr_log_standing.specs.inner.Notes.{first_in, boot_in}
use Rattle.mr_log_standing.proofs.notes.begun_in.Given as goal

abbrev pub invariant-loop-item : goal.invariant-loop-item
invariant-loop-item l = first_in ℕ (boot_in l.a) l.notes ≡ first_in ℕ (boot_in l.a) (drop l.item-index l.notes)
