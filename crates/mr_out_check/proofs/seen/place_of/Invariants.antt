use Rattle.std.proofs.Common.{◌≡◌, drop, map, ◌++◌, Bool, not}
use Rattle.mr_out_check.specs.inner.Notes.{place_from}
use Rattle.mr_out_check.proofs.seen.place_of.Given as goal

abbrev pub invariant-loop-place : goal.invariant-loop-place
invariant-loop-place l = place_from l.class l.place (drop l.place l.notes) ≡ place_from l.class 0 l.notes
