use Rattle.std.proofs.Common.{◌≡◌, take}
use Rattle.mr_log_entries.specs.Histories.{records_of}
use Rattle.mr_log_entries.specs.Recorded.{lines_of}
use Rattle.mr_log_entries.proofs.history.records_of.Given as goal

-- the records of the entries so far
abbrev pub invariant-loop-entry : goal.invariant-loop-entry
invariant-loop-entry l = l.records ≡ records_of (lines_of (take l.entry-index l.entries))
