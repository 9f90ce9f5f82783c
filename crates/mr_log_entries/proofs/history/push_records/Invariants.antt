use Rattle.std.proofs.Common.{◌≡◌, ◌++◌, take}
use Rattle.mr_log_entries.specs.Histories.{records_of}
use Rattle.mr_log_entries.proofs.history.push_records.Given as goal

-- the records of the lines so far were added
abbrev pub invariant-loop-line : goal.invariant-loop-line
invariant-loop-line l = l.records ≡ l.fn.records ++ records_of (take l.line-index l.lines)
