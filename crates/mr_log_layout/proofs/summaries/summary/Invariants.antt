use Rattle.std.proofs.Common.{◌≡◌, take}
use Rattle.std.specs.String.{string_bytes}
use Rattle.mr_log_layout.specs.Summaries.{summary_text}
use Rattle.mr_log_layout.proofs.summaries.summary.Given as goal

-- the texts of the entries so far
abbrev pub invariant-loop-entry : goal.invariant-loop-entry
invariant-loop-entry l = string_bytes l.out ≡ summary_text (take l.entry-index l.entries)
