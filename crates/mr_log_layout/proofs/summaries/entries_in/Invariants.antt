use Rattle.std.proofs.Common.{◌≡◌, List, length}
use Rattle.std.specs.List.{AllByRecursion}
use Rattle.mr_log_entries.specs.declared.entry.Entry.{Entry}
use Rattle.mr_log_entries.specs.Texts.{IsEntryOf}
use Rattle.mr_log_layout.specs.Summaries.{summary_text}
use Rattle.mr_log_layout.proofs.Entries.{Front, Left}
use Rattle.mr_log_layout.proofs.summaries.entries_in.Given as goal

abbrev pub invariant-loop-own : goal.invariant-loop-own
invariant-loop-own l = record {
  front : Front l.job l.fn.text l.entries l.rest;
  left : (whole : List Entry) → AllByRecursion (IsEntryOf l.job) whole → l.fn.text ≡ summary_text whole → Left l.job whole l.entries l.rest;
}

abbrev pub decreases-loop-own : goal.decreases-loop-own
decreases-loop-own l = length l.rest
