use Rattle.std.proofs.Common.{◌++◌, List, take, sym, ap, ◌∙◌}
use Rattle.mr_history.specs.declared.record.Record.{Record}
use Rattle.mr_log_entries.specs.declared.line.Line.{Line}
use Rattle.mr_log_entries.specs.Histories.{records_of}
use Rattle.mr_log_entries.specs.Recorded.{lines_of}
use Rattle.mr_log_entries.proofs.Told.{one_more_entry}
use Rattle.mr_log_entries.proofs.history.records_of.Goals as goal

pub loop-entry-preserved : goal.loop-entry-preserved
loop-entry-preserved c =
    c.in_ok-push_records.ensures
    ∙ ap (λ (l : List Record). l ++ records_of c.as_slice.result.now) c.loop-entry.invariant
    ∙ sym (one_more_entry c.args.entries.now c.loop-entry.entry-index c.entry-item.result c.loop-entry-test.true c.entry-item.is
    ∙ ap (λ (l : List Line). records_of (lines_of (take c.loop-entry.entry-index c.args.entries.now)) ++ records_of l) (sym c.as_slice.ensures))
