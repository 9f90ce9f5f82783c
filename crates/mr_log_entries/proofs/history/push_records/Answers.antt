use Rattle.std.proofs.Common.{◌++◌, ◌∷◌, [], List, take, sym, ap, ◌∙◌, append_assoc}
use Rattle.mr_history.specs.declared.record.Record.{Record}
use Rattle.mr_log_entries.specs.Histories.{records_of}
use Rattle.mr_log_entries.proofs.Told.{one_more_record}
use Rattle.mr_log_entries.proofs.history.push_records.Goals as goal

pub loop-line-preserved : goal.loop-line-preserved
loop-line-preserved c =
    c.in_ok-push_record.ensures
    ∙ ap (λ (l : List Record). l ++ records_of (c.line-item.result ∷ [])) c.loop-line.invariant
    ∙ append_assoc c.args.records.now (records_of (take c.loop-line.line-index c.args.lines.now)) (records_of (c.line-item.result ∷ []))
    ∙ ap (λ (l : List Record). c.args.records.now ++ l) (sym (one_more_record c.args.lines.now c.loop-line.line-index c.line-item.result c.loop-line-test.true c.line-item.is))
