use Rattle.std.proofs.Common.{◌++◌, ◌∷◌, [], ℕ, List, sym, ap, ◌∙◌}
use Rattle.std.proofs.lemmas.List.{take_all}
use Rattle.mr_log_entries.specs.declared.entry.Entry.{Entry}
use Rattle.mr_log_entries.specs.Texts.{entry_text}
use Rattle.mr_log_layout.specs.Summaries.{summary_text}
use Rattle.mr_log_layout.proofs.Entries.{summary-taken}
use Rattle.mr_log_layout.proofs.summaries.summary.Goals as goal

pub loop-entry-init : goal.loop-entry-init
unfolding summary_text
loop-entry-init c = c.new-out.ensures.bytes

pub loop-entry-preserved : goal.loop-entry-preserved
loop-entry-preserved c =
    c.in_ok-push_entry.ensures
    ∙ ap (λ (l : List ℕ). l ++ (entry_text c.entry-item.result ++ 10 ∷ [])) c.loop-entry.invariant
    ∙ sym (summary-taken c.args.entries.now c.loop-entry.entry-index c.entry-item.result c.loop-entry-test.true c.entry-item.is)

pub returns : goal.returns
returns c = c.loop-entry.invariant ∙ ap (λ (es : List Entry). summary_text es) (take_all c.loop-entry.entry-index c.args.entries.now c.loop-entry-test.false)
