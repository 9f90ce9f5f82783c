use Rattle.std.proofs.Common.{◌∙◌, ap, [], ◌∷◌, ◌++◌, List}
use Rattle.mr_history.specs.declared.record.Record.{Record}
use Rattle.mr_history.specs.declared.record.Record.TheVariants.{AttemptFailed}
use Rattle.mr_master_state.proofs.Keeping.{held}
use Rattle.mr_master_state.proofs.Parts.{with-writing}
use Rattle.mr_master_state.proofs.machine.Machine.fail_attempt.Goals as goal

pub returns : goal.returns
returns c = λ w s keeps.
    let a = c.args.attempt in
    let k = held c.self.view_is keeps in
    let first = c.push_reserved.ensures in
    with-writing c.push_reserved.new.self (s.due ++ AttemptFailed a ∷ []) s.tail
    (record { due = first.due ∙ ap (λ (l : List Record). l ++ AttemptFailed a ∷ []) k.writing.due; tail = first.tail ∙ k.writing.tail; is_flush_wanted = first.flag ∙ k.writing.is_flush_wanted }) k
