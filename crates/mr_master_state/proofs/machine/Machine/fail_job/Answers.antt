use Rattle.std.proofs.Common.{false, ◌∙◌, ap, [], ◌∷◌, ◌++◌, List, append_assoc}
use Rattle.mr_history.specs.declared.record.Record.{Record}
use Rattle.mr_history.specs.declared.record.Record.TheVariants.{AttemptFailed, JobUnsuccessful}
use Rattle.mr_master_model.specs.Past.{Fails}
use Rattle.mr_master_state.proofs.Keeping.{held}
use Rattle.mr_master_state.proofs.Parts.{with-writing, with-work}
use Rattle.mr_master_state.proofs.machine.Machine.fail_job.Goals as goal

pub returns : goal.returns
returns c = λ w s keeps.
    let a = c.args.attempt in
    let k = held c.self.view_is keeps in
    let first = c.push_reserved.ensures in
    let second = c.push_reserved-2.ensures in
    let due = second.due ∙ ap (λ (l : List Record). l ++ JobUnsuccessful ∷ []) (first.due ∙ ap (λ (l : List Record). l ++ AttemptFailed a ∷ []) k.writing.due) ∙ append_assoc s.due (AttemptFailed a ∷ []) (JobUnsuccessful ∷ []) in
    with-work c.fail.new.self (Fails false) c.fail.ensures
    (with-writing c.push_reserved-2.new.self (s.due ++ AttemptFailed a ∷ JobUnsuccessful ∷ []) s.tail
    (record { due = due; tail = second.tail ∙ first.tail ∙ k.writing.tail; is_flush_wanted = second.flag ∙ first.flag ∙ k.writing.is_flush_wanted }) k)
