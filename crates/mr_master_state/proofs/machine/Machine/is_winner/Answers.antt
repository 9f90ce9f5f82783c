use Rattle.std.proofs.Common.{◌∙◌, ap, Option}
use Rattle.mr_ids.specs.Attempt.{Attempt}
use Rattle.mr_ids.specs.declared.id.TaskId.{TaskId}
use Rattle.mr_master_model.specs.Readings.{succeeded}
use Rattle.mr_master_model.specs.Hearing.{is_attempt}
use Rattle.mr_master_state.proofs.Lying.{winner-of-job}
use Rattle.mr_master_state.proofs.machine.Machine.is_winner.Goals as goal

pub returns-in-Some : goal.returns-in-Some
returns-in-Some c = λ w s keeps.
    let a = c.args.attempt in
    c.is_same.ensures ∙ ap (λ (o : Option Attempt). is_attempt o a) (c.in-Some.ensures w s keeps ∙ ap (λ (t : TaskId). succeeded w s t) c.task.ensures) ∙ winner-of-job _ w s a keeps

pub returns-in-None : goal.returns-in-None
returns-in-None c = λ w s keeps.
    let a = c.args.attempt in
    ap (λ (o : Option Attempt). is_attempt o a) (c.in-None.ensures w s keeps ∙ ap (λ (t : TaskId). succeeded w s t) c.task.ensures) ∙ winner-of-job _ w s a keeps
