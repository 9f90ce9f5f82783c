use Rattle.std.proofs.Common.{arith, ◌≡◌, ap, ◌∙◌}
use Rattle.std.specs.Fmt.{styled_decimal}
use Rattle.mr_ids.specs.declared.id.TaskId.{TaskId}
use Rattle.mr_ids.specs.Text.{numeral}
use Rattle.mr_ids.proofs.Shown.{decimal-numeral, styled-numeral}
use Rattle.mr_ids.proofs.display.AttemptIdDisplay.fmt.Goals as goal

pub returns-clause-writes : goal.returns-clause-writes
returns-clause-writes g c =
    let task : TaskId = c.task-task.result in
    let is : task ≡ c.args.self.now.task = c.task-task.ensures in
    let last : c.number-attempt.result ≡ c.args.self.now.number = c.number-attempt.ensures.value in
    let start = decimal-numeral task.job.start (omega arith) in
    let job : styled_decimal c.laid_out.result task.job.number ≡ numeral 4 task.job.number = ap (λ s. styled_decimal s task.job.number) c.laid_out.ensures ∙ styled-numeral 4 task.job.number (omega arith) (omega arith) in
    let number : styled_decimal c.laid_out-2.result task.number ≡ numeral 6 task.number = ap (λ s. styled_decimal s task.number) c.laid_out-2.ensures ∙ styled-numeral 6 task.number (omega arith) (omega arith) in
    let attempt = decimal-numeral c.number-attempt.result (omega arith) in
    rw (start, job, number, attempt, is, last) at c.write.ensures.writes
