use Rattle.std.proofs.Common.{arith, ◌≡◌, ap, ◌∙◌}
use Rattle.std.specs.Fmt.{styled_decimal}
use Rattle.mr_ids.specs.Text.{numeral}
use Rattle.mr_ids.proofs.Shown.{decimal-numeral, styled-numeral}
use Rattle.mr_ids.proofs.display.TaskIdDisplay.fmt.Goals as goal

pub returns-clause-writes : goal.returns-clause-writes
returns-clause-writes g c =
    let task = c.args.self.now in
    let start = decimal-numeral task.job.start (omega arith) in
    let job : styled_decimal c.laid_out.result task.job.number ≡ numeral 4 task.job.number = ap (λ s. styled_decimal s task.job.number) c.laid_out.ensures ∙ styled-numeral 4 task.job.number (omega arith) (omega arith) in
    let number : styled_decimal c.laid_out-2.result task.number ≡ numeral 6 task.number = ap (λ s. styled_decimal s task.number) c.laid_out-2.ensures ∙ styled-numeral 6 task.number (omega arith) (omega arith) in
    rw (start, job, number) at c.write.ensures.writes
