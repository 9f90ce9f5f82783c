use Rattle.std.proofs.Common.{arith, ◌≡◌, ap, ◌∙◌}
use Rattle.std.specs.Fmt.{styled_decimal}
use Rattle.mr_ids.specs.Text.{numeral}
use Rattle.mr_ids.proofs.Shown.{decimal-numeral, styled-numeral}
use Rattle.mr_out_layout.proofs.names.Front.of.Goals as goal

pub invariant_of-result : goal.invariant_of-result
invariant_of-result c =
    let job = c.args.job in
    let start = decimal-numeral job.start (omega arith) in
    let number : styled_decimal c.laid_out.result job.number ≡ numeral 4 job.number = ap (λ s. styled_decimal s job.number) c.laid_out.ensures ∙ styled-numeral 4 job.number (omega arith) (omega arith) in
    rw (start, number) at c.in_ok-text.ensures.ok
