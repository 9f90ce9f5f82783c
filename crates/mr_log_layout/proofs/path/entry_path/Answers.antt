use Rattle.std.proofs.Common.{◌≡◌, ap, ◌∙◌, arith}
use Rattle.std.specs.Fmt.{styled_decimal}
use Rattle.mr_ids.specs.Text.{numeral}
use Rattle.mr_ids.proofs.Shown.{styled-numeral}
use Rattle.mr_log_layout.proofs.path.entry_path.Goals as goal

pub returns : goal.returns
returns c =
    let shown : styled_decimal c.laid_out.result c.args.number ≡ numeral 8 c.args.number = ap (λ s. styled_decimal s c.args.number) c.laid_out.ensures ∙ styled-numeral 8 c.args.number (omega arith) (omega arith) in
    rw shown at c.in_ok-text.ensures.ok
