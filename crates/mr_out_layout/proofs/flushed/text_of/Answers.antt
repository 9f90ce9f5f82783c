use Rattle.std.proofs.Common.{◌≡◌, ap, ◌∙◌, arith}
use Rattle.std.specs.Fmt.{styled_decimal}
use Rattle.mr_ids.specs.Text.{numeral}
use Rattle.mr_ids.proofs.Shown.{styled-numeral}
use Rattle.mr_out_layout.proofs.flushed.text_of.Goals as goal

pub returns : goal.returns
returns c =
    let disk : styled_decimal c.laid_out.result c.args.disk ≡ numeral 20 c.args.disk = ap (λ s. styled_decimal s c.args.disk) c.laid_out.ensures ∙ styled-numeral 20 c.args.disk (omega arith) (omega arith) in
    let file : styled_decimal c.laid_out-2.result c.args.file ≡ numeral 20 c.args.file = ap (λ s. styled_decimal s c.args.file) c.laid_out-2.ensures ∙ styled-numeral 20 c.args.file (omega arith) (omega arith) in
    let len : styled_decimal c.laid_out-3.result c.args.len ≡ numeral 20 c.args.len = ap (λ s. styled_decimal s c.args.len) c.laid_out-3.ensures ∙ styled-numeral 20 c.args.len (omega arith) (omega arith) in
    rw (disk, file, len) at c.in_ok-text.ensures.ok
