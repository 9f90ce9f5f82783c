use Rattle.std.proofs.Common.{◌≡◌, ℕ, Vec, Global, ◌∙◌, ap, sym, subst, arith}
use Rattle.std.specs.Fmt.{styled_decimal}
use Rattle.mr_ids.specs.Text.{numeral}
use Rattle.mr_ids.proofs.Shown.{styled-numeral}
use Rattle.mr_paths.specs.Layout.{part}
use Rattle.mr_paths.specs.Path.{IsName}
use Rattle.mr_paths.proofs.NameBytes.{part_is_name}
use Rattle.mr_paths.proofs.layout.part_name.Goals as goal

pub from_bytes-requires : goal.from_bytes-requires
unfolding part
from_bytes-requires c =
    let shown : styled_decimal c.laid_out.result c.args.reduce ≡ numeral 5 c.args.reduce = ap (λ s. styled_decimal s c.args.reduce) c.laid_out.ensures ∙ styled-numeral 5 c.args.reduce (omega arith) (omega arith) in
    let text = rw shown at c.in_ok-text.ensures.ok in
    subst IsName (sym (ap (λ (v : Vec ℕ Global). v.items) c.into_bytes.ensures.value ∙ text)) (part_is_name c.args.reduce (omega arith))

pub returns : goal.returns
unfolding part
returns c =
    let shown : styled_decimal c.laid_out.result c.args.reduce ≡ numeral 5 c.args.reduce = ap (λ s. styled_decimal s c.args.reduce) c.laid_out.ensures ∙ styled-numeral 5 c.args.reduce (omega arith) (omega arith) in
    let text = rw shown at c.in_ok-text.ensures.ok in
    c.from_bytes.ensures ∙ (ap (λ (v : Vec ℕ Global). v.items) c.into_bytes.ensures.value ∙ text)
