use Rattle.std.proofs.Common.{sym, ap, ◌∙◌}
use Rattle.mr_ids.specs.Text.{numeral}
use Rattle.mr_ids.proofs.Numerals.{spelled-numeral, tight-spelled}
use Rattle.mr_out_layout.proofs.names.spelled.Goals as goal

pub returns-then-is_spelled : goal.returns-then-is_spelled
returns-then-is_spelled c =
    let all = c.in_ok-n.ensures.all in
    spelled-numeral c.args.width c.args.bytes.now all (tight-spelled c.args.width c.args.bytes.now all ∙ sym c.is_spelled.ensures ∙ c.if-is_spelled.true)
    ∙ ap (numeral c.args.width) (sym c.in_ok-n.ensures.value)
