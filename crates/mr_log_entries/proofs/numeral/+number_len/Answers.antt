use Rattle.std.proofs.Common.{◌+◌, ◌/◌, ◌%◌, ◌∷◌, [], length, sym, ap, ◌∙◌, length-append}
use Rattle.mr_log_entries.specs.Numerals.{digit_byte, number_text}
use Rattle.mr_log_entries.proofs.Digits.{one_digit, more_digits}
use Rattle.mr_log_entries.proofs.numeral.+number_len.Goals as goal

pub returns-then-n-base-clause-len : goal.returns-then-n-base-clause-len
returns-then-n-base-clause-len t c = sym (ap length (one_digit c.args.base c.args.n c.requires.low c.if-n-base.true))

pub returns-else-n-base-clause-len : goal.returns-else-n-base-clause-len
returns-else-n-base-clause-len t c =
    ap (λ l. l + 1) c.number_len.ensures.len
    ∙ sym (ap length (more_digits c.args.base c.args.n c.requires.low c.if-n-base.false) ∙ length-append (number_text c.args.base (c.args.n / c.args.base)) (digit_byte (c.args.n % c.args.base) ∷ []))
