use Rattle.std.proofs.Common.{◌++◌, ◌∷◌, [], ℕ, List, ◌/◌, ◌%◌, sym, ap, ◌∙◌, append_assoc}
use Rattle.std.proofs.lemmas.Result.{on_ok_weaker}
use Rattle.std.specs.String.{string_bytes}
use Rattle.mr_log_entries.specs.Numerals.{digit_byte, number_text}
use Rattle.mr_log_entries.proofs.Digits.{one_digit, more_digits}
use Rattle.mr_log_entries.proofs.numeral.+push_number.Goals as goal

pub returns-then-n-base : goal.returns-then-n-base
returns-then-n-base t c = on_ok_weaker c.push_digit.result (λ e. e ∙ ap (λ (l : List ℕ). string_bytes c.args.out.now ++ l) (sym (one_digit c.args.base c.args.n c.requires.low c.if-n-base.true))) c.push_digit.ensures

pub returns : goal.returns
returns t c = on_ok_weaker c.push_digit-2.result
    (λ e. e ∙ ap (λ (l : List ℕ). l ++ digit_byte (c.args.n % c.args.base) ∷ []) c.in_ok-push_number.ensures
    ∙ append_assoc (string_bytes c.args.out.now) (number_text c.args.base (c.args.n / c.args.base)) (digit_byte (c.args.n % c.args.base) ∷ [])
    ∙ ap (λ (l : List ℕ). string_bytes c.args.out.now ++ l) (sym (more_digits c.args.base c.args.n c.requires.low c.if-n-base.false)))
    c.push_digit-2.ensures
