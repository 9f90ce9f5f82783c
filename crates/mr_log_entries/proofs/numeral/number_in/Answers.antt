use Rattle.std.proofs.Common.{◌≡◌, ◌<◌, ◌^◌, Some, map, true, sym, ap, ◌∙◌, true≢false, arith}
use Rattle.std.proofs.lemmas.Option.{IfSome_then}
use Rattle.std.specs.Int.Digits.{number_from_digits}
use Rattle.mr_log_entries.specs.Numerals.{digit_byte, number_text}
use Rattle.mr_log_entries.proofs.Digits.{is_tight_text, spelled, tight_number}
use Rattle.mr_log_entries.proofs.numeral.number_in.Goals as goal

pub returns-then-is_tight-clause-found : goal.returns-then-is_tight-clause-found
returns-then-is_tight-clause-found c = IfSome_then c.value_of.result c.value_of.ensures.found (λ n h.
    let tight : is_tight_text (map digit_byte h.1) ≡ true = ap is_tight_text (sym h.2) ∙ sym c.is_tight.ensures ∙ c.if-is_tight.true in
    (h.0, h.2 ∙ sym (tight_number c.args.base h.1 c.requires.low h.3 tight) ∙ ap (number_text c.args.base) (sym h.4)))

pub returns-then-is_tight-clause-only : goal.returns-then-is_tight-clause-only
returns-then-is_tight-clause-only c n fits e =
    let s = spelled c.args.base n c.requires.low in
    let value = s.value in
    let less : number_from_digits c.args.base s.digits < 2 ^ 64 = omega arith in
    c.value_of.ensures.only s.digits s.below (e ∙ s.is) less ∙ ap Some value

pub returns-else-is_tight-clause-only : goal.returns-else-is_tight-clause-only
returns-else-is_tight-clause-only c n fits e =
    let s = spelled c.args.base n c.requires.low in
    absurd (true≢false (sym s.tight ∙ ap is_tight_text (sym (e ∙ s.is)) ∙ sym c.is_tight.ensures ∙ c.if-is_tight.false))
