use Rattle.std.proofs.Common.{◌≡◌, ◌≢◌, ◌++◌, ◌∷◌, ℕ, List, sym, ap, ◌∙◌, subst}
use Rattle.std.proofs.lemmas.List.Elements.{recursion_from_All}
use Rattle.mr_history.proofs.Cuts.{Lacks, no_cut, same_cut}
use Rattle.mr_log_entries.specs.Numerals.{number_text}
use Rattle.mr_log_entries.proofs.Lacking.{number_lacks, is_apart}
use Rattle.mr_log_entries.proofs.reading.number_before.Goals as goal

pub returns-in_err-digits-clause-only : goal.returns-in_err-digits-clause-only
returns-in_err-digits-clause-only c n rest h e =
    let lacks = recursion_from_All (λ b. b ≢ c.args.end) c.args.text.now c.in_err-digits.ensures.none in
    absurd (no_cut c.args.end (number_text c.args.base n) rest (subst (Lacks c.args.end) e lacks))

pub returns-in_err-number_in-clause-only : goal.returns-in_err-number_in-clause-only
returns-in_err-number_in-clause-only c n rest h e =
    let cut = c.in_ok-digits.ensures.some in
    let p = same_cut c.args.end c.in_ok-digits.digits.now (number_text c.args.base n) c.in_ok-digits.rest.now rest (recursion_from_All (λ b. b ≢ c.args.end) c.in_ok-digits.digits.now cut.0)
    (number_lacks c.args.end c.args.base n (is_apart c.args.end c.requires.apart) c.requires.low c.requires.high) (sym cut.1 ∙ e) in
    let read = c.in_err-number_in.ensures.only n h p.0 in
    absurd (cc)

pub returns-clause-found : goal.returns-clause-found
returns-clause-found c =
    let cut = c.in_ok-digits.ensures.some in
    let own = c.in_ok-number_in.ensures.found in
    (own.0, cut.1 ∙ ap (λ (l : List ℕ). l ++ c.args.end ∷ c.in_ok-digits.rest.now) own.1)

pub returns-clause-only : goal.returns-clause-only
returns-clause-only c n rest h e =
    let cut = c.in_ok-digits.ensures.some in
    let p = same_cut c.args.end c.in_ok-digits.digits.now (number_text c.args.base n) c.in_ok-digits.rest.now rest (recursion_from_All (λ b. b ≢ c.args.end) c.in_ok-digits.digits.now cut.0)
    (number_lacks c.args.end c.args.base n (is_apart c.args.end c.requires.apart) c.requires.low c.requires.high) (sym cut.1 ∙ e) in
    let read = c.in_ok-number_in.ensures.only n h p.0 in
    let same : c.in_ok-number_in.field-0 ≡ n = cc in
    (same, p.1)
