use Rattle.std.proofs.Common.{◌≡◌, Ok, decimal, sym, ◌∙◌, arith, ap, not, refl, true≢false}
use Rattle.std.proofs.lemmas.Slice.Eq.{slice_eq-Decides}
use Rattle.std.proofs.lemmas.Bool.Decides.{Decides-eqb}
use Rattle.std.specs.Prelude.{IsUtf8}
use Rattle.std.proofs.lemmas.Fmt.{parse-decimal}
use Rattle.mr_history.proofs.Lines.{number_utf8}
use Rattle.mr_history.proofs.reader.number.Goals as goal

pub returns-in_default-clause-only : goal.returns-in_default-clause-only
returns-in_default-clause-only c n h e =
    let text : IsUtf8 c.args.word.now = rw e (number_utf8 n h) in
    absurd (c.in_default.ensures.cases.0 text)

pub returns-in_default-parse-clause-only : goal.returns-in_default-parse-clause-only
returns-in_default-parse-clause-only c n h e =
    let read : c.parse.result ≡ Ok n = parse-decimal 32 n c.in-Ok.text.now c.parse.result (omega arith) (omega arith) (c.in-Ok.ensures.cases.0 ∙ e) c.parse.ensures.value.0 in
    absurd (c.in_default-parse.not-Ok n read)

pub returns-then-ne-clause-only : goal.returns-then-ne-clause-only
returns-then-ne-clause-only c n h e =
    let read : c.parse.result ≡ Ok n = parse-decimal 32 n c.in-Ok.text.now c.parse.result (omega arith) (omega arith) (c.in-Ok.ensures.cases.0 ∙ e) c.parse.ensures.value.0 in
    let same : c.in-Ok-parse.n ≡ n = cc in
    let equal : c.format.result.now ≡ c.in-Ok.text.now = c.format.ensures.text ∙ ap decimal same ∙ sym e ∙ sym c.in-Ok.ensures.cases.0 in
    let found = (slice_eq-Decides Decides-eqb c.format.result.now c.in-Ok.text.now _ refl).1 equal in
    absurd (true≢false (sym c.if-ne.true ∙ c.ne.ensures ∙ ap not found))

pub returns-clause-only : goal.returns-clause-only
returns-clause-only c n h e =
    let read : c.parse.result ≡ Ok n = parse-decimal 32 n c.in-Ok.text.now c.parse.result (omega arith) (omega arith) (c.in-Ok.ensures.cases.0 ∙ e) c.parse.ensures.value.0 in
    cc
