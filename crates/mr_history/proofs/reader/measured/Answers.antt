use Rattle.std.proofs.Common.{◌≡◌, ◌++◌, codes, Some, sym, ap, ◌∙◌, refl, rules}
use Rattle.mr_history.specs.declared.record.Record.TheVariants.{ReduceSucceeded}
use Rattle.mr_history.proofs.Endings.{only_measured}
use Rattle.mr_history.proofs.reader.measured.Goals as goal

pub returns-in_default-clause-only : goal.returns-in_default-clause-only
returns-in_default-clause-only c r h e =
    let o = only_measured c.args.attempt c.args.text.now r h e in
    let read = c.in_default.ensures.only o.bytes o.small o.text_is in
    absurd (cc)

pub returns-clause-found : goal.returns-clause-found
returns-clause-found c = ((search rules, c.in-Some.ensures.found.0), (refl, ap (λ l. codes ",\"bytes\":" ++ l) c.in-Some.ensures.found.1))

pub returns-clause-only : goal.returns-clause-only
returns-clause-only c r h e =
    let o = only_measured c.args.attempt c.args.text.now r h e in
    let read = c.in-Some.ensures.only o.bytes o.small o.text_is in
    let same : c.in-Some.bytes ≡ o.bytes = cc in
    ap (λ n. Some (ReduceSucceeded c.args.attempt (Some n))) same ∙ ap Some (sym o.is)
