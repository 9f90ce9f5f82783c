use Rattle.std.proofs.Common.{◌≡◌, ◌++◌, codes, Some, sym, ap, ◌∙◌, refl, rules}
use Rattle.mr_history.specs.declared.record.Record.TheVariants.{AttemptStarted}
use Rattle.mr_history.proofs.Endings.{only_started}
use Rattle.mr_history.proofs.reader.started.Goals as goal

pub returns-in_default-clause-only : goal.returns-in_default-clause-only
returns-in_default-clause-only c r h e =
    let o = only_started c.args.attempt c.args.text.now r h e in
    let read = c.in_default.ensures.only o.node o.small o.text_is in
    absurd (cc)

pub returns-clause-found : goal.returns-clause-found
returns-clause-found c = ((search rules, c.in-Some.ensures.found.0), (refl, ap (λ l. codes ",\"event\":\"started\",\"node\":" ++ l) c.in-Some.ensures.found.1))

pub returns-clause-only : goal.returns-clause-only
returns-clause-only c r h e =
    let o = only_started c.args.attempt c.args.text.now r h e in
    let read = c.in-Some.ensures.only o.node o.small o.text_is in
    let same : c.in-Some.node ≡ o.node = cc in
    ap (λ n. Some (AttemptStarted c.args.attempt n)) same ∙ ap Some (sym o.is)
