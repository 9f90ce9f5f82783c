use Rattle.std.proofs.Common.{◌≡◌, Ok, sym, ◌∙◌, rules}
use Rattle.std.specs.Prelude.{IsUtf8}
use Rattle.mr_history.proofs.Lines.{attempt_utf8}
use Rattle.mr_history.proofs.reader.attempt_in.Goals as goal

pub returns-in_default-clause-only : goal.returns-in_default-clause-only
returns-in_default-clause-only c a h e =
    let text : IsUtf8 c.args.name.now = rw e (attempt_utf8 a) in
    absurd (c.in_default.ensures.cases.0 text)

pub returns-in-Err-clause-only : goal.returns-in-Err-clause-only
returns-in-Err-clause-only c a h e =
    let read : c.parse.result ≡ Ok a = c.parse.ensures.only a h (c.in-Ok.ensures.cases.0 ∙ e) in
    absurd (cc)

pub returns-in-Ok-parse-clause-found : goal.returns-in-Ok-parse-clause-found
returns-in-Ok-parse-clause-found c = (search rules, sym c.in-Ok.ensures.cases.0 ∙ c.in-Ok-parse.ensures.found)

pub returns-in-Ok-parse-clause-only : goal.returns-in-Ok-parse-clause-only
returns-in-Ok-parse-clause-only c a h e =
    let read : c.parse.result ≡ Ok a = c.parse.ensures.only a h (c.in-Ok.ensures.cases.0 ∙ e) in
    cc
