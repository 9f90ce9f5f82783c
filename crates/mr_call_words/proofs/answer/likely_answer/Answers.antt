use Rattle.std.proofs.Common.{◌≡◌, rules, Some, ◌∙◌}
use Rattle.std.proofs.lemmas.Result.{IfOk-weaker}
use Rattle.mr_call_words.proofs.Found.{answer_apart}
use Rattle.mr_call_words.specs.inner.Opening.{answer_opening}
use Rattle.mr_call_words.proofs.answer.likely_answer.Goals as goal

pub returns-in-Some-opening_named-clause-only : goal.returns-in-Some-opening_named-clause-only
returns-in-Some-opening_named-clause-only c =
    IfOk-weaker c.answer_of_rest.result _ _
    (λ found h told ok e.
    let parts = answer_apart c.args.words.now c.in-Some.first.now c.in-Some.rest.now told (search rules) e in
    let named : Some c.in-Some-opening_named.opening ≡ Some (answer_opening told) = c.in-Some-opening_named.ensures (answer_opening told) (c.as_slice.ensures ∙ parts.0) in
    let same : c.in-Some-opening_named.opening ≡ answer_opening told = cc in
    h told ok same parts.1)
    c.answer_of_rest.ensures.only

pub returns-in-None-clause-only : goal.returns-in-None-clause-only
returns-in-None-clause-only c told ok e =
    let parts = answer_apart c.args.words.now c.in-Some.first.now c.in-Some.rest.now told (search rules) e in
    let named = c.in-None.ensures (answer_opening told) (c.as_slice.ensures ∙ parts.0) in
    absurd cc
