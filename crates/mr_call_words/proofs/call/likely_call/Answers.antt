use Rattle.std.proofs.Common.{◌≡◌, rules, Some, ◌∙◌}
use Rattle.std.proofs.lemmas.Result.{IfOk-weaker}
use Rattle.mr_call_words.proofs.Found.{call_apart}
use Rattle.mr_call_words.specs.inner.Opening.{call_opening}
use Rattle.mr_call_words.proofs.call.likely_call.Goals as goal

pub returns-in-Some-opening_named-clause-only : goal.returns-in-Some-opening_named-clause-only
returns-in-Some-opening_named-clause-only c =
    IfOk-weaker c.call_of_rest.result _ _
    (λ found h call ok e.
    let parts = call_apart c.args.words.now c.in-Some.first.now c.in-Some.rest.now call (search rules) e in
    let named : Some c.in-Some-opening_named.opening ≡ Some (call_opening call) = c.in-Some-opening_named.ensures (call_opening call) (c.as_slice.ensures ∙ parts.0) in
    let same : c.in-Some-opening_named.opening ≡ call_opening call = cc in
    h call ok same parts.1)
    c.call_of_rest.ensures.only

pub returns-in-None-clause-only : goal.returns-in-None-clause-only
returns-in-None-clause-only c call ok e =
    let parts = call_apart c.args.words.now c.in-Some.first.now c.in-Some.rest.now call (search rules) e in
    let named = c.in-None.ensures (call_opening call) (c.as_slice.ensures ∙ parts.0) in
    absurd cc
