use Rattle.std.proofs.Common.{◌<◌, ◌+◌, ◌^◌, sym, ap, ◌∙◌, arith, rules}
use Rattle.mr_history.specs.Line.{width}
use Rattle.mr_history.proofs.Widths.{width-started, width-mapped, width-reduced, width-failed, width-unsuccessful}
use Rattle.mr_history.proofs.line.width.Goals as goal

pub returns-in-AttemptStarted-clause-width : goal.returns-in-AttemptStarted-clause-width
returns-in-AttemptStarted-clause-width c =
    let small : c.in-AttemptStarted.node < 2 ^ 32 = search rules in
    let w = ap width c.in-AttemptStarted.is ∙ width-started c.in-AttemptStarted.attempt c.in-AttemptStarted.node small in
    let t = c.text_len.ensures.len in
    let n = c.number_len.ensures.len in
    omega arith

pub returns-in-MapSucceeded-clause-width : goal.returns-in-MapSucceeded-clause-width
returns-in-MapSucceeded-clause-width c =
    let small : c.in-MapSucceeded.node < 2 ^ 32 = search rules in
    let few : c.in-MapSucceeded.incarnation < 2 ^ 32 = search rules in
    let w = ap width c.in-MapSucceeded.is ∙ width-mapped c.in-MapSucceeded.attempt c.in-MapSucceeded.node c.in-MapSucceeded.incarnation small few in
    let t = c.text_len-in-MapSucceeded.ensures.len in
    let n = c.number_len-in-MapSucceeded.ensures.len in
    let i = c.number_len-in-MapSucceeded-2.ensures.len in
    omega arith

pub returns-in-ReduceSucceeded-clause-width : goal.returns-in-ReduceSucceeded-clause-width
returns-in-ReduceSucceeded-clause-width c =
    let w = ap width c.in-ReduceSucceeded.is ∙ width-reduced c.in-ReduceSucceeded.attempt c.in-ReduceSucceeded.bytes c.bytes_len.ensures.ranges in
    let t = c.text_len-in-ReduceSucceeded.ensures.len in
    let n = c.bytes_len.ensures.len in
    omega arith

pub returns-in-AttemptFailed-clause-width : goal.returns-in-AttemptFailed-clause-width
returns-in-AttemptFailed-clause-width c = ap (λ l. 32 + l) c.text_len-in-AttemptFailed.ensures.len ∙ sym (ap width c.in-AttemptFailed.is ∙ width-failed c.in-AttemptFailed.attempt)

pub returns-in-JobUnsuccessful-clause-width : goal.returns-in-JobUnsuccessful-clause-width
returns-in-JobUnsuccessful-clause-width c = sym (ap width c.in-JobUnsuccessful.is ∙ width-unsuccessful)
