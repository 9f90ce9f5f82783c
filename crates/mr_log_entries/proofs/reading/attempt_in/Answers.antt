use Rattle.std.proofs.Common.{◌≡◌, sym, arith}
use Rattle.mr_log_entries.specs.Numerals.{number_text}
use Rattle.mr_log_entries.proofs.reading.attempt_in.Goals as goal

pub returns-in_err-task-clause-only : goal.returns-in_err-task-clause-only
returns-in_err-task-clause-only c a of e = let few = of.task in absurd (c.in_err-task.ensures.only a.task.number (number_text 10 a.number) (omega arith) e)

pub returns-in_err-number-clause-only : goal.returns-in_err-number-clause-only
returns-in_err-number-clause-only c a of e =
    let few = of.task in
    let small = of.number in
    let cut = c.in_ok-task.ensures.only a.task.number (number_text 10 a.number) (omega arith) e in
    let read = c.in_err-number.ensures.only a.number (omega arith) cut.1 in
    absurd (cc)

pub returns-clause-only : goal.returns-clause-only
returns-clause-only c a of e =
    let few = of.task in
    let small = of.number in
    let cut = c.in_ok-task.ensures.only a.task.number (number_text 10 a.number) (omega arith) e in
    let read = c.in_ok-number.ensures.only a.number (omega arith) cut.1 in
    let same : c.in_ok-number.number ≡ a.number = cc in
    c.attempt_of.ensures.only a of (sym cut.0) (sym same)
