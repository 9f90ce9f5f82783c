use Rattle.std.proofs.Common.{arith}
use Rattle.std.specs.Prelude.{decimal}
use Rattle.mr_script.specs.Expected.{winner_word}
use Rattle.mr_script.proofs.Words.{front-is, rest-is, no-cut}
use Rattle.mr_script.proofs.Numbers.{no-space}
use Rattle.mr_script.proofs.expectation.winner_of.Goals as goal

pub returns-in_default-clause-none : goal.returns-in_default-clause-none
returns-in_default-clause-none c = λ r won h g e. no-cut 32 c.args.rest.now (decimal r) (winner_word won) (no-space r (omega (arith, h))) c.in_default.ensures.none.1 e

pub returns-in_default-number-clause-none : goal.returns-in_default-number-clause-none
returns-in_default-number-clause-none c = λ r won h g e.
    let read = c.number.ensures.only r h (front-is 32 c.args.rest.now c.in-Some.word.now (decimal r) (winner_word won) (no-space r (omega (arith, h))) c.in-Some.ensures.some.0 e) in
    absurd (cc)

pub returns-in_default-winner-clause-none : goal.returns-in_default-winner-clause-none
returns-in_default-winner-clause-none c = λ r won h g e. c.in_default-winner.ensures.none won g (rest-is 32 c.args.rest.now c.in-Some.more.now (decimal r) (winner_word won) (no-space r (omega (arith, h))) c.in-Some.ensures.some.1 e)
