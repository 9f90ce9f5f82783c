use Rattle.std.specs.Prelude.{decimal}
use Rattle.mr_script.proofs.Words.{front-is, rest-is, no-cut}
use Rattle.mr_script.proofs.Numbers.{no-space, low}
use Rattle.mr_script.proofs.arguments.with_long.Goals as goal

pub returns-in_default-clause-none : goal.returns-in_default-clause-none
returns-in_default-clause-none c = λ k n h g e. no-cut 32 c.args.rest.now (decimal k) (decimal n) (no-space k (low k h)) c.in_default.ensures.none.1 e

pub returns-in_default-generation-clause-none : goal.returns-in_default-generation-clause-none
returns-in_default-generation-clause-none c = λ k n h g e.
    let read = c.generation.ensures.only k h (front-is 32 c.args.rest.now c.in-Some.word.now (decimal k) (decimal n) (no-space k (low k h)) c.in-Some.ensures.some.0 e) in
    absurd (cc)

pub returns-in_default-long_number-clause-none : goal.returns-in_default-long_number-clause-none
returns-in_default-long_number-clause-none c = λ k n h g e.
    let read = c.long_number.ensures.only n g (rest-is 32 c.args.rest.now c.in-Some.more.now (decimal k) (decimal n) (no-space k (low k h)) c.in-Some.ensures.some.1 e) in
    absurd (cc)
