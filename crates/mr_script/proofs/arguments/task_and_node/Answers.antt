use Rattle.std.proofs.Common.{arith}
use Rattle.std.specs.Prelude.{decimal, ◌++◌, ◌∷◌}
use Rattle.mr_script.specs.Words.{kind_word}
use Rattle.mr_script.proofs.Words.{front-is, rest-is, no-cut}
use Rattle.mr_script.proofs.Numbers.{no-space, kind-no-space}
use Rattle.mr_script.proofs.arguments.task_and_node.Goals as goal

pub returns-in_default-clause-none : goal.returns-in_default-clause-none
returns-in_default-clause-none c = λ t n g l e. no-cut 32 c.args.rest.now (kind_word t.kind) (decimal t.number ++ 32 ∷ decimal n) (kind-no-space t.kind) c.in_default.ensures.none.1 e

pub returns-in_default-kind-clause-none : goal.returns-in_default-kind-clause-none
returns-in_default-kind-clause-none c = λ t n g l e. c.in_default-kind.ensures.none t.kind (front-is 32 c.args.rest.now c.in-Some.word.now (kind_word t.kind) (decimal t.number ++ 32 ∷ decimal n) (kind-no-space t.kind) c.in-Some.ensures.some.0 e)

pub returns-in_default-split_once-clause-none : goal.returns-in_default-split_once-clause-none
returns-in_default-split_once-clause-none c = λ t n g l e. no-cut 32 c.in-Some.more.now (decimal t.number) (decimal n) (no-space t.number (omega (arith, g.1))) c.in_default-split_once.ensures.none.1 (rest-is 32 c.args.rest.now c.in-Some.more.now (kind_word t.kind) (decimal t.number ++ 32 ∷ decimal n) (kind-no-space t.kind) c.in-Some.ensures.some.1 e)

pub returns-in_default-number-clause-none : goal.returns-in_default-number-clause-none
returns-in_default-number-clause-none c = λ t n g l e.
    let read = c.number.ensures.only t.number g.1 (front-is 32 c.in-Some.more.now c.in-Some-split_once.front.now (decimal t.number) (decimal n) (no-space t.number (omega (arith, g.1))) c.in-Some-split_once.ensures.some.0 (rest-is 32 c.args.rest.now c.in-Some.more.now (kind_word t.kind) (decimal t.number ++ 32 ∷ decimal n) (kind-no-space t.kind) c.in-Some.ensures.some.1 e)) in
    absurd (cc)

pub returns-in_default-number-2-clause-none : goal.returns-in_default-number-2-clause-none
returns-in_default-number-2-clause-none c = λ t n g l e.
    let read = c.number-2.ensures.only n l (rest-is 32 c.in-Some.more.now c.in-Some-split_once.last.now (decimal t.number) (decimal n) (no-space t.number (omega (arith, g.1))) c.in-Some-split_once.ensures.some.1 (rest-is 32 c.args.rest.now c.in-Some.more.now (kind_word t.kind) (decimal t.number ++ 32 ∷ decimal n) (kind-no-space t.kind) c.in-Some.ensures.some.1 e)) in
    absurd (cc)
