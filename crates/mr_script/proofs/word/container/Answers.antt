use Rattle.std.specs.Prelude.{decimal}
use Rattle.mr_script.proofs.Words.{front-is, rest-is, no-cut}
use Rattle.mr_script.proofs.Numbers.{no-stop, low}
use Rattle.mr_script.proofs.word.container.Goals as goal

pub returns-in_default-clause-none : goal.returns-in_default-clause-none
returns-in_default-clause-none c = λ d h e. no-cut 46 c.args.word.now (decimal d.app) (decimal d.number) (no-stop d.app (low d.app h.0)) c.in_default.ensures.none.1 e

pub returns-in_default-generation-clause-none : goal.returns-in_default-generation-clause-none
returns-in_default-generation-clause-none c = λ d h e.
    let front = front-is 46 c.args.word.now c.in-Some.front.now (decimal d.app) (decimal d.number) (no-stop d.app (low d.app h.0)) c.in-Some.ensures.some.0 e in
    let read = c.generation.ensures.only d.app h.0 front in
    absurd (cc)

pub returns-in_default-number-clause-none : goal.returns-in_default-number-clause-none
returns-in_default-number-clause-none c = λ d h e.
    let rest = rest-is 46 c.args.word.now c.in-Some.rest.now (decimal d.app) (decimal d.number) (no-stop d.app (low d.app h.0)) c.in-Some.ensures.some.1 e in
    let read = c.number.ensures.only d.number h.1 rest in
    absurd (cc)
