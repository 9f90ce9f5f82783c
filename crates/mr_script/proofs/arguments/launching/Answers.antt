use Rattle.std.specs.Prelude.{decimal}
use Rattle.mr_script.specs.Words.{task_words}
use Rattle.mr_script.proofs.Words.{front-is, rest-is, no-cut}
use Rattle.mr_script.proofs.Numbers.{no-space, low}
use Rattle.mr_script.proofs.arguments.launching.Goals as goal

pub returns-in_default-clause-none : goal.returns-in_default-clause-none
returns-in_default-clause-none c = λ k t n h g l e. no-cut 32 c.args.rest.now (decimal k) (task_words t (decimal n)) (no-space k (low k h)) c.in_default.ensures.none.1 e

pub returns-in_default-generation-clause-none : goal.returns-in_default-generation-clause-none
returns-in_default-generation-clause-none c = λ k t n h g l e.
    let read = c.generation.ensures.only k h (front-is 32 c.args.rest.now c.in-Some.word.now (decimal k) (task_words t (decimal n)) (no-space k (low k h)) c.in-Some.ensures.some.0 e) in
    absurd (cc)

pub returns-in_default-task_and_node-clause-none : goal.returns-in_default-task_and_node-clause-none
returns-in_default-task_and_node-clause-none c = λ k t n h g l e. c.in_default-task_and_node.ensures.none t n g l (rest-is 32 c.args.rest.now c.in-Some.more.now (decimal k) (task_words t (decimal n)) (no-space k (low k h)) c.in-Some.ensures.some.1 e)
