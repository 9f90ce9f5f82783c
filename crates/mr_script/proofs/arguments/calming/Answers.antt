use Rattle.std.specs.Prelude.{decimal}
use Rattle.mr_script.specs.Words.{until_words}
use Rattle.mr_script.proofs.Words.{one-word, more-words}
use Rattle.mr_script.proofs.Numbers.{no-space, low}
use Rattle.mr_script.proofs.arguments.calming.Goals as goal

pub returns-in_default-generation-clause-none : goal.returns-in_default-generation-clause-none
returns-in_default-generation-clause-none c = λ k u h e.
    let read = c.generation.ensures.only k h (one-word c.args.rest.now (decimal k) (until_words u) (no-space k (low k h)) c.in_default.ensures.none.1 e).1 in
    absurd (cc)

pub returns-in_default-generation-2-clause-none : goal.returns-in_default-generation-2-clause-none
returns-in_default-generation-2-clause-none c = λ k u h e.
    let parts = more-words c.args.rest.now c.in-Some.word.now c.in-Some.more.now (decimal k) (until_words u) (no-space k (low k h)) c.in-Some.ensures.some.0 c.in-Some.ensures.some.1 e in
    let read = c.generation-2.ensures.only k h parts.1 in
    absurd (cc)

pub returns-in_default-until-clause-none : goal.returns-in_default-until-clause-none
returns-in_default-until-clause-none c = λ k u h e. c.in_default-until.ensures.none u (more-words c.args.rest.now c.in-Some.word.now c.in-Some.more.now (decimal k) (until_words u) (no-space k (low k h)) c.in-Some.ensures.some.0 c.in-Some.ensures.some.1 e).0
