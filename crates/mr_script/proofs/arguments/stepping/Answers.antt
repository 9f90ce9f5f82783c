use Rattle.mr_script.specs.Words.{fault_word, container_word}
use Rattle.mr_script.proofs.Words.{one-word, more-words}
use Rattle.mr_script.proofs.Numbers.{container-no-space}
use Rattle.mr_script.proofs.arguments.stepping.Goals as goal

pub returns-in_default-container-clause-none : goal.returns-in_default-container-clause-none
returns-in_default-container-clause-none c = λ d w h e. c.in_default-container.ensures.none d h (one-word c.args.rest.now (container_word d) (fault_word w) (container-no-space d h) c.in_default.ensures.none.1 e).1

pub returns-in_default-container-2-clause-none : goal.returns-in_default-container-2-clause-none
returns-in_default-container-2-clause-none c = λ d w h e. c.in_default-container-2.ensures.none d h (more-words c.args.rest.now c.in-Some.word.now c.in-Some.more.now (container_word d) (fault_word w) (container-no-space d h) c.in-Some.ensures.some.0 c.in-Some.ensures.some.1 e).1

pub returns-in_default-fault-clause-none : goal.returns-in_default-fault-clause-none
returns-in_default-fault-clause-none c = λ d w h e. c.in_default-fault.ensures.none w (more-words c.args.rest.now c.in-Some.word.now c.in-Some.more.now (container_word d) (fault_word w) (container-no-space d h) c.in-Some.ensures.some.0 c.in-Some.ensures.some.1 e).0
