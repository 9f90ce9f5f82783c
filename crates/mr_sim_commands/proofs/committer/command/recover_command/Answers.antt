use Rattle.mr_sim_commands.proofs.committer.Recoveries.{none_alone, none_of_two}
use Rattle.mr_sim_commands.proofs.committer.command.recover_command.Goals as goal

pub returns-in-None-task-clause-none : goal.returns-in-None-task-clause-none
returns-in-None-task-clause-none c = none_alone c.args.rest.now c.in-None.ensures.none.1 (λ t h e. let read = c.task.ensures.only t h e in cc)

pub returns-in-None-number-clause-none : goal.returns-in-None-number-clause-none
returns-in-None-number-clause-none c =
    none_of_two c.args.rest.now c.in-Some.word.now c.in-Some.length.now c.in-Some.ensures.some.0 c.in-Some.ensures.some.1
    (λ t bytes h l w m. let read = c.number.ensures.only bytes l m in cc)

pub returns-in-None-task-2-clause-none : goal.returns-in-None-task-2-clause-none
returns-in-None-task-2-clause-none c =
    none_of_two c.args.rest.now c.in-Some.word.now c.in-Some.length.now c.in-Some.ensures.some.0 c.in-Some.ensures.some.1
    (λ t bytes h l w m. let read = c.task-in-Some.ensures.only t h w in cc)
