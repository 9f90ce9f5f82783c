use Rattle.std.proofs.Common.{ap}
use Rattle.mr_out_words.specs.declared.asked.Command.TheVariants.{Fail}
use Rattle.mr_out_words.specs.declared.asked.Failing.{Failing}
use Rattle.mr_out_program.proofs.Outputs.{fail_one_told, fail_task_told, fail_all_told}
use Rattle.mr_out_program.proofs.answering.fail.Goals as goal

pub returns-in_ok-open-in-One : goal.returns-in_ok-open-in-One
returns-in_ok-open-in-One c =
    fail_one_told (Fail c.args.failing) c.in-One.attempt c.in_ok-open-in-One.field-0 c.fail_one.new.directory c.fail_one.result (ap (λ (x : Failing). Fail x) c.in-One.is) c.in_ok-open-in-One.ensures c.fail_one.ensures

pub returns-in_ok-open-in-Task : goal.returns-in_ok-open-in-Task
returns-in_ok-open-in-Task c =
    fail_task_told (Fail c.args.failing) c.in-Task.task c.in_ok-open-in-Task.field-0 c.fail_task.new.directory c.fail_task.result (ap (λ (x : Failing). Fail x) c.in-Task.is) c.in_ok-open-in-Task.ensures c.fail_task.ensures.turns c.fail_task.ensures.says

pub returns-in_ok-open-in-All : goal.returns-in_ok-open-in-All
returns-in_ok-open-in-All c =
    fail_all_told (Fail c.args.failing) c.in_ok-open-in-All.field-0 c.fail_all.new.directory c.fail_all.result (ap (λ (x : Failing). Fail x) c.in-All.is) c.in_ok-open-in-All.ensures c.fail_all.ensures.turns c.fail_all.ensures.says
