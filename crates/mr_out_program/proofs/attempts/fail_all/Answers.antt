use Rattle.mr_out_program.specs.Turns.{IsFail}
use Rattle.mr_out_program.proofs.Turning.{turns_both}
use Rattle.mr_out_program.proofs.attempts.fail_all.Goals as goal

pub returns-in_err-give_up-clause-turns : goal.returns-in_err-give_up-clause-turns
returns-in_err-give_up-clause-turns c = turns_both IsFail c.args.directory.now c.loop-task.directory c.give_up.new.directory c.loop-task.invariant c.give_up.ensures

pub loop-task-preserved : goal.loop-task-preserved
loop-task-preserved c = turns_both IsFail c.args.directory.now c.loop-task.directory c.give_up.new.directory c.loop-task.invariant c.give_up.ensures
