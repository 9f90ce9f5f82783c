use Rattle.mr_out_program.specs.Turns.{TurnsOf, IsFail}
use Rattle.mr_out_program.proofs.attempts.fail_all.Given as goal

abbrev pub invariant-loop-task : goal.invariant-loop-task
invariant-loop-task l = TurnsOf IsFail l.fn.directory l.directory
