use Rattle.mr_out_program.specs.Turns.{TurnsOf, IsFail}
use Rattle.mr_out_program.proofs.attempts.give_up.Given as goal

abbrev pub invariant-loop : goal.invariant-loop
invariant-loop l = TurnsOf IsFail l.fn.directory l.directory
