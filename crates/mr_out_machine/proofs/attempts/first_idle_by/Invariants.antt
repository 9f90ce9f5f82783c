use Rattle.std.proofs.Common.{◌≡◌}
use Rattle.mr_out_steps.specs.Standing.{first_idle}
use Rattle.mr_out_machine.proofs.attempts.first_idle_by.Given as goal

abbrev pub invariant-loop-number : goal.invariant-loop-number
invariant-loop-number l = l.first ≡ first_idle l.job l.records l.number
