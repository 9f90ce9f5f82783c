use Rattle.std.proofs.Common.{◌≡◌}
use Rattle.mr_out_steps.specs.Standing.{winners}
use Rattle.mr_out_machine.proofs.standing.winners_in_turn.Given as goal

abbrev pub invariant-loop-number : goal.invariant-loop-number
invariant-loop-number l = l.all ≡ winners l.job l.records l.number
