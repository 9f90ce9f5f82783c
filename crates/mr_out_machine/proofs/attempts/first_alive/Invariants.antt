use Rattle.std.proofs.Common.{◌≡◌, drop}
use Rattle.mr_out_steps.specs.Standing.{first_alive}
use Rattle.mr_out_machine.proofs.attempts.first_alive.Given as goal

abbrev pub invariant-loop-told : goal.invariant-loop-told
invariant-loop-told l = first_alive l.records l.task l.records ≡ first_alive l.records l.task (drop l.told-index l.records)
