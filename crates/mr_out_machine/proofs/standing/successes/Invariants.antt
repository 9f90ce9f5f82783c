use Rattle.std.proofs.Common.{◌≡◌, take, filter}
use Rattle.mr_out_machine.specs.Successes.{tells_success}
use Rattle.mr_out_machine.proofs.standing.successes.Given as goal

abbrev pub invariant-loop-item : goal.invariant-loop-item
invariant-loop-item l = l.kept.items ≡ filter tells_success (take l.item-index l.records)
