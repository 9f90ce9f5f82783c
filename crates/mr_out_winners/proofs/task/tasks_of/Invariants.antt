use Rattle.std.proofs.Common.{◌≡◌, map}
use Rattle.mr_out_winners.specs.Tasks.{as_part, parts}
use Rattle.mr_out_winners.proofs.task.tasks_of.Given as goal

abbrev pub invariant-loop-number : goal.invariant-loop-number
invariant-loop-number l = map as_part l.all.items ≡ parts l.job l.suffix l.records l.measured l.number
