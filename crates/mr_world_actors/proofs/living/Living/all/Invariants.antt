use Rattle.std.proofs.Common.{◌≡◌, ◌++◌}
use Rattle.std.specs.BTreeMap.{keys}
use Rattle.mr_world_actors.proofs.living.Living.all.Given as goal

abbrev pub invariant-loop-c : goal.invariant-loop-c
invariant-loop-c l = l.all.items ++ l.c-iterator ≡ keys l.self.machines
