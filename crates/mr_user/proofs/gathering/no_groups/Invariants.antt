use Rattle.std.proofs.Common.{◌≡◌, [], replicate}
use Rattle.mr_user.proofs.gathering.no_groups.Given as goal

abbrev pub invariant-loop : goal.invariant-loop
invariant-loop g l = l.parts.items ≡ replicate l.counter []
