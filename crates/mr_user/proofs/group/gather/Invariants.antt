use Rattle.std.proofs.Common.{◌≡◌, map, []}
use Rattle.std.specs.List.{fold}
use Rattle.mr_user.specs.Groups.{with_pair}
use Rattle.mr_user.proofs.group.gather.Given as goal

abbrev pub invariant-loop-key : goal.invariant-loop-key
invariant-loop-key g l = map (λ g. (g.0, g.1.items)) l.groups.items ≡ fold (with_pair g.K.Ord.cmp) [] l.yielded
