use Rattle.mr_user.proofs.LeastGroup.{least_first}
use Rattle.mr_user.proofs.laws.least_group_first.Goals as goal

pub returns : goal.returns
returns g c k ps same some low = least_first g.K.Ord.cmp g.met.K.Ord.total same k ps some low
