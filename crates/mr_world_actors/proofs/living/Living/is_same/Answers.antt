use Rattle.std.proofs.Common.{arith}
use Rattle.mr_world_actors.proofs.Comparing.{living_decide, other_count}
use Rattle.mr_world_actors.proofs.living.Living.is_same.Goals as goal

pub returns-then-len : goal.returns-then-len
returns-then-len c = other_count c.args.self.now c.args.other.now c.len.ensures.ordered c.len-2.ensures.ordered (λ same. omega arith)

pub returns : goal.returns
returns c = living_decide c.args.self.now c.args.other.now c.eq.result c.len.ensures.ordered c.len-2.ensures.ordered c.eq.ensures
