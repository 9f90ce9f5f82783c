use Rattle.std.proofs.Common.{subst, rules}
use Rattle.mr_explore_workers.specs.inner.Calls.{Leaves}
use Rattle.mr_explore_workers.proofs.pair.both.Goals as goal

pub returns-clause-first : goal.returns-clause-first
returns-clause-first g c = subst (λ (y : g.row.A.Denot). Leaves g.F.Fn c.args.first.now c.args.a.now tt y) (search rules) c.join_mut-answer.ensures.0.met.1

pub returns-clause-second : goal.returns-clause-second
returns-clause-second g c = subst (λ (y : g.row.B.Denot). Leaves g.G.Fn c.args.second.now c.args.b.now c.join_mut-answer.result.1 y) (search rules) c.join_mut-answer.ensures.1.met.1
