use Rattle.mr_explore_workers.proofs.Dividing.{next_taken, none_taken_next}
use Rattle.mr_explore_workers.proofs.leader.Leader.take_next.Goals as goal

pub returns-in_err-round-clause-next : goal.returns-in_err-round-clause-next
returns-in_err-round-clause-next g c =
    none_taken_next g.R.Run.steps g.R.AlikeRun.rest g.R.AlikeRun.before g.R.AlikeRun.void g.R.AlikeRun.like g.R.AlikeRun.ends g.R.NotedRun.end g.R.NotedRun.events (λ r. r.is_last) (λ r. r.parts.items) c.args.is_last c.in_err-round.field-0.0 c.from_residual.result c.args.self.now.search c.take_round.new.search c.args.self.now.noted c.take_round.new.noted c.if-is_last.false c.from_residual.ensures.1 c.in_err-round.ensures.fault

pub returns-clause-next : goal.returns-clause-next
returns-clause-next g c = next_taken g.R.Run.steps g.R.AlikeRun.rest g.R.AlikeRun.before g.R.AlikeRun.void g.R.AlikeRun.like g.R.AlikeRun.ends g.R.NotedRun.end g.R.NotedRun.events (λ r. r.is_last) (λ r. r.parts.items) c.args.is_last c.in_ok-round.round c.args.self.now.search c.take_round.new.search c.args.self.now.noted c.take_round.new.noted c.if-is_last.false c.in_ok-round.ensures.takes
