use Rattle.std.proofs.Common.{subst}
use Rattle.mr_explore_workers.specs.declared.leader.Leader.{Leader}
use Rattle.mr_explore_workers.specs.inner.Working.{TakesNext}
use Rattle.mr_explore_workers.proofs.parted.lead.Goals as goal

pub returns-clause-next : goal.returns-clause-next
returns-clause-next g c =
    let at = c.both.ensures.second in
    subst (λ (l : Leader g.row.R.Denot g.row.R-Notes.Denot g.row.R-Fault.Denot). TakesNext g.R.Run.steps g.R.AlikeRun.rest g.R.AlikeRun.before g.R.AlikeRun.void g.R.AlikeRun.like g.R.AlikeRun.ends g.R.NotedRun.end g.R.NotedRun.events (λ r. r.is_last) (λ r. r.parts.items) c.args.round.now.is_last c.both.result c.args.leader.now.search c.args.leader.now.noted l.search l.noted) at.left
    (subst (λ (l : Leader g.row.R.Denot g.row.R-Notes.Denot g.row.R-Fault.Denot). TakesNext g.R.Run.steps g.R.AlikeRun.rest g.R.AlikeRun.before g.R.AlikeRun.void g.R.AlikeRun.like g.R.AlikeRun.ends g.R.NotedRun.end g.R.NotedRun.events (λ r. r.is_last) (λ r. r.parts.items) c.args.round.now.is_last c.both.result l.search l.noted at.after_call.now.search at.after_call.now.noted) at.argument_is at.call.1)
