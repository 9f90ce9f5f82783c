use Rattle.std.proofs.Common.{subst}
use Rattle.mr_explore_alike.specs.Leaving.{Here}
use Rattle.mr_explore_places.specs.Levels.{LeadAlike}
use Rattle.mr_explore_places.proofs.Leading.{Owing}
use Rattle.mr_explore_places.proofs.Fronts.{reach_made}
use Rattle.mr_explore_places.proofs.going.go_ahead.Goals as goal

pub returns-clause-reaches : goal.returns-clause-reaches
returns-clause-reaches g c = λ kept budget most.
    let leads = subst (λ (h : Here g.row.R.Denot g.row.R-Fault.Denot). LeadAlike g.R.Run.steps budget (Owing g.R.Run.steps budget h h.ripe c.args.levels.now) c.push_owed.new.levels) c.deref.ensures (c.in_ok-push_owed.ensures.leads budget) in
    reach_made g.R.Run.steps g.R.AlikeRun.rest g.R.AlikeRun.before g.R.AlikeRun.void g.R.AlikeRun.like g.R.AlikeRun.ends budget most c.args.left c.args.place.value kept c.args.front.now c.push_next.new.self c.args.levels.now c.push_owed.new.levels c.in_ok-push_next.ensures leads
