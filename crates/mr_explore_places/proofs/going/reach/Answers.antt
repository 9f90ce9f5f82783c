use Rattle.std.proofs.Common.{◌⊎◌, subst}
use Rattle.std.proofs.lemmas.Result.{on_ok_weaker}
use Rattle.mr_explore_alike.specs.Leaving.{Here}
use Rattle.mr_explore_places.specs.Covering.{OneStandsFor}
use Rattle.mr_explore_places.specs.Fronts.{IsUnderway}
use Rattle.mr_explore_places.specs.Keeping.{IsHeld}
use Rattle.mr_explore_places.specs.Levels.{LeadAlike}
use Rattle.mr_explore_places.proofs.Leading.{Owing}
use Rattle.mr_explore_places.proofs.Fronts.{reach_covered, reach_made}
use Rattle.mr_explore_places.proofs.going.reach.Goals as goal

pub returns-then-not-is_compared-clause-reaches : goal.returns-then-not-is_compared-clause-reaches
returns-then-not-is_compared-clause-reaches g c =
    on_ok_weaker c.go_ahead.result (λ f. f c.args.stores.now) c.go_ahead.ensures.reaches

pub returns-then-branch-clause-reaches : goal.returns-then-branch-clause-reaches
returns-then-branch-clause-reaches g c = λ budget most.
    let stands = subst (λ (h : Here g.row.R.Denot g.row.R-Fault.Denot). OneStandsFor g.R.AlikeRun.before g.R.AlikeRun.like (λ x. IsUnderway c.args.front.now x ⊎ IsHeld c.args.stores.now x) h) c.deref-5.ensures (c.in_ok-is_covered.ensures.stands c.if-branch.true) in
    reach_covered g.R.Run.steps g.R.AlikeRun.rest g.R.AlikeRun.before g.R.AlikeRun.void g.R.AlikeRun.like g.R.AlikeRun.ends budget most c.args.left c.args.place.value c.args.stores.now c.args.front.now c.args.levels.now stands

pub returns-clause-reaches : goal.returns-clause-reaches
returns-clause-reaches g c = λ budget most.
    let leads = subst (λ (h : Here g.row.R.Denot g.row.R-Fault.Denot). LeadAlike g.R.Run.steps budget (Owing g.R.Run.steps budget h h.ripe c.args.levels.now) c.push_owed.new.levels) c.deref-6.ensures (c.in_ok-push_owed.ensures.leads budget) in
    reach_made g.R.Run.steps g.R.AlikeRun.rest g.R.AlikeRun.before g.R.AlikeRun.void g.R.AlikeRun.like g.R.AlikeRun.ends budget most c.args.left c.args.place.value c.args.stores.now c.args.front.now c.push.new.self c.args.levels.now c.push_owed.new.levels c.in_ok-push.ensures leads
