use Rattle.std.proofs.Common.{subst}
use Rattle.std.proofs.lemmas.Result.{on_ok_weaker}
use Rattle.mr_explore_alike.specs.Leaving.{Here}
use Rattle.mr_explore_places.specs.Searching.{Reaches}
use Rattle.mr_explore_places.proofs.Fronts.{begins_beside}
use Rattle.mr_explore_places.proofs.going.set_out.Goals as goal

pub returns-clause-begins : goal.returns-clause-begins
returns-clause-begins g c =
    on_ok_weaker c.reach.result (λ f. begins_beside g.R.Run.steps g.R.AlikeRun.rest g.R.AlikeRun.before g.R.AlikeRun.void g.R.AlikeRun.like g.R.AlikeRun.ends c.args.bounds.now.faults c.args.bounds.now.steps c.args.place c.args.stores.now c.args.front.now c.reach.new.front c.args.levels.now c.reach.new.levels c.requires
    (subst (λ (h : Here g.row.R.Denot g.row.R-Fault.Denot). Reaches g.R.Run.steps g.R.AlikeRun.rest g.R.AlikeRun.before g.R.AlikeRun.void g.R.AlikeRun.like g.R.AlikeRun.ends c.args.bounds.now.faults c.args.bounds.now.steps c.args.bounds.now.steps h c.args.stores.now c.args.front.now c.args.levels.now c.reach.new.front c.reach.new.levels) c.in_ok-place.ensures.ok (f c.args.bounds.now.faults c.args.bounds.now.steps))) c.reach.ensures.reaches
