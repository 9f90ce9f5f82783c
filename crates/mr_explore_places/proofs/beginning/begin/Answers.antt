use Rattle.std.proofs.Common.{sym, ap, ◌∙◌}
use Rattle.mr_explore_alike.specs.Leaving.{Here}
use Rattle.mr_explore_places.proofs.Begun.{begin_left, told_void}
use Rattle.mr_explore_places.proofs.beginning.begin.Goals as goal

pub returns-then-is_void : goal.returns-then-is_void
returns-then-is_void g c =
    let run = ap (λ (h : Here g.row.R.Denot g.row.R-Fault.Denot). g.R.AlikeRun.void h.run) c.place.view_is in
    told_void g.R.Run.steps g.R.AlikeRun.rest g.R.AlikeRun.before g.R.AlikeRun.void g.R.AlikeRun.like g.R.AlikeRun.ends c.args.bounds.now.faults c.args.bounds.now.steps c.args.place c.args.stores.now c.args.front.now c.args.levels.now c.tell.result
    (sym run ∙ (sym c.is_void.ensures ∙ c.if-is_void.true)) c.tell.ensures

pub returns-then-branch : goal.returns-then-branch
returns-then-branch g c =
    let stands = c.in_ok-is_left.ensures.stands c.if-branch.true c.args.bounds.now.faults in
    begin_left g.R.Run.steps g.R.AlikeRun.rest g.R.AlikeRun.before g.R.AlikeRun.void g.R.AlikeRun.like g.R.AlikeRun.ends c.args.bounds.now.faults c.args.bounds.now.steps c.args.place c.args.stores.now c.args.front.now c.args.levels.now stands
