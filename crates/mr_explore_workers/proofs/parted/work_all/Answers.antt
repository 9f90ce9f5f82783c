use Rattle.std.proofs.Common.{◌≡◌, ◌++◌, length, sym, subst, rules}
use Rattle.mr_explore_workers.specs.inner.Working.{HasWorked, Working, parts_at}
use Rattle.mr_explore_workers.proofs.Sharing.{each_searches}
use Rattle.mr_explore_workers.proofs.parted.work_all.Goals as goal

pub returns : goal.returns
returns g c =
    let same : length c.args.workers.now ≡ length c.for_each_mut.new.s = search rules in
    each_searches g.R.Run.steps g.R.AlikeRun.rest g.R.AlikeRun.before g.R.AlikeRun.void g.R.AlikeRun.like g.R.AlikeRun.ends g.R.NotedRun.end g.R.NotedRun.events c.args.round.now.parts.items c.args.workers.now c.for_each_mut.new.s same
    (λ i d few bounds first mine all k.
    let at = (c.for_each_mut.ensures i d few).1 in
    subst (λ (w : Working g.row.R.Denot g.row.R-Fault.Denot). HasWorked g.R.Run.steps g.R.AlikeRun.rest g.R.AlikeRun.before g.R.AlikeRun.void g.R.AlikeRun.like g.R.AlikeRun.ends g.R.NotedRun.end g.R.NotedRun.events bounds first (parts_at c.args.round.now.parts.items w.took ++ mine) w) at.left
    (at.call bounds first mine all (subst (λ (w : Working g.row.R.Denot g.row.R-Fault.Denot). HasWorked g.R.Run.steps g.R.AlikeRun.rest g.R.AlikeRun.before g.R.AlikeRun.void g.R.AlikeRun.like g.R.AlikeRun.ends g.R.NotedRun.end g.R.NotedRun.events bounds first mine w) (sym at.argument_is) k)))
