use Rattle.std.proofs.Common.{◌≡◌, ◌++◌, Some, slice_get}
use Rattle.mr_explore_places.specs.Going.{Stops}
use Rattle.mr_explore_noted.proofs.Going.{handed_on}
use Rattle.mr_explore_workers.specs.inner.Working.{parts_at}
use Rattle.mr_explore_workers.proofs.Lists.{here}
use Rattle.mr_explore_workers.proofs.Sharing.{part_searched, part_stops}
use Rattle.mr_explore_workers.proofs.worker.search_next.Goals as goal

pub returns-in_err-search_copy-clause-fault : goal.returns-in_err-search_copy-clause-fault
returns-in_err-search_copy-clause-fault g c bounds first mine all h =
    let at : slice_get c.args.parts.now c.fetch_add-place.result ≡ Some c.in-Some.part.now = here c.args.parts.now c.fetch_add-place.result c.in-Some.part.now c.in-Some.ensures.lookup.3.0 c.in-Some.ensures.lookup.1 in
    handed_on (Stops g.R.Run.steps bounds.faults bounds.steps first) c.in_err-search_copy.field-0.0 c.from_residual.result c.from_residual.ensures.1
    (part_stops g.R.Run.steps g.R.AlikeRun.rest g.R.AlikeRun.before g.R.AlikeRun.void g.R.AlikeRun.like g.R.AlikeRun.ends g.R.NotedRun.end g.R.NotedRun.events bounds first c.args.parts.now (parts_at c.args.parts.now c.loop.took.items ++ mine) c.fetch_add-place.result c.loop.search c.loop.noted c.in-Some.part.now c.in_err-search_copy.field-0.0 all at
    (c.in_err-search_copy.ensures.fault bounds first) (c.loop.invariant bounds first mine all h))

pub loop-preserved : goal.loop-preserved
loop-preserved g c bounds first mine all h =
    let at : slice_get c.args.parts.now c.fetch_add-place.result ≡ Some c.in-Some.part.now = here c.args.parts.now c.fetch_add-place.result c.in-Some.part.now c.in-Some.ensures.lookup.3.0 c.in-Some.ensures.lookup.1 in
    part_searched g.R.Run.steps g.R.AlikeRun.rest g.R.AlikeRun.before g.R.AlikeRun.void g.R.AlikeRun.like g.R.AlikeRun.ends g.R.NotedRun.end g.R.NotedRun.events bounds first c.args.parts.now mine c.loop.took.items c.push.new.self.items c.fetch_add-place.result c.loop.search c.search_copy.new.search c.loop.noted c.search_copy.new.noted c.in-Some.part.now all c.in_ok-push.ensures.items at
    (c.in_ok-search_copy.ensures.all bounds first) (c.loop.invariant bounds first mine all h)
