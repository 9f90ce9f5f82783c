use Rattle.std.proofs.Common.{List, sym, ◌∙◌, subst}
use Rattle.std.proofs.lemmas.Bool.{eqb-true}
use Rattle.mr_explore_places.specs.Going.{Stops}
use Rattle.mr_explore_noted.proofs.Going.{handed_on}
use Rattle.mr_explore_workers.specs.inner.Working.{AreDone, Working}
use Rattle.mr_explore_workers.proofs.Lists.{first_and_rest, no_elements}
use Rattle.mr_explore_workers.proofs.Sharing.{all_joined, first_joined, first_worked}
use Rattle.mr_explore_workers.proofs.parted.join_all.Goals as goal

pub returns-in_err-join_one-clause-fault : goal.returns-in_err-join_one-clause-fault
returns-in_err-join_one-clause-fault g c bounds first h =
    let before = c.loop-workers.invariant.1 bounds first h.0 h.2 in
    let one = first_and_rest c.loop-workers.workers.items c.remove-worker.new.self.items c.remove-worker.result c.remove-worker.new.self.len c.loop-workers.workers.len c.remove-worker.ensures.len c.loop-workers.workers.ok.0 c.remove-worker.ensures.value c.remove-worker.ensures.items in
    let given = first_worked g.R.Run.steps g.R.AlikeRun.rest g.R.AlikeRun.before g.R.AlikeRun.void g.R.AlikeRun.like g.R.AlikeRun.ends g.R.NotedRun.end g.R.NotedRun.events bounds first before.0 c.loop-workers.workers.items c.remove-worker.new.self.items c.remove-worker.result one before.1 in
    handed_on (Stops g.R.Run.steps bounds.faults bounds.steps first) c.in_err-join_one.field-0.0 c.from_residual.result c.from_residual.ensures.1 (c.in_err-join_one.ensures.fault bounds first given.0 given.2)

pub loop-workers-preserved : goal.loop-workers-preserved
loop-workers-preserved g c =
    let one = first_and_rest c.loop-workers.workers.items c.remove-worker.new.self.items c.remove-worker.result c.remove-worker.new.self.len c.loop-workers.workers.len c.remove-worker.ensures.len c.loop-workers.workers.ok.0 c.remove-worker.ensures.value c.remove-worker.ensures.items in (
      λ bounds first ends h.
          first_joined g.R.Run.steps g.R.AlikeRun.rest g.R.AlikeRun.before g.R.AlikeRun.void g.R.AlikeRun.like g.R.AlikeRun.ends g.R.NotedRun.end g.R.NotedRun.events bounds first c.joined_has_all.ensures ends c.loop-workers.table c.join_one.new.table c.loop-workers.workers.items c.remove-worker.new.self.items c.remove-worker.result one c.in_ok-join_one.ensures.joined.0 c.in_ok-join_one.ensures.joined.1
          (c.loop-workers.invariant.0 bounds first ends h),
      λ bounds first given h.
          let before = c.loop-workers.invariant.1 bounds first given h in
          let rest = first_worked g.R.Run.steps g.R.AlikeRun.rest g.R.AlikeRun.before g.R.AlikeRun.void g.R.AlikeRun.like g.R.AlikeRun.ends g.R.NotedRun.end g.R.NotedRun.events bounds first before.0 c.loop-workers.workers.items c.remove-worker.new.self.items c.remove-worker.result one before.1 in
          (rest.1, rest.3),
    )

pub returns-clause-all : goal.returns-clause-all
returns-clause-all g c bounds first ends h =
    let none = no_elements c.loop-workers.workers.items (sym c.loop-workers.workers.ok.0 ∙ eqb-true c.loop-workers.workers.len 0 (sym c.is_empty.ensures ∙ c.loop-workers-test.false)) in
    all_joined g.R.Run.steps g.R.AlikeRun.rest g.R.AlikeRun.before g.R.AlikeRun.void g.R.AlikeRun.like g.R.AlikeRun.ends g.R.NotedRun.end g.R.NotedRun.events bounds first c.loop-workers.table
    (subst (λ (ws : List (Working g.row.R.Denot g.row.R-Fault.Denot)). AreDone g.R.Run.steps g.R.AlikeRun.rest g.R.AlikeRun.before g.R.AlikeRun.void g.R.AlikeRun.like g.R.AlikeRun.ends g.R.NotedRun.end g.R.NotedRun.events bounds first c.loop-workers.table ws) none (c.loop-workers.invariant.0 bounds first ends h))
