use Rattle.std.proofs.Common.{◌∷◌, List, sym, subst}
use Rattle.mr_explore_places.specs.Going.{Stops}
use Rattle.mr_explore_least.specs.Table.{Table}
use Rattle.mr_explore_noted.proofs.Going.{handed_on}
use Rattle.mr_explore_workers.specs.inner.Working.{AreDone, Working}
use Rattle.mr_explore_workers.proofs.Dividing.{begins_led}
use Rattle.mr_explore_workers.proofs.parted.search_in_parts.Goals as goal

pub returns-in_err-make_rounds-clause-fault : goal.returns-in_err-make_rounds-clause-fault
returns-in_err-make_rounds-clause-fault g c first h =
    handed_on (Stops g.R.Run.steps c.args.bounds.now.faults c.args.bounds.now.steps first) c.in_err-make_rounds.field-0.0 c.from_residual-in_err-make_rounds.result c.from_residual-in_err-make_rounds.ensures.1
    (c.in_err-make_rounds.ensures.fault c.args.bounds.now first (begins_led g.R.Run.steps g.R.AlikeRun.rest g.R.AlikeRun.before g.R.AlikeRun.void g.R.AlikeRun.like g.R.AlikeRun.ends g.R.NotedRun.end g.R.NotedRun.events c.args.bounds.now first c.args.search c.in_ok-leader.leader.search c.in_ok-leader.leader.noted c.in_ok-leader.leader.worker c.in_ok-others.others.items c.in_ok-leader.ensures.search.0 c.in_ok-leader.ensures.search.1 h (c.in_ok-leader.ensures.worker first) (c.in_ok-others.ensures first)))

pub returns-in_err-join_all-clause-fault : goal.returns-in_err-join_all-clause-fault
returns-in_err-join_all-clause-fault g c first h =
    handed_on (Stops g.R.Run.steps c.args.bounds.now.faults c.args.bounds.now.steps first) c.in_err-join_all.field-0.0 c.from_residual-in_err-join_all.result c.from_residual-in_err-join_all.ensures.1
    (c.in_err-join_all.ensures.fault c.args.bounds.now first
    (subst (λ (ws : List (Working g.row.R.Denot g.row.R-Fault.Denot)). AreDone g.R.Run.steps g.R.AlikeRun.rest g.R.AlikeRun.before g.R.AlikeRun.void g.R.AlikeRun.like g.R.AlikeRun.ends g.R.NotedRun.end g.R.NotedRun.events c.args.bounds.now first c.into_table-table.result ws) (sym c.in_ok-all_of.ensures)
    (subst (λ (t : Table). AreDone g.R.Run.steps g.R.AlikeRun.rest g.R.AlikeRun.before g.R.AlikeRun.void g.R.AlikeRun.like g.R.AlikeRun.ends g.R.NotedRun.end g.R.NotedRun.events c.args.bounds.now first t (c.make_rounds.new.leader.worker ∷ c.make_rounds.new.others.items)) (sym c.into_table-table.ensures) (c.in_ok-make_rounds.ensures.all c.args.bounds.now first (begins_led g.R.Run.steps g.R.AlikeRun.rest g.R.AlikeRun.before g.R.AlikeRun.void g.R.AlikeRun.like g.R.AlikeRun.ends g.R.NotedRun.end g.R.NotedRun.events c.args.bounds.now first c.args.search c.in_ok-leader.leader.search c.in_ok-leader.leader.noted c.in_ok-leader.leader.worker c.in_ok-others.others.items c.in_ok-leader.ensures.search.0 c.in_ok-leader.ensures.search.1 h (c.in_ok-leader.ensures.worker first) (c.in_ok-others.ensures first))))))

pub returns-clause-all : goal.returns-clause-all
returns-clause-all g c first one h =
    c.in_ok-join_all.ensures.all c.args.bounds.now first one
    (subst (λ (ws : List (Working g.row.R.Denot g.row.R-Fault.Denot)). AreDone g.R.Run.steps g.R.AlikeRun.rest g.R.AlikeRun.before g.R.AlikeRun.void g.R.AlikeRun.like g.R.AlikeRun.ends g.R.NotedRun.end g.R.NotedRun.events c.args.bounds.now first c.into_table-table.result ws) (sym c.in_ok-all_of.ensures)
    (subst (λ (t : Table). AreDone g.R.Run.steps g.R.AlikeRun.rest g.R.AlikeRun.before g.R.AlikeRun.void g.R.AlikeRun.like g.R.AlikeRun.ends g.R.NotedRun.end g.R.NotedRun.events c.args.bounds.now first t (c.make_rounds.new.leader.worker ∷ c.make_rounds.new.others.items)) (sym c.into_table-table.ensures) (c.in_ok-make_rounds.ensures.all c.args.bounds.now first (begins_led g.R.Run.steps g.R.AlikeRun.rest g.R.AlikeRun.before g.R.AlikeRun.void g.R.AlikeRun.like g.R.AlikeRun.ends g.R.NotedRun.end g.R.NotedRun.events c.args.bounds.now first c.args.search c.in_ok-leader.leader.search c.in_ok-leader.leader.noted c.in_ok-leader.leader.worker c.in_ok-others.others.items c.in_ok-leader.ensures.search.0 c.in_ok-leader.ensures.search.1 h (c.in_ok-leader.ensures.worker first) (c.in_ok-others.ensures first)))))
