use Rattle.std.proofs.Common.{[], sym, subst}
use Rattle.mr_explore_places.specs.Going.{Stops}
use Rattle.mr_explore_places.specs.State.{whole}
use Rattle.mr_explore_least.specs.Table.{Table}
use Rattle.mr_explore_noted.specs.Searched.{HasSearched}
use Rattle.mr_explore_noted.proofs.Going.{begins, handed_on, has_all}
use Rattle.mr_explore_noted.proofs.searching.least_runs.Goals as goal

pub returns-in_err-note_all-clause-fault : goal.returns-in_err-note_all-clause-fault
returns-in_err-note_all-clause-fault g c =
    handed_on (Stops g.R.Run.steps c.args.bounds.faults c.args.bounds.steps c.args.run) c.in_err-note_all.field-0.0 c.from_residual-in_err-note_all.result c.from_residual-in_err-note_all.ensures.1
    (c.in_err-note_all.ensures.fault c.args.bounds c.args.run (whole c.args.run) [] (begins g.R.Run.steps g.R.AlikeRun.rest g.R.AlikeRun.before g.R.AlikeRun.void g.R.AlikeRun.like g.R.AlikeRun.ends g.R.NotedRun.end g.R.NotedRun.events c.args.bounds c.args.run c.in_ok-search.search c.new-noted.result c.in_ok-search.ensures.starts c.new-noted.ensures))

pub returns-clause-all : goal.returns-clause-all
returns-clause-all g c =
    has_all g.R.Run.steps g.R.AlikeRun.rest g.R.AlikeRun.before g.R.AlikeRun.void g.R.AlikeRun.like g.R.AlikeRun.ends g.R.NotedRun.end g.R.NotedRun.events c.args.bounds c.args.run (whole c.args.run) [] c.note_all.new.search c.into_table.result
    (subst (λ (t : Table). HasSearched g.R.Run.steps g.R.AlikeRun.rest g.R.AlikeRun.before g.R.AlikeRun.void g.R.AlikeRun.like g.R.AlikeRun.ends g.R.NotedRun.end g.R.NotedRun.events c.args.bounds c.args.run (whole c.args.run) [] c.note_all.new.search t) (sym c.into_table.ensures)
    (c.in_ok-note_all.ensures.all c.args.bounds c.args.run (whole c.args.run) [] (begins g.R.Run.steps g.R.AlikeRun.rest g.R.AlikeRun.before g.R.AlikeRun.void g.R.AlikeRun.like g.R.AlikeRun.ends g.R.NotedRun.end g.R.NotedRun.events c.args.bounds c.args.run c.in_ok-search.search c.new-noted.result c.in_ok-search.ensures.starts c.new-noted.ensures)))
