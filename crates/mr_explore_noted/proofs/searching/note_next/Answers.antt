use Rattle.std.proofs.Common.{Option, subst}
use Rattle.mr_explore_search.specs.declared.ended.Ended.{Ended}
use Rattle.mr_explore_noted.proofs.Going.{Answered, on_the_way, searched, stopped}
use Rattle.mr_explore_noted.proofs.searching.note_next.Goals as goal

pub returns-in_err-ended-clause-fault : goal.returns-in_err-ended-clause-fault
returns-in_err-ended-clause-fault g c bounds first parts given h =
    stopped g.R.Run.steps g.R.AlikeRun.rest g.R.AlikeRun.before g.R.AlikeRun.void g.R.AlikeRun.like g.R.AlikeRun.ends g.R.NotedRun.end g.R.NotedRun.events bounds first parts given c.in_err-ended.field-0.0 c.from_residual.result c.args.search.now c.next_run.new.self c.args.noted.now
    (c.in_err-ended.ensures.answers bounds first parts given) c.from_residual.ensures.1 h

pub returns-in_ok-note-in-Some-clause-next : goal.returns-in_ok-note-in-Some-clause-next
returns-in_ok-note-in-Some-clause-next g c bounds first parts given h =
    on_the_way g.R.Run.steps g.R.AlikeRun.rest g.R.AlikeRun.before g.R.AlikeRun.void g.R.AlikeRun.like g.R.AlikeRun.ends g.R.NotedRun.end g.R.NotedRun.events bounds first parts given c.args.search.now c.next_run.new.self c.args.noted.now c.note.new.self c.in-Some.ended
    (subst (λ (o : Option (Ended g.row.R.Denot)). Answered g.R.Run.steps g.R.AlikeRun.rest g.R.AlikeRun.before g.R.AlikeRun.void g.R.AlikeRun.like g.R.AlikeRun.ends g.R.NotedRun.end g.R.NotedRun.events bounds first parts given c.args.search.now o c.next_run.new.self) c.in-Some.is (c.in_ok-ended.ensures.answers bounds first parts given))
    c.in_ok-note-in-Some.ensures.noted h

pub returns-in-None-clause-next : goal.returns-in-None-clause-next
returns-in-None-clause-next g c bounds first parts given h =
    searched g.R.Run.steps g.R.AlikeRun.rest g.R.AlikeRun.before g.R.AlikeRun.void g.R.AlikeRun.like g.R.AlikeRun.ends g.R.NotedRun.end g.R.NotedRun.events bounds first parts given c.args.search.now c.next_run.new.self c.args.noted.now
    (subst (λ (o : Option (Ended g.row.R.Denot)). Answered g.R.Run.steps g.R.AlikeRun.rest g.R.AlikeRun.before g.R.AlikeRun.void g.R.AlikeRun.like g.R.AlikeRun.ends g.R.NotedRun.end g.R.NotedRun.events bounds first parts given c.args.search.now o c.next_run.new.self) c.in-None.is (c.in_ok-ended.ensures.answers bounds first parts given)) h
