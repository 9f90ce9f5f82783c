use Rattle.std.proofs.Common.{Option, Some, Ok, subst}
use Rattle.mr_explore_places.specs.declared.part.Next.{Next}
use Rattle.mr_explore_workers.proofs.Dividing.{AnsweredApart, apart_stopped, none_apart, part_apart, run_apart}
use Rattle.mr_explore_workers.proofs.parts.next_part.Goals as goal

pub returns-in_err-ended-clause-fault : goal.returns-in_err-ended-clause-fault
returns-in_err-ended-clause-fault g c bounds first parts given h =
    apart_stopped g.R.Run.steps g.R.AlikeRun.rest g.R.AlikeRun.before g.R.AlikeRun.void g.R.AlikeRun.like g.R.AlikeRun.ends g.R.NotedRun.end g.R.NotedRun.events bounds first parts given c.in_err-ended.field-0.0 c.from_residual.result c.loop.search c.next_apart.new.self c.loop.noted
    (c.in_err-ended.ensures.answers bounds first parts given) c.from_residual.ensures.1 (c.loop.invariant bounds first parts given h)

pub returns-in-Some-Part-clause-next : goal.returns-in-Some-Part-clause-next
returns-in-Some-Part-clause-next g c bounds first parts given h =
    part_apart g.R.Run.steps g.R.AlikeRun.rest g.R.AlikeRun.before g.R.AlikeRun.void g.R.AlikeRun.like g.R.AlikeRun.ends g.R.NotedRun.end g.R.NotedRun.events bounds first parts given c.loop.search c.next_apart.new.self c.loop.noted c.in-Some-Part.part
    (subst (λ (x : Next g.row.R.Denot g.row.R-Fault.Denot). AnsweredApart g.R.Run.steps g.R.AlikeRun.rest g.R.AlikeRun.before g.R.AlikeRun.void g.R.AlikeRun.like g.R.AlikeRun.ends g.R.NotedRun.end g.R.NotedRun.events bounds first parts given c.loop.search (Ok (Some x)) c.next_apart.new.self) c.in-Some-Part.field-0-is (subst (λ (o : Option (Next g.row.R.Denot g.row.R-Fault.Denot)). AnsweredApart g.R.Run.steps g.R.AlikeRun.rest g.R.AlikeRun.before g.R.AlikeRun.void g.R.AlikeRun.like g.R.AlikeRun.ends g.R.NotedRun.end g.R.NotedRun.events bounds first parts given c.loop.search (Ok o) c.next_apart.new.self) c.in-Some-Part.is (c.in_ok-ended.ensures.answers bounds first parts given)))
    (c.loop.invariant bounds first parts given h)

pub returns-in-None-clause-next : goal.returns-in-None-clause-next
returns-in-None-clause-next g c bounds first parts given h =
    none_apart g.R.Run.steps g.R.AlikeRun.rest g.R.AlikeRun.before g.R.AlikeRun.void g.R.AlikeRun.like g.R.AlikeRun.ends g.R.NotedRun.end g.R.NotedRun.events bounds first parts given c.loop.search c.next_apart.new.self c.loop.noted
    (subst (λ (o : Option (Next g.row.R.Denot g.row.R-Fault.Denot)). AnsweredApart g.R.Run.steps g.R.AlikeRun.rest g.R.AlikeRun.before g.R.AlikeRun.void g.R.AlikeRun.like g.R.AlikeRun.ends g.R.NotedRun.end g.R.NotedRun.events bounds first parts given c.loop.search (Ok o) c.next_apart.new.self) c.in-None.is (c.in_ok-ended.ensures.answers bounds first parts given))
    (c.loop.invariant bounds first parts given h)

pub loop-preserved : goal.loop-preserved
loop-preserved g c bounds first parts given h =
    run_apart g.R.Run.steps g.R.AlikeRun.rest g.R.AlikeRun.before g.R.AlikeRun.void g.R.AlikeRun.like g.R.AlikeRun.ends g.R.NotedRun.end g.R.NotedRun.events bounds first parts given c.loop.search c.next_apart.new.self c.loop.noted c.note.new.self c.in-Some-Run.ended
    (subst (λ (x : Next g.row.R.Denot g.row.R-Fault.Denot). AnsweredApart g.R.Run.steps g.R.AlikeRun.rest g.R.AlikeRun.before g.R.AlikeRun.void g.R.AlikeRun.like g.R.AlikeRun.ends g.R.NotedRun.end g.R.NotedRun.events bounds first parts given c.loop.search (Ok (Some x)) c.next_apart.new.self) c.in-Some-Run.field-0-is (subst (λ (o : Option (Next g.row.R.Denot g.row.R-Fault.Denot)). AnsweredApart g.R.Run.steps g.R.AlikeRun.rest g.R.AlikeRun.before g.R.AlikeRun.void g.R.AlikeRun.like g.R.AlikeRun.ends g.R.NotedRun.end g.R.NotedRun.events bounds first parts given c.loop.search (Ok o) c.next_apart.new.self) c.in-Some-Run.is (c.in_ok-ended.ensures.answers bounds first parts given)))
    c.in_ok-note-in-Some-Run.ensures.noted (c.loop.invariant bounds first parts given h)
