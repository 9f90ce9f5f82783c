use Rattle.std.proofs.Common.{Bool, subst}
use Rattle.mr_explore_places.specs.Going.{Stops}
use Rattle.mr_explore_noted.specs.inner.Next.{NotesNext}
use Rattle.mr_explore_noted.proofs.Going.{handed_on}
use Rattle.mr_explore_noted.proofs.searching.note_all.Goals as goal

pub returns-in_err-note_next-clause-fault : goal.returns-in_err-note_next-clause-fault
returns-in_err-note_next-clause-fault g c bounds first parts given h =
    handed_on (Stops g.R.Run.steps bounds.faults bounds.steps first) c.in_err-note_next.field-0.0 c.from_residual.result c.from_residual.ensures.1
    (c.in_err-note_next.ensures.fault bounds first parts given (c.loop.invariant bounds first parts given h))

pub returns-then-not-branch-clause-all : goal.returns-then-not-branch-clause-all
returns-then-not-branch-clause-all g c bounds first parts given h =
    subst (λ (went : Bool). NotesNext g.R.Run.steps g.R.AlikeRun.rest g.R.AlikeRun.before g.R.AlikeRun.void g.R.AlikeRun.like g.R.AlikeRun.ends g.R.NotedRun.end g.R.NotedRun.events bounds first parts given went c.note_next.new.search c.note_next.new.noted) c.if-not-branch.true
    (c.in_ok-note_next.ensures.next bounds first parts given (c.loop.invariant bounds first parts given h))

pub loop-preserved : goal.loop-preserved
loop-preserved g c bounds first parts given h =
    subst (λ (went : Bool). NotesNext g.R.Run.steps g.R.AlikeRun.rest g.R.AlikeRun.before g.R.AlikeRun.void g.R.AlikeRun.like g.R.AlikeRun.ends g.R.NotedRun.end g.R.NotedRun.events bounds first parts given went c.note_next.new.search c.note_next.new.noted) c.if-not-branch.false
    (c.in_ok-note_next.ensures.next bounds first parts given (c.loop.invariant bounds first parts given h))
