use Rattle.mr_explore_noted.proofs.Going.{StaysOnTheWay}
use Rattle.mr_explore_noted.proofs.searching.note_all.Given as goal

-- what was noted so far is what the search found
abbrev pub invariant-loop : goal.invariant-loop
invariant-loop g l = StaysOnTheWay g.R.Run.steps g.R.AlikeRun.rest g.R.AlikeRun.before g.R.AlikeRun.void g.R.AlikeRun.like g.R.AlikeRun.ends g.R.NotedRun.end g.R.NotedRun.events l.fn.search l.fn.noted l.search l.noted
