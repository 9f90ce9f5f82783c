use Rattle.std.proofs.Common.{◌-◌}
use Rattle.mr_explore_places.proofs.Trails.{IsFollowedTo}
use Rattle.mr_explore_places.proofs.following.follow.Given as goal

-- it was followed to where it is
abbrev pub invariant-loop-beyond : goal.invariant-loop-beyond
invariant-loop-beyond g l =
    IsFollowedTo g.R.Run.steps g.R.AlikeRun.rest g.R.AlikeRun.before g.R.AlikeRun.void g.R.AlikeRun.like g.R.AlikeRun.ends l.bounds.faults l.bounds.steps l.beyond (l.bounds.steps - l.beyond) l.fn.place l.fn.stores l.place l.stores
