use Rattle.std.proofs.Common.{◌-◌, ℕ}
use Rattle.mr_explore_places.specs.Levels.{LeadAlike}
use Rattle.mr_explore_places.proofs.Leading.{Owing}
use Rattle.mr_explore_places.proofs.going.push_owed.Given as goal

-- so many came, and the others are left to come
abbrev pub invariant-loop-behind : goal.invariant-loop-behind
invariant-loop-behind g l = (budget : ℕ) → LeadAlike g.R.Run.steps budget (Owing g.R.Run.steps budget l.fn.place l.fn.place.ripe l.fn.levels) (Owing g.R.Run.steps budget l.fn.place (l.fn.place.ripe - l.behind) l.levels)
