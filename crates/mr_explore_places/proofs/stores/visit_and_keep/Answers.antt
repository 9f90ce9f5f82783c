use Rattle.std.proofs.Common.{subst, List}
use Rattle.mr_explore_places.specs.Covering.{OneStandsFor}
use Rattle.mr_explore_places.specs.Keeping.{IsKept}
use Rattle.mr_explore_places.specs.declared.stores.Row.{Row}
use Rattle.mr_explore_places.proofs.stores.visit_and_keep.Goals as goal

pub returns-then-branch-clause-visits : goal.returns-then-branch-clause-visits
returns-then-branch-clause-visits g c =
    (subst (λ (z : List (Row g.row.R.Denot g.row.R-Fault.Denot)). OneStandsFor g.R.AlikeRun.before g.R.AlikeRun.like (IsKept z) c.args.place.now) c.deref-2.ensures.value (c.in_ok-covers_in.ensures.stands c.if-branch.true), λ x i. i)
