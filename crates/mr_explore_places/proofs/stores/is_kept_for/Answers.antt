use Rattle.std.proofs.Common.{IfOk, IsTrue, List, subst}
use Rattle.mr_explore_places.specs.Covering.{OneStandsFor}
use Rattle.mr_explore_places.specs.Keeping.{IsKept}
use Rattle.mr_explore_places.specs.declared.stores.Row.{Row}
use Rattle.mr_explore_places.proofs.stores.is_kept_for.Goals as goal

pub returns-clause-stands : goal.returns-clause-stands
returns-clause-stands g c =
    subst (λ (z : List (Row g.row.R.Denot g.row.R-Fault.Denot)). IfOk c.covers_in.result (λ b. IsTrue b → OneStandsFor g.R.AlikeRun.before g.R.AlikeRun.like (IsKept z) c.args.place.now)) c.deref.ensures.value c.covers_in.ensures.stands
