use Rattle.std.proofs.Common.{◌<◌, length, IsTrue, List, subst, sym}
use Rattle.std.proofs.lemmas.Bool.{ltb-true}
use Rattle.std.proofs.lemmas.Result.{IfOk-weaker}
use Rattle.mr_explore_places.specs.Covering.{OneStandsFor}
use Rattle.mr_explore_places.specs.Keeping.{IsInRow, IsKept}
use Rattle.mr_explore_places.specs.declared.stores.Kept.{Kept}
use Rattle.mr_explore_places.proofs.Slots.{kept_or}
use Rattle.mr_explore_places.proofs.stores.covers_at.Goals as goal

pub returns-in-Some-clause-stands : goal.returns-in-Some-clause-stands
returns-in-Some-clause-stands g c =
    let few : c.args.at < length c.args.rows.now = ltb-true c.args.at (length c.args.rows.now) (sym c.in-Some.ensures.lookup.0) in
    IfOk-weaker c.covers.result (λ b. IsTrue b → OneStandsFor g.R.AlikeRun.before g.R.AlikeRun.like (IsInRow c.deref.result.now) c.args.place.now) (λ b. IsTrue b → OneStandsFor g.R.AlikeRun.before g.R.AlikeRun.like (IsKept c.args.rows.now) c.args.place.now)
    (λ b f t.
    let one = f t in
    let there = subst (λ (z : List (Kept g.row.R.Denot g.row.R-Fault.Denot)). IsInRow z one.0) c.deref.ensures.value one.1 in
    (one.0, kept_or c.args.rows.now c.args.at c.in-Some.row.now one.0 few c.in-Some.ensures.lookup.1 there, one.2)) c.covers.ensures.stands
