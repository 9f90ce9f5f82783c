use Rattle.std.proofs.Common.{ℕ, inl, refl, sym, subst, IsTrue}
use Rattle.std.proofs.lemmas.Result.{IfOk-weaker}
use Rattle.mr_explore_places.specs.Covering.{OneStandsFor, StandsFor}
use Rattle.mr_explore_places.specs.Levels.{IsOnTrail}
use Rattle.mr_explore_places.specs.declared.level.Level.{Level}
use Rattle.mr_explore_places.proofs.beginning.is_left_at.Goals as goal

pub returns-in-Faults-clause-stands : goal.returns-in-Faults-clause-stands
returns-in-Faults-clause-stands g c =
    IfOk-weaker c.stands_for.result (λ b. IsTrue b → StandsFor g.R.AlikeRun.before g.R.AlikeRun.like c.in-Faults.level.place c.args.place.now) (λ b. IsTrue b → (budget : ℕ) → OneStandsFor g.R.AlikeRun.before g.R.AlikeRun.like (IsOnTrail g.R.Run.steps budget c.args.level.now) c.args.place.now)
    (λ b f t budget. (c.in-Faults.level.place, subst (λ (l : Level g.row.R.Denot g.row.R-Fault.Denot). IsOnTrail g.R.Run.steps budget l c.in-Faults.level.place) (sym c.in-Faults.is) (inl refl), f t)) c.stands_for.ensures.stands
