use Rattle.std.proofs.Common.{sym, subst}
use Rattle.std.proofs.lemmas.Result.{on_ok_weaker}
use Rattle.mr_explore_places.specs.Keeping.{KeepsTrail}
use Rattle.mr_explore_places.specs.declared.level.Level.{Level}
use Rattle.mr_explore_places.proofs.trail.keep_trail.Goals as goal

pub returns-in-Faults-clause-keeps : goal.returns-in-Faults-clause-keeps
returns-in-Faults-clause-keeps g c =
    on_ok_weaker c.keep_places.result (λ k budget. subst (λ (z : Level g.row.R.Denot g.row.R-Fault.Denot). KeepsTrail g.R.Run.steps budget z c.args.stores.now c.keep_places.new.stores) (sym c.in-Faults.is) (k budget)) c.keep_places.ensures.keeps
