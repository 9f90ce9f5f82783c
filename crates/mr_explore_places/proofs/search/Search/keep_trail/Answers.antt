use Rattle.std.proofs.Common.{◌∷◌, refl, sym, subst}
use Rattle.std.proofs.lemmas.Result.{on_ok_weaker}
use Rattle.mr_explore_places.specs.Keeping.{KeepsTrail}
use Rattle.mr_explore_places.specs.State.{HasFound, State}
use Rattle.mr_explore_places.specs.declared.level.Level.{Level}
use Rattle.mr_explore_places.proofs.Answering.{keeps_trail}
use Rattle.mr_explore_places.proofs.search.Search.keep_trail.Goals as goal

pub returns-clause-keeps : goal.returns-clause-keeps
returns-clause-keeps g c bounds first parts given found h =
    on_ok_weaker c.keep_trail.result (λ k. keeps_trail g.R.Run.steps g.R.AlikeRun.rest g.R.AlikeRun.before g.R.AlikeRun.void g.R.AlikeRun.like g.R.AlikeRun.ends bounds first parts given c.args.part.now found
    (record { bounds = c.self.inside.bounds; kept = c.self.inside.stores; going = c.self.inside.front; left = c.self.inside.levels; fault = c.self.inside.fault })
    (record { bounds = c.self.inside.bounds; kept = c.keep_trail.new.stores; going = c.self.inside.front; left = c.self.inside.levels; fault = c.self.inside.fault }) refl refl refl refl
    (subst (λ (z : Level g.row.R.Denot g.row.R-Fault.Denot). KeepsTrail g.R.Run.steps bounds.faults z c.self.inside.stores c.keep_trail.new.stores) c.level.ensures (k bounds.faults))
    (subst (λ (z : State g.row.R.Denot g.row.R-Fault.Denot). HasFound g.R.Run.steps g.R.AlikeRun.rest g.R.AlikeRun.before g.R.AlikeRun.void g.R.AlikeRun.like g.R.AlikeRun.ends bounds first (c.args.part.now ∷ parts) given found z) (sym c.self.view_is) h)) c.keep_trail.ensures.keeps
