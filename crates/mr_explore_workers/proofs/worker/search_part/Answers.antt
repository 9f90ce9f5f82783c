use Rattle.std.proofs.Common.{[], ◌∷◌, subst, sym}
use Rattle.mr_explore_places.specs.State.{HasFound, IsPart}
use Rattle.mr_explore_places.specs.declared.level.Level.{Level}
use Rattle.mr_explore_workers.proofs.worker.search_part.Goals as goal

pub returns-in-Ok-clause-all : goal.returns-in-Ok-clause-all
returns-in-Ok-clause-all g c bounds first done h p =
    c.search_taken.ensures.all bounds first done (
      h.0,
      subst (λ (l : Level g.row.R.Denot g.row.R-Fault.Denot). HasFound g.R.Run.steps g.R.AlikeRun.rest g.R.AlikeRun.before g.R.AlikeRun.void g.R.AlikeRun.like g.R.AlikeRun.ends bounds first (l ∷ done) [] h.0 c.take_part.new.self) c.requires
          (c.in-Ok.ensures.takes bounds first done [] h.0 h.1 (subst (λ (l : Level g.row.R.Denot g.row.R-Fault.Denot). IsPart g.R.Run.steps bounds first l) (sym c.requires) p)),
      h.3,
    )

pub returns-in-Ok-clause-fault : goal.returns-in-Ok-clause-fault
returns-in-Ok-clause-fault g c bounds first done h p =
    c.search_taken.ensures.fault bounds first done (
      h.0,
      subst (λ (l : Level g.row.R.Denot g.row.R-Fault.Denot). HasFound g.R.Run.steps g.R.AlikeRun.rest g.R.AlikeRun.before g.R.AlikeRun.void g.R.AlikeRun.like g.R.AlikeRun.ends bounds first (l ∷ done) [] h.0 c.take_part.new.self) c.requires
          (c.in-Ok.ensures.takes bounds first done [] h.0 h.1 (subst (λ (l : Level g.row.R.Denot g.row.R-Fault.Denot). IsPart g.R.Run.steps bounds first l) (sym c.requires) p)),
      h.3,
    )
