use Rattle.std.proofs.Common.{[], ◌∷◌}
use Rattle.mr_explore_workers.proofs.worker.search_taken.Goals as goal

pub returns-clause-all : goal.returns-clause-all
returns-clause-all g c bounds first done h =
    c.note_all.ensures.all bounds first (c.args.part.now ∷ done) [] (h.0, c.in_ok-keep_trail.ensures.keeps bounds first done [] h.0 h.1, h.2)

pub returns-clause-fault : goal.returns-clause-fault
returns-clause-fault g c bounds first done h =
    c.note_all.ensures.fault bounds first (c.args.part.now ∷ done) [] (h.0, c.in_ok-keep_trail.ensures.keeps bounds first done [] h.0 h.1, h.2)
