use Rattle.mr_user.specs.Computation.{computation}
use Rattle.mr_world_files.proofs.Laws.{laws_of}
use Rattle.mr_world_files.proofs.jobs_have_their_laws.Goals as goal

pub returns : goal.returns
returns g c =
    laws_of (computation g.J.Key.Ord.cmp g.J.Key.Wire.codec g.J.Value.Wire.codec g.J.Job.functions)
    (record { job_laws = g.met.J.Job.laws; key_laws = g.met.J.Key.Wire.laws; value_laws = g.met.J.Value.Wire.laws; order = g.met.J.Key.Ord.total })
