use Rattle.mr_user.specs.Computation.{computation}
use Rattle.mr_shuffle.proofs.PieceLaws.{piece_is_what_it_says}
use Rattle.mr_shuffle.proofs.laws.piece_is_what_it_says.Goals as goal

pub returns : goal.returns
returns g c =
    piece_is_what_it_says (computation g.J.Key.Ord.cmp g.J.Key.Wire.codec g.J.Value.Wire.codec g.J.Job.functions)
    (record { job_laws = g.met.J.Job.laws; key_laws = g.met.J.Key.Wire.laws; value_laws = g.met.J.Value.Wire.laws; order = g.met.J.Key.Ord.total })
