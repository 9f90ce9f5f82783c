use Rattle.mr_user.specs.Computation.{computation}
use Rattle.mr_mapside.proofs.Outputs.{output_cut}
use Rattle.mr_mapside.proofs.laws.output_is_its_blocks.Goals as goal

pub returns : goal.returns
returns g c = output_cut (computation g.J.Key.Ord.cmp g.J.Key.Wire.codec g.J.Value.Wire.codec g.J.Job.functions)
