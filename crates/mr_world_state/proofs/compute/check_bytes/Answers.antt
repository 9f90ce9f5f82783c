use Rattle.std.proofs.Common.{◌∙◌, ap, sym}
use Rattle.mr_world_state.specs.inner.Computing.{bytes_fault, unless_fault}
use Rattle.mr_world_state.proofs.compute.check_bytes.Goals as goal

pub returns-in-Reduce : goal.returns-in-Reduce
returns-in-Reduce c = c.check_result.ensures c.args.reduces ∙ ap (λ k. unless_fault (bytes_fault k c.args.reduces c.args.bytes.now)) (sym c.in-Reduce.is)
