use Rattle.std.proofs.Common.{◌∙◌}
use Rattle.mr_out_layout.specs.Recorded.{IsReadingFault}
use Rattle.mr_out_layout.proofs.Fronts.{carried, look_reading}
use Rattle.mr_out_layout.proofs.recorded.read_recorded.Goals as goal

pub returns-in_err-found-clause-failed : goal.returns-in_err-found-clause-failed
returns-in_err-found-clause-failed c =
    carried (IsReadingFault c.args.dir.now) c.from_residual-in_err-found.result c.in_err-found.field-0.0 c.from_residual-in_err-found.ensures.1
    (look_reading c.args.dir.now c.deref.result.now c.in_err-found.field-0.0 (c.deref.ensures ∙ c.in_ok-home.ensures.ok) c.in_err-found.ensures.failed)
