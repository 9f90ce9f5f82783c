use Rattle.mr_out_layout.specs.Recorded.{IsHistoryFault}
use Rattle.mr_out_layout.proofs.Fronts.{carried, segment_history}
use Rattle.mr_out_layout.proofs.recorded.records_in.Goals as goal

pub returns-in_err-read_segment-clause-failed : goal.returns-in_err-read_segment-clause-failed
returns-in_err-read_segment-clause-failed c =
    carried IsHistoryFault c.from_residual.result c.in_err-read_segment.field-0.0 c.from_residual.ensures.1
    (segment_history c.loop-number.number c.in_err-read_segment.field-0.0 c.in_err-read_segment.ensures.failed)
