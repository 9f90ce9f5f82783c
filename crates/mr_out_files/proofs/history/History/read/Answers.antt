use Rattle.mr_out_files.specs.Troubles.{IsHistoryTrouble}
use Rattle.mr_out_files.proofs.Troubled.{handed_on, segment_trouble, gap_trouble}
use Rattle.mr_out_files.proofs.history.History.read.Goals as goal

pub returns-in_err-read_segment : goal.returns-in_err-read_segment
returns-in_err-read_segment c =
    handed_on IsHistoryTrouble c.from_residual.result c.in_err-read_segment.field-0.0 c.from_residual.ensures.1
    (segment_trouble c.loop-number.number c.in_err-read_segment.field-0.0 c.in_err-read_segment.ensures)

pub returns-in_err-refuse_gap : goal.returns-in_err-refuse_gap
returns-in_err-refuse_gap c =
    handed_on IsHistoryTrouble c.from_residual-in_err-refuse_gap.result c.in_err-refuse_gap.field-0.0 c.from_residual-in_err-refuse_gap.ensures.1
    (gap_trouble c.loop-number.number c.in_err-refuse_gap.field-0.0 c.in_err-refuse_gap.ensures)
