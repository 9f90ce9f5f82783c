use Rattle.std.proofs.Common.{codes}
use Rattle.mr_out_files.specs.Troubles.{IsMakingFault}
use Rattle.mr_out_files.proofs.Troubled.{handed_on, failed_fault, linked_fault}
use Rattle.mr_out_files.proofs.beginning.write_history.Goals as goal

pub returns-in_err-write_file : goal.returns-in_err-write_file
returns-in_err-write_file c =
    handed_on IsMakingFault c.from_residual-in_err-write_file.result c.in_err-write_file.field-0.0 c.from_residual-in_err-write_file.ensures.1
    (failed_fault (codes "write") c.deref.result.now c.in_err-write_file.field-0.0 c.in_err-write_file.ensures)

pub returns-in_err-note : goal.returns-in_err-note
returns-in_err-note c =
    handed_on IsMakingFault c.from_residual-in_err-note.result c.in_err-note.field-0.0 c.from_residual-in_err-note.ensures.1
    (failed_fault (codes "look") c.deref-2.result.now c.in_err-note.field-0.0 c.in_err-note.ensures)

pub returns : goal.returns
returns c = linked_fault c.args.name.now c.try_link.result c.try_link.ensures
