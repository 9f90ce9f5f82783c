use Rattle.std.proofs.Common.{◌∙◌}
use Rattle.mr_out_layout.specs.declared.fault.Why.TheVariants.{NoFile}
use Rattle.mr_out_files.specs.Troubles.{IsSegmentTrouble}
use Rattle.mr_out_files.proofs.Troubled.{handed_on, looked_segment, refused_segment, told_segment}
use Rattle.mr_out_files.proofs.history.History.read_segment.Goals as goal

pub returns-in_err-found : goal.returns-in_err-found
returns-in_err-found c =
    handed_on (IsSegmentTrouble c.args.number) c.from_residual-in_err-found.result c.in_err-found.field-0.0 c.from_residual-in_err-found.ensures.1
    (looked_segment c.args.number c.deref.result.now c.in_err-found.field-0.0 (c.deref.ensures ∙ c.in_ok-path.ensures) c.in_err-found.ensures.failed)

pub returns-then-number-eq1 : goal.returns-then-number-eq1
returns-then-number-eq1 c = refused_segment c.args.number c.deref-then-number-eq1.result.now NoFile c.refused.result (c.deref-then-number-eq1.ensures ∙ c.in_ok-path.ensures) tt c.refused.ensures

pub returns-in_err-told : goal.returns-in_err-told
returns-in_err-told c =
    handed_on (IsSegmentTrouble c.args.number) c.from_residual-in_err-told.result c.in_err-told.field-0.0 c.from_residual-in_err-told.ensures.1
    (told_segment c.args.number c.deref-2.result.now c.in_err-told.field-0.0 (c.deref-2.ensures ∙ c.in_ok-path.ensures) c.in_err-told.ensures)
