use Rattle.std.proofs.Common.{Err, sym, ◌∙◌, subst}
use Rattle.mr_history.specs.declared.fault.HistoryFault.{HistoryFault}
use Rattle.mr_history.specs.Reading.{Replays}
use Rattle.mr_out_layout.proofs.Ends.{told_one, told_bad}
use Rattle.mr_out_layout.proofs.lines.replayed.Goals as goal

pub returns-in-Ok : goal.returns-in-Ok
returns-in-Ok c = c.first_of.ensures ∙ told_one c.args.line.now c.args.whole.now c.in-Ok.told c.requires.clean c.requires.whole c.in-Ok.ensures

pub returns-in-Err-BadLine : goal.returns-in-Err-BadLine
returns-in-Err-BadLine c =
    let P : HistoryFault → Type 0 = λ e. Replays c.args.whole.now (Err e) in
    sym (told_bad c.args.line.now c.args.whole.now c.in-Err-BadLine.field-0-0 c.requires.clean c.requires.whole (subst P c.in-Err-BadLine.field-0-is c.in-Err-BadLine.ensures))
