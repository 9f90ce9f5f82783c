use Rattle.std.proofs.Common.{◌≡◌, List, ◌++◌, sym, ◌∙◌, subst}
use Rattle.std.specs.List.{AllByRecursion}
use Rattle.mr_history.specs.declared.record.Record.{Record}
use Rattle.mr_history.specs.Line.{lines, IsRecordOf}
use Rattle.mr_out_layout.proofs.Ends.{more_front, ends_clean, ends_bad}
use Rattle.mr_out_layout.proofs.lines.front.Goals as goal

pub returns-in_default-2 : goal.returns-in_default-2
returns-in_default-2 c = ends_bad c.args.bytes.now c.loop-line.rest.now c.in-Some.line.now c.in-Some.after.now c.loop-line.records c.loop-line.invariant c.in-Some.ensures.some.0 c.in-Some.ensures.some.1 (sym c.in_default-2.is ∙ c.in_ok-record.ensures)

pub loop-line-preserved : goal.loop-line-preserved
loop-line-preserved c =
    let more = more_front c.args.bytes.now c.loop-line.rest.now c.in-Some.line.now c.in-Some.after.now c.loop-line.records c.in-Some-2.record c.loop-line.invariant c.in-Some.ensures.some.1 (sym c.in-Some-2.is ∙ c.in_ok-record.ensures) in
    let P : List Record → Type 0 = λ rs. (c.args.bytes.now ≡ lines rs ++ c.in-Some.after.now) × AllByRecursion (IsRecordOf 1) rs in
    subst P (sym c.in_ok-push.ensures.ok) more

pub returns : goal.returns
returns c = ends_clean c.args.bytes.now c.loop-line.rest.now c.loop-line.records c.loop-line.invariant c.in_default.ensures.none
