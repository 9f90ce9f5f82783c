use Rattle.std.proofs.Common.{◌∙◌, sym, ap, List, length, slice_get, arith}
use Rattle.std.proofs.lemmas.Option.{slice_get_within}
use Rattle.mr_ids.specs.Attempt.{Attempt}
use Rattle.mr_master_model.specs.Readings.{is_live}
use Rattle.mr_master_state.proofs.Keeping.{held}
use Rattle.mr_master_state.proofs.Past_bars.{found-at, none-found}
use Rattle.mr_master_state.proofs.machine.Machine.first_bar.Goals as goal

pub returns-then-is_live : goal.returns-then-is_live
returns-then-is_live c = λ w s keeps.
    sym (found-at (is_live w s) s.bars c.loop-i.i c.in-Some.attempt (ap (λ (l : List Attempt). slice_get l c.loop-i.i) (sym (held c.self.view_is keeps).bars) ∙ sym c.in-Some.ensures)
    (sym (c.is_live.ensures w s keeps) ∙ c.if-is_live.true) (λ j y below at. c.loop-i.invariant w s j y keeps below at))

pub returns : goal.returns
returns c = λ w s keeps.
    sym (none-found (is_live w s) s.bars (λ i x at.
    let e = slice_get_within s.bars i x at in
    let f = ap (λ (l : List Attempt). length l) (held c.self.view_is keeps).bars in
    let g = c.loop-i-test.false in
    let h = c.len-i-end.ensures in
    c.loop-i.invariant w s i x keeps (omega arith) at))
