use Rattle.std.proofs.Common.{◌<◌, ◌≤◌, refl, ◌∙◌, ap, List, length, get_or, arith}
use Rattle.mr_history.specs.declared.record.Record.{Record}
use Rattle.mr_master_model.specs.Answered.{recorded}
use Rattle.mr_master_tables.specs.Records.{Writing}
use Rattle.mr_master_state.specs.State.{Master}
use Rattle.mr_master_state.proofs.Flushes.{recorded-none, recorded-more, recorded-all}
use Rattle.mr_master_state.proofs.machine.Machine.record_tail.Goals as goal

pub loop-i-init : goal.loop-i-init
loop-i-init c = record { moves = λ w s k. recorded-none w s k; writing = refl }

pub loop-i-preserved : goal.loop-i-preserved
loop-i-preserved c = record {
  moves = λ w s k.
      let rs = c.args.self.now.writing.tail in
      let r = c.index-tail-i.result in
      let first = c.tail-len.ensures ∙ ap (λ (m : Master). m.writing.tail) c.self.view_is in
      let length-is = ap (λ (l : List Record). length l) first in
      let within : c.loop-i.i < length rs = omega (arith, length-is, c.loop-i-test.true) in
      let tail-is = c.tail.ensures ∙ ap (λ (m : Master). m.writing.tail) c.self-in-loop-i.view_is ∙ ap (λ (x : Writing). x.tail) c.loop-i.invariant.writing in
      recorded-more w s rs c.loop-i.i r within (c.index-tail-i.is ∙ ap (λ (l : List Record). get_or l c.loop-i.i r) tail-is)
      (c.record_one.ensures.moves w (recorded w s _) (c.loop-i.invariant.moves w s k));
  writing = c.record_one.ensures.writing ∙ c.loop-i.invariant.writing;
}

pub returns : goal.returns
returns c = λ w s k.
    let rs = c.args.self.now.writing.tail in
    let first = c.tail-len.ensures ∙ ap (λ (m : Master). m.writing.tail) c.self.view_is in
    let length-is = ap (λ (l : List Record). length l) first in
    let all : length rs ≤ c.loop-i.i = omega (arith, length-is, c.loop-i-test.false) in
    recorded-all w s rs c.loop-i.i all k.writing.tail (c.loop-i.invariant.moves w s k)
