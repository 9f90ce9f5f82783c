use Rattle.std.proofs.Common.{refl}
use Rattle.mr_world_state.proofs.Asking.{refused-early, not-told-of, foreseen-of}
use Rattle.mr_world_state.proofs.duty.find_duty.Goals as goal

pub returns-in_err-duty : goal.returns-in_err-duty
returns-in_err-duty c = λ p keeps. refused-early p c.args.app c.args.weather c.from_residual.result c.in_err-duty.field-0.0 (c.in_err-duty.ensures.refused p c.args.app keeps.at c.args.weather) c.from_residual.ensures.1

pub returns-in_err-answer : goal.returns-in_err-answer
returns-in_err-answer c = λ p keeps. refused-early p c.args.app c.args.weather c.from_residual-in_err-answer.result c.in_err-answer.field-0.0
    (not-told-of c.args.names.now c.args.history.now c.args.machine.now c.args.app c.args.weather c.in_ok-duty.duty.call c.call.result.now c.in_err-answer.field-0.0 c.in_ok-duty.ensures.due c.call.ensures
    c.in_err-answer.ensures.refused p keeps) c.from_residual-in_err-answer.ensures.1

pub returns : goal.returns
returns c = λ p keeps. (
  refl,
  foreseen-of c.args.names.now c.args.history.now c.args.machine.now c.args.app c.args.weather c.in_ok-duty.duty.call c.call.result.now c.in_ok-answer.answer c.in_ok-duty.ensures.due c.call.ensures
      c.in_ok-answer.ensures.ranged c.in_ok-answer.ensures.room c.in_ok-answer.ensures.told p keeps,
)
