use Rattle.std.proofs.Common.{Option, subst}
use Rattle.mr_out_layout.specs.Faults.{IsRefusal}
use Rattle.mr_out_layout.specs.declared.fault.Why.TheVariants.{NoAttempt}
use Rattle.mr_out_steps.specs.declared.order.Order.TheVariants as order
use Rattle.mr_out_program.specs.declared.saying.Saying.{Saying}
use Rattle.mr_out_program.specs.Sayings.{done_saying}
use Rattle.mr_out_program.specs.Carried.{SaysIfAny}
use Rattle.mr_out_program.proofs.Telling.{tells_ok}
use Rattle.mr_out_program.proofs.attempts.done_by.Goals as goal

pub returns-in-Ok : goal.returns-in-Ok
returns-in-Ok c =
    tells_ok (order.Done c.args.a) done_saying (IsRefusal c.args.text.now NoAttempt) c.args.directory.now c.settle.new.directory c.in-Ok.end c.said_or_refused.result c.in-Ok.ensures
    (subst (λ (saying : Option Saying). SaysIfAny (IsRefusal c.args.text.now NoAttempt) saying c.said_or_refused.result) c.done_saying.ensures c.said_or_refused.ensures)
