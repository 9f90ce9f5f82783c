use Rattle.std.proofs.Common.{◌∙◌, ap, length}
use Rattle.mr_history.specs.Calls.{segment}
use Rattle.mr_history.specs.State.{State}
use Rattle.mr_world.proofs.Read_masters.{unflushed-is}
use Rattle.mr_world.proofs.reading.unflushed.Goals as goal

pub returns-in-Ok : goal.returns-in-Ok
returns-in-Ok c = λ w s. unflushed-is c.args.parts.now w c.args.k c.tail.result s c.in-Ok.ensures.alive
    (c.tail.ensures ∙ (ap (λ (h : State). length (segment h c.in-Ok.app).tail) c.deref.ensures ∙ ap (λ k. length (segment c.args.parts.now.history k).tail) c.in-Ok.ensures.is))
