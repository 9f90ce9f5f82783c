use Rattle.std.proofs.Common.{subst}
use Rattle.std.specs.Prelude.{IfOk}
use Rattle.mr_out_program.specs.declared.saying.Saying.{Saying}
use Rattle.mr_out_program.specs.Carried.{Says}
use Rattle.mr_out_program.proofs.Telling.{forgets_ok}
use Rattle.mr_out_program.proofs.answering.forget_published.Goals as goal

pub returns-in-Ok : goal.returns-in-Ok
returns-in-Ok c =
    forgets_ok c.args.directory.now c.settle.new.directory c.in-Ok.end c.forgotten.result c.in-Ok.ensures
    (subst (λ (saying : Saying). IfOk c.forgotten.result (Says saying)) c.order_saying.ensures c.forgotten.ensures.says)
    c.forgotten.ensures.failed
