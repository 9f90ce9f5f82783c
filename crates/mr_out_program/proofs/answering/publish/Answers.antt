use Rattle.std.proofs.Common.{Some, subst}
use Rattle.mr_out_steps.specs.declared.order.Order.TheVariants as order
use Rattle.mr_out_program.specs.declared.saying.Saying.{Saying}
use Rattle.mr_out_program.specs.Sayings.{publish_saying}
use Rattle.mr_out_program.specs.Carried.{Never, SaysIfAny}
use Rattle.mr_out_program.proofs.Telling.{tells_ok}
use Rattle.mr_out_program.proofs.answering.publish.Goals as goal

pub returns-in-Ok : goal.returns-in-Ok
returns-in-Ok c =
    tells_ok order.Publish (λ end. Some (publish_saying end)) Never c.args.directory.now c.settle.new.directory c.in-Ok.end c.said.result c.in-Ok.ensures
    (subst (λ (saying : Saying). SaysIfAny Never (Some saying) c.said.result) c.publish_saying.ensures c.said.ensures)
