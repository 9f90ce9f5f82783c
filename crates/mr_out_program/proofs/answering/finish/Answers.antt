use Rattle.std.proofs.Common.{Some}
use Rattle.mr_out_steps.specs.declared.order.Order.TheVariants as order
use Rattle.mr_out_program.specs.declared.saying.Saying.TheVariants.{Done}
use Rattle.mr_out_program.specs.Carried.{Never, CarriesAndTells}
use Rattle.mr_out_program.proofs.Outputs.{in_opened}
use Rattle.mr_out_program.proofs.answering.finish.Goals as goal

pub returns : goal.returns
returns c =
    in_opened (CarriesAndTells order.Resume (λ end. Some Done) Never) c.in_ok-open.field-0 c.recover.new.directory c.recover.result c.in_ok-open.ensures c.recover.ensures
