use Rattle.mr_out_steps.specs.declared.order.Order.TheVariants as order
use Rattle.mr_out_program.specs.Sayings.{done_saying}
use Rattle.mr_out_program.specs.Carried.{CarriesAndTellsOf}
use Rattle.mr_out_program.proofs.Outputs.{in_opened}
use Rattle.mr_out_program.proofs.answering.done_in.Goals as goal

pub returns : goal.returns
returns c =
    in_opened (CarriesAndTellsOf order.Done done_saying c.args.text.now) c.in_ok-open_done.field-0 c.done.new.directory c.done.result c.in_ok-open_done.ensures c.done.ensures
