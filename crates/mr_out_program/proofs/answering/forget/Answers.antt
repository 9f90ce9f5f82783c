use Rattle.mr_out_program.proofs.Outputs.{forgets_told}
use Rattle.mr_out_program.proofs.answering.forget.Goals as goal

pub returns-in-Ok : goal.returns-in-Ok
returns-in-Ok c = forgets_told c.in-Ok.directory c.forget_published.new.directory c.forget_published.result c.in-Ok.ensures c.forget_published.ensures
