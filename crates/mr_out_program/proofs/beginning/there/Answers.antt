use Rattle.mr_out_program.specs.Asking.{IsAlike}
use Rattle.mr_out_program.proofs.Outputs.{says_second}
use Rattle.mr_out_program.proofs.beginning.there.Goals as goal

pub returns-in-Ok : goal.returns-in-Ok
returns-in-Ok c = says_second (IsAlike c.in-Ok.found.job c.args.job.now) c.is_there.result c.is_there.ensures.done
