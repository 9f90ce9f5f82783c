use Rattle.mr_out_calls.proofs.Living.{keeps_promises}
use Rattle.mr_out_calls.proofs.laws.recorded_directories_keep_promises.Goals as goal

pub returns : goal.returns
returns c = keeps_promises
