use Rattle.mr_out_files.proofs.Troubled.{opened_append}
use Rattle.mr_out_files.proofs.history.History.open_end.Goals as goal

pub returns-else-self-clause-failed : goal.returns-else-self-clause-failed
returns-else-self-clause-failed c = opened_append c.args.self.now.newest c.append_to.result c.append_to.ensures
