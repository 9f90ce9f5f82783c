use Rattle.mr_explore_likeness.proofs.Losing.{careful_are_runs}
use Rattle.mr_explore_likeness.proofs.careful_runs_are_runs.Goals as goal

pub returns : goal.returns
returns c = careful_are_runs
