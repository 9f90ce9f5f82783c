use Rattle.mr_explore_least.proofs.LeastRows.{are_least}
use Rattle.mr_explore_least.proofs.laws.rows_are_the_least_runs.Goals as goal

pub returns : goal.returns
returns c = are_least
