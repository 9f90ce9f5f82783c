use Rattle.mr_explore_search.proofs.Coming.{runs_are_all}
use Rattle.mr_explore_search.proofs.laws.runs_are_all_that_depart.Goals as goal

pub returns : goal.returns
returns g c = λ most faults s r. runs_are_all g.R.Run.steps most faults s r
