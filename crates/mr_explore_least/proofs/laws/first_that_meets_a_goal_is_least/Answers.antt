use Rattle.mr_explore_least.proofs.GoalRows.{goal_has_least}
use Rattle.mr_explore_least.proofs.laws.first_that_meets_a_goal_is_least.Goals as goal

pub returns : goal.returns
returns c = goal_has_least
