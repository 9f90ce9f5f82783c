use Rattle.std.proofs.Common.{subst}
use Rattle.mr_explore_search.specs.Steps.{GoesOn}
use Rattle.mr_explore.specs.Runs.{Exploring, explored}
use Rattle.mr_explore.specs.inner.Players.{view_with}
use Rattle.mr_explore.proofs.explored.ExploredRun.go_on.Goals as goal

pub returns : goal.returns
returns c = subst (λ (e : Exploring). GoesOn (explored.onward e) c.go_on.result (view_with c.self.inside.past_limit c.self.inside.deep c.go_on.new.player)) c.self.view_is c.go_on.ensures
