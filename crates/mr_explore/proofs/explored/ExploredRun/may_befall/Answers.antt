use Rattle.std.proofs.Common.{◌≡◌, None, subst}
use Rattle.mr_explore.specs.Runs.{Exploring, explored}
use Rattle.mr_explore.proofs.Onwards.{may_not}
use Rattle.mr_explore.proofs.explored.ExploredRun.may_befall.Goals as goal

pub returns-in-Ok-clause-cannot : goal.returns-in-Ok-clause-cannot
returns-in-Ok-clause-cannot c = λ no.
    subst (λ (e : Exploring). explored.befallen c.args.fault.now e ≡ None) c.self.view_is (may_not c.self.inside.past_limit c.self.inside.deep c.self.inside.player c.args.fault.now (c.in-Ok.ensures no))
