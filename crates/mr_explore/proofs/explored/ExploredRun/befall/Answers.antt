use Rattle.std.proofs.Common.{◌≡◌, true, Some, None, subst}
use Rattle.mr_explore.specs.Runs.{Exploring, explored}
use Rattle.mr_explore.specs.inner.Players.{view_with}
use Rattle.mr_explore.proofs.Onwards.{as_befell, as_not, as_passed}
use Rattle.mr_explore.proofs.explored.ExploredRun.befall.Goals as goal

pub returns-in-Ok-Befell-clause-is : goal.returns-in-Ok-Befell-clause-is
returns-in-Ok-Befell-clause-is c =
    let was = view_with c.self.inside.past_limit c.self.inside.deep c.self.inside.player in
    subst (λ (e : Exploring). explored.befallen c.args.fault e ≡ Some (view_with c.self.inside.past_limit c.self.inside.deep c.befall_if.new.player)) c.self.view_is
    (as_befell (explored.befallen c.args.fault was) c.self.inside.past_limit c.self.inside.deep c.in-Ok-Befell.field-0 c.befall_if.new.player c.in-Ok-Befell.field-0-is (c.in-Ok-Befell.ensures c.self.inside.deep))

pub returns-in-Ok-CanNot-clause-is : goal.returns-in-Ok-CanNot-clause-is
returns-in-Ok-CanNot-clause-is c =
    let was = view_with c.self.inside.past_limit c.self.inside.deep c.self.inside.player in
    subst (λ (e : Exploring). explored.befallen c.args.fault e ≡ None) c.self.view_is
    (as_not (explored.befallen c.args.fault was) c.self.inside.past_limit c.self.inside.deep c.in-Ok-CanNot.field-0 c.befall_if.new.player c.in-Ok-CanNot.field-0-is (c.in-Ok-CanNot.ensures c.self.inside.deep))

pub returns-in-Ok-PassesLimit-clause-is : goal.returns-in-Ok-PassesLimit-clause-is
returns-in-Ok-PassesLimit-clause-is c =
    let was = view_with c.self.inside.past_limit c.self.inside.deep c.self.inside.player in
    subst (λ (e : Exploring). explored.befallen c.args.fault e ≡ Some (view_with true c.self.inside.deep c.befall_if.new.player)) c.self.view_is
    (as_passed (explored.befallen c.args.fault was) c.self.inside.past_limit c.self.inside.deep c.in-Ok-PassesLimit.field-0 c.befall_if.new.player c.in-Ok-PassesLimit.field-0-is (c.in-Ok-PassesLimit.ensures c.self.inside.deep))
