use Rattle.std.proofs.Common.{◌≡◌, length, Bool, Ok, subst}
use Rattle.mr_explore_search.specs.Steps.{GoesOn}
use Rattle.mr_explore_places.proofs.Within.{stepped}
use Rattle.mr_explore_places.proofs.following.step_on.Goals as goal

pub returns-then-branch : goal.returns-then-branch
returns-then-branch g c =
    let went = subst (λ (b : Bool). GoesOn (g.R.Run.steps.onward c.place.inside.run) (Ok b) c.go_on.new.self) c.if-branch.true c.in_ok-go_on.ensures in
    let long : c.len-place-inside.result ≡ length c.place.inside.owed.items = search in
    rw (← c.place.view_is) (c.go_on.new.self, went, stepped (record { faults = c.place.inside.faults; ripe = c.place.inside.ripe; owed = c.place.inside.owed.items; run = c.place.inside.run }) c.len-place-inside.result c.go_on.new.self long)
