use Rattle.std.proofs.Common.{◌++◌, List, subst}
use Rattle.mr_explore_places.specs.Fronts.{Leaves, Underway}
use Rattle.mr_explore_places.proofs.Fronts.{left_of_all, left_so}
use Rattle.mr_explore_places.proofs.front.Front.pop.Goals as goal

pub returns-then-not-is_empty-clause-leaves : goal.returns-then-not-is_empty-clause-leaves
returns-then-not-is_empty-clause-leaves g c = rw (← c.self.view_is) (left_so c.self.inside.behind.items c.pop.new.self.items c.self.inside.abreast.items c.pop.result c.pop.ensures.items)

pub returns-clause-leaves : goal.returns-clause-leaves
returns-clause-leaves g c =
    let left = left_of_all c.append.new.self.items c.pop-2.new.self.items c.append.new.other.items c.pop-2.result c.pop-2.ensures.items c.in_ok-append.ensures.other_items in
    rw (← c.self.view_is) (subst (λ (z : List (Underway g.row.R.Denot g.row.F.Denot)). Leaves z c.pop-2.result (c.pop-2.new.self.items ++ c.append.new.other.items)) c.in_ok-append.ensures.items left)
