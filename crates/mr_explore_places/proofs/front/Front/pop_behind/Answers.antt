use Rattle.mr_explore_places.proofs.Fronts.{left_so}
use Rattle.mr_explore_places.proofs.front.Front.pop_behind.Goals as goal

pub returns : goal.returns
returns g c = rw (← c.self.view_is) (left_so c.self.inside.behind.items c.pop.new.self.items c.self.inside.abreast.items c.pop.result c.pop.ensures.items)
