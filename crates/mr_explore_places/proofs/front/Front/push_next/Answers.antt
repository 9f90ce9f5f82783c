use Rattle.std.proofs.Common.{◌++◌, ◌∷◌, [], List, sym, subst}
use Rattle.mr_explore_places.specs.Fronts.{AreSame, Underway}
use Rattle.mr_explore_places.proofs.Fronts.{more_of_all}
use Rattle.mr_explore_places.proofs.front.Front.push_next.Goals as goal

pub returns : goal.returns
returns g c = rw (← c.self.view_is) (subst (λ (z : List (Underway g.row.R.Denot g.row.F.Denot)). AreSame ((c.self.inside.behind.items ++ c.self.inside.abreast.items) ++ c.args.going ∷ []) (z ++ c.self.inside.abreast.items)) (sym c.in_ok-push.ensures.items) (more_of_all c.self.inside.behind.items c.self.inside.abreast.items c.args.going))
