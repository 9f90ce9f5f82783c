use Rattle.std.proofs.Common.{◌++◌, map, Ok, ap, ◌∙◌}
use Rattle.std.proofs.lemmas.Iterator.Adapters.{fact_from_extend}
use Rattle.std.proofs.lemmas.Iterator.Consumers.{YieldsList-from_rest}
use Rattle.mr_explore_places.proofs.level.copy_of_faults.Goals as goal

pub returns : goal.returns
returns g c =
    fact_from_extend {E = Unit {0}} (λ y. y.now) (Ok tt) c.in_ok-extend.ensures.ran (λ it b. YieldsList-from_rest c.args.faults.now b.0)
    (λ xs e h. h ∙ (ap (λ ys. ys ++ map (λ x. x.now) xs) c.new-copy.ensures ∙ e))
