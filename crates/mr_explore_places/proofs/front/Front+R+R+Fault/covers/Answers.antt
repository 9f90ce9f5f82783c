use Rattle.std.proofs.Common.{refl, subst}
use Rattle.mr_explore_search.specs.Laws.{In}
use Rattle.mr_explore_places.proofs.Lists.{in_at, in_right}
use Rattle.mr_explore_places.proofs.front.Front+R+R+Fault.covers.Goals as goal

pub returns-then-branch-clause-stands : goal.returns-then-branch-clause-stands
returns-then-branch-clause-stands g c = λ _.
    let there = in_at c.deref-going-items.result.now c.loop-going.going-index c.going-item.result c.loop-going-test.true c.going-item.is in
    let abreast = subst (λ z. In c.going-item.result z) c.deref-going-items.ensures.value there in
    let among = subst (λ z. In c.going-item.result z) c.self.view_is (in_right c.going-item.result c.self.inside.behind.items c.self.inside.abreast.items abreast) in
    (c.going-item.result.here, (c.going-item.result, among, refl), c.in_ok-is_for.ensures.stands c.if-branch.true)
