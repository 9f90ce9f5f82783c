use Rattle.mr_explore_places.proofs.Slots.{in_row_at}
use Rattle.mr_explore_places.proofs.stores.covers.Goals as goal

pub returns-then-branch-clause-stands : goal.returns-then-branch-clause-stands
returns-then-branch-clause-stands g c = λ _. (c.kept-item.result.place.value, in_row_at c.args.row.now c.loop-kept.kept-index c.kept-item.result c.loop-kept-test.true c.kept-item.is, c.in_ok-is_for.ensures.stands c.if-branch.true)
