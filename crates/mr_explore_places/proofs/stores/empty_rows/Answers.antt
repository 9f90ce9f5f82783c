use Rattle.std.proofs.Common.{subst}
use Rattle.mr_explore_places.specs.Keeping.{IsKept}
use Rattle.mr_explore_places.proofs.Slots.{none_more}
use Rattle.mr_explore_places.proofs.stores.empty_rows.Goals as goal

pub loop-init : goal.loop-init
loop-init g c = λ h i. subst (λ z. IsKept z h) c.new-rows.ensures.items i

pub loop-preserved : goal.loop-preserved
loop-preserved g c = λ h i. none_more c.loop.rows.items (record { kept = c.new.result }) c.new.ensures.items c.loop.invariant h (subst (λ z. IsKept z h) c.in_ok-push.ensures.items i)

pub returns : goal.returns
returns g c = c.loop.invariant
