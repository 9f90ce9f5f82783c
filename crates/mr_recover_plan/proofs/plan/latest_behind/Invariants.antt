use Rattle.std.proofs.Common.{◌≡◌, drop}
use Rattle.mr_recover_plan.specs.inner.Segments.{latest_behind}
use Rattle.mr_recover_plan.proofs.plan.latest_behind.Given as goal

abbrev pub invariant-loop-told : goal.invariant-loop-told
invariant-loop-told l = latest_behind l.latest (drop l.told-index l.records) ≡ latest_behind l.fn.latest l.records
