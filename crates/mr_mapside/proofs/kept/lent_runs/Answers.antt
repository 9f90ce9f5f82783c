use Rattle.std.proofs.Common.{ap, map, Bor, List, Vec, Global, ℕ}
use Rattle.mr_user.proofs.Lending.{lent_more}
use Rattle.mr_mapside.proofs.kept.lent_runs.Goals as goal

pub loop-run-init : goal.loop-run-init
loop-run-init c = ap (map (λ (bytes : Bor (List ℕ)). bytes.now)) c.in_ok-lists.ensures.items

pub loop-run-preserved : goal.loop-run-preserved
loop-run-preserved c =
    lent_more (λ (bytes : Bor (List ℕ)). bytes.now) (λ (run : Vec ℕ Global). run.items) c.loop-run.lists.items c.push.new.self.items c.as_slice.result c.args.runs.now
    c.loop-run.run-index c.run-item.result c.loop-run-test.true c.run-item.is c.loop-run.invariant c.in_ok-push.ensures.items c.as_slice.ensures.value
