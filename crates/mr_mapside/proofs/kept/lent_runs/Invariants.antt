use Rattle.std.proofs.Common.{◌≡◌, map, take}
use Rattle.mr_mapside.proofs.kept.lent_runs.Given as goal

abbrev pub invariant-loop-run : goal.invariant-loop-run
invariant-loop-run l = map (λ bytes. bytes.now) l.lists.items ≡ map (λ run. run.items) (take l.run-index l.runs)
