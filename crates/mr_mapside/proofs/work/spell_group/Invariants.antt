use Rattle.std.proofs.Common.{◌≡◌, ◌++◌, map, take}
use Rattle.mr_user.specs.Computation.{computation}
use Rattle.mr_mapside.specs.Block.{spelled}
use Rattle.mr_mapside.proofs.work.spell_group.Given as goal

abbrev pub invariant-loop-value : goal.invariant-loop-value
invariant-loop-value g l = l.out.items ≡ l.fn.out.items ++ spelled (computation g.J.Key.Ord.cmp g.J.Key.Wire.codec g.J.Value.Wire.codec g.J.Job.functions) (map (λ v. (l.key, v)) (take l.value-index l.value-items))
