use Rattle.std.proofs.Common.{◌≡◌, ◌-◌, Some, drop, length}
use Rattle.mr_mapside.specs.Cutting.{cut}
use Rattle.mr_mapside.proofs.cutting.OutputBlocks.get.Given as goal

abbrev pub invariant-loop : goal.invariant-loop
invariant-loop l = cut (length l.self - l.counter) l.rest ≡ Some (drop l.counter l.self)
