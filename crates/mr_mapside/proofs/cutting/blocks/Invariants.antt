use Rattle.std.proofs.Common.{◌≡◌, ◌-◌, is_some}
use Rattle.mr_mapside.specs.Cutting.{cut}
use Rattle.mr_mapside.proofs.cutting.blocks.Given as goal

abbrev pub invariant-loop : goal.invariant-loop
invariant-loop l = is_some (cut l.reduces l.bytes) ≡ is_some (cut (l.reduces - l.counter) l.rest)
