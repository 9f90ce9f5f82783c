use Rattle.std.proofs.Common.{◌≡◌, map, take}
use Rattle.mr_shuffle.specs.Work.{bytes_of}
use Rattle.mr_shuffle.proofs.work.lent_bytes.Given as goal

abbrev pub invariant-loop-part : goal.invariant-loop-part
invariant-loop-part l = map (λ bytes. bytes.now) l.lists.items ≡ bytes_of (take l.part-index l.parts)
