use Rattle.std.proofs.Common.{◌≡◌, take}
use Rattle.mr_ids.proofs.contents.Bytes.copies.Given as goal

abbrev pub invariant-loop-bytes : goal.invariant-loop-bytes
invariant-loop-bytes l = l.copies.items ≡ take l.bytes-index l.all
