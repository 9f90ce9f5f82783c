use Rattle.std.proofs.Common.{◌≡◌, map, take}
use Rattle.mr_shuffle.proofs.work.lent.Given as goal

abbrev pub invariant-loop-piece : goal.invariant-loop-piece
invariant-loop-piece l = map (λ bytes. bytes.now) l.slices.items ≡ take l.piece-index l.pieces
