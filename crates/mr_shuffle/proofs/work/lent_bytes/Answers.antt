use Rattle.std.proofs.Common.{ap, map, Bor, List, ℕ}
use Rattle.mr_user.proofs.Lending.{lent_more}
use Rattle.mr_shuffle.specs.declared.piece.Piece.{Piece}
use Rattle.mr_shuffle.proofs.work.lent_bytes.Goals as goal

pub loop-part-init : goal.loop-part-init
loop-part-init c = ap (map (λ (bytes : Bor (List ℕ)). bytes.now)) c.in_ok-lists.ensures.items

pub loop-part-preserved : goal.loop-part-preserved
loop-part-preserved c =
    lent_more (λ (bytes : Bor (List ℕ)). bytes.now) (λ (part : Piece). part.bytes) c.loop-part.lists.items c.push.new.self.items c.as_slice.result c.args.parts.now
    c.loop-part.part-index c.part-item.result c.loop-part-test.true c.part-item.is c.loop-part.invariant c.in_ok-push.ensures.items c.as_slice.ensures
