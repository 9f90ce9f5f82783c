use Rattle.std.proofs.Common.{◌∙◌, ◌+◌, ℕ, List, Bor, map, take, sym, ap}
use Rattle.std.proofs.lemmas.List.{map-id, take_all}
use Rattle.mr_user.proofs.Lending.{lent_more}
use Rattle.mr_shuffle.proofs.work.lent.Goals as goal

pub loop-piece-init : goal.loop-piece-init
loop-piece-init c = ap (map (λ (bytes : Bor (List ℕ)). bytes.now)) c.in_ok-slices.ensures.items

pub loop-piece-preserved : goal.loop-piece-preserved
loop-piece-preserved c =
    let i = c.loop-piece.piece-index in
    let pieces = c.args.pieces.now in
    lent_more (λ (bytes : Bor (List ℕ)). bytes.now) (λ (piece : List ℕ). piece) c.loop-piece.slices.items c.push.new.self.items c.as_slice.result pieces i c.piece-item.result
    c.loop-piece-test.true c.piece-item.is (c.loop-piece.invariant ∙ sym (map-id (take i pieces))) c.in_ok-push.ensures.items c.as_slice.ensures
    ∙ map-id (take (i + 1) pieces)

pub returns : goal.returns
returns c = c.loop-piece.invariant ∙ take_all c.loop-piece.piece-index c.args.pieces.now c.loop-piece-test.false
