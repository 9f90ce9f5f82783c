use Rattle.std.proofs.Common.{◌≡◌, ◌<◌, ℕ, zero, suc, List, [], ◌∷◌, Bor, length, get_or, refl, arith}
use Rattle.mr_user.specs.Computation.{computation}
use Rattle.mr_shuffle.specs.Part.{pairs_of_all}
use Rattle.mr_shuffle.specs.inner.Fault.{ReadFaultIs}
use Rattle.mr_shuffle.proofs.AllPieces.{handed_on, lent, piece_fault, piece_more, pieces_end}
use Rattle.mr_shuffle.proofs.work.check_lists.Goals as goal

-- What stands at a place does not depend on what would stand past the end.
stands : {A : Type 0} (xs : List A) (i : ℕ) (d : A) → i < length xs → get_or xs i d ≡ get_or xs i (get_or xs i d)
stands [] i d h = absurd (omega arith)
stands (x ∷ xs) zero d h = refl
stands (x ∷ xs) (suc i) d h = stands xs i d (omega arith)

pub loop-list-init : goal.loop-list-init
loop-list-init g c = refl

pub returns-in_err-check_piece-clause-fault : goal.returns-in_err-check_piece-clause-fault
returns-in_err-check_piece-clause-fault g c =
    let all = computation g.J.Key.Ord.cmp g.J.Key.Wire.codec g.J.Value.Wire.codec g.J.Job.functions in
    let none : Bor (List ℕ) = record { ref_ptr = (0, 0); now = [] } in
    let lists = c.args.lists.now in
    let i = c.loop-list.list-index in
    handed_on c.from_residual.result c.in_err-check_piece.field-0.0 (λ fault. ReadFaultIs fault (pairs_of_all all (lent lists))) c.from_residual.ensures.1
    (piece_fault all (lent lists) lists i (get_or lists i none) c.in_err-check_piece.field-0.0 c.loop-list.invariant c.loop-list-test.true (stands lists i none c.loop-list-test.true) c.in_err-check_piece.ensures.fault)

pub loop-list-preserved : goal.loop-list-preserved
loop-list-preserved g c =
    let all = computation g.J.Key.Ord.cmp g.J.Key.Wire.codec g.J.Value.Wire.codec g.J.Job.functions in
    let none : Bor (List ℕ) = record { ref_ptr = (0, 0); now = [] } in
    let lists = c.args.lists.now in
    let i = c.loop-list.list-index in
    piece_more all _ lists i (get_or lists i none) c.loop-list.invariant c.loop-list-test.true (stands lists i none c.loop-list-test.true) c.in_ok-check_piece.ensures.whole

pub returns-clause-whole : goal.returns-clause-whole
returns-clause-whole g c =
    let all = computation g.J.Key.Ord.cmp g.J.Key.Wire.codec g.J.Value.Wire.codec g.J.Job.functions in
    pieces_end all _ c.args.lists.now c.loop-list.list-index c.loop-list.invariant c.loop-list-test.false
