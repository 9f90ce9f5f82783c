use Rattle.std.proofs.Common.{◌≡◌, ℕ, ◌<◌, Some, slice_get}
use Rattle.mr_shuffle.specs.declared.piece.Piece.{Piece}
use Rattle.mr_shuffle.proofs.piece.are_pieces_of.Given as goal

abbrev pub invariant-loop-place : goal.invariant-loop-place
invariant-loop-place l = (i : ℕ) (p : Piece) → i < l.place → slice_get l.parts i ≡ Some p → (p.map ≡ i) × (p.reduce ≡ l.reduce)
