-- What a reduce work is handed, and what it answers (a profile of its own; the merging and the reducing are those of
-- Dean and Ghemawat 2004, section 3.1).
use Rattle.std.specs.Prelude.{◌≡◌, ℕ, ◌<◌, List, map, length, Some, Result, Ok, Err, slice_get}
use Rattle.mr_mapside.specs.declared.fault.ShuffleFault.{ShuffleFault}
use Rattle.mr_mapside.specs.declared.fault.ShuffleFault.TheVariants as shuffle
use Rattle.mr_mapside.specs.declared.fault.WorkFault.{WorkFault}
use Rattle.mr_mapside.specs.declared.fault.WorkFault.TheVariants as work
use Rattle.mr_shuffle.specs.declared.piece.Piece.{Piece}

-- the bytes of pieces
abbrev pub bytes_of : List Piece → List (List ℕ)
bytes_of parts = map (λ p. p.bytes) parts

-- the piece at each place is of the map of that number, and of the reduce
abbrev pub ArePiecesOf : ℕ → List Piece → Type 0
ArePiecesOf reduce parts = (i : ℕ) (p : Piece) → slice_get parts i ≡ Some p → (p.map ≡ i) × (p.reduce ≡ reduce)

-- a fault of pieces, as the fault of a work
abbrev pub in_work : ShuffleFault → WorkFault
in_work shuffle.NoMemory = work.NoMemory
in_work shuffle.WrongPiece = work.Shuffle shuffle.WrongPiece
in_work shuffle.Truncated = work.Shuffle shuffle.Truncated
in_work shuffle.Disorder = work.Shuffle shuffle.Disorder

-- The fault that a reduce work answers, by whether the gate may refuse, whether its pieces are in place, and its
-- part, a text or a fault. It is the gate's, then WrongPiece, then the part's own, then Full, where the text is
-- longer than `most`. An allocation failure is none of these, but comes only where the pieces are in place.
abbrev pub ReduceFaultIs : (GateRefuses InPlace : Type 0) → Result (List ℕ) ShuffleFault → ℕ → WorkFault → Type 0
ReduceFaultIs GateRefuses InPlace part most (work.User fault) = ⊥
ReduceFaultIs GateRefuses InPlace part most (work.Gate fault) = GateRefuses
ReduceFaultIs GateRefuses InPlace part most (work.Shuffle shuffle.WrongPiece) = ¬ InPlace
ReduceFaultIs GateRefuses InPlace part most (work.Shuffle shuffle.Truncated) = InPlace × (part ≡ Err shuffle.Truncated)
ReduceFaultIs GateRefuses InPlace part most (work.Shuffle shuffle.Disorder) = InPlace × (part ≡ Err shuffle.Disorder)
ReduceFaultIs GateRefuses InPlace part most (work.Shuffle shuffle.NoMemory) = ⊥
ReduceFaultIs GateRefuses InPlace part most work.Full = InPlace × ((text : List ℕ) × (part ≡ Ok text) × (most < length text))
ReduceFaultIs GateRefuses InPlace part most work.NoMemory = InPlace
