-- Which fault may stand in the place of what is meant (a profile of its own).
use Rattle.std.specs.Prelude.{◌≡◌, Result, Err}
use Rattle.mr_user.specs.declared.fault.UserFault.{UserFault}
use Rattle.mr_user.specs.declared.fault.UserFault.TheVariants as user
use Rattle.mr_mapside.specs.declared.fault.ShuffleFault.{ShuffleFault}
use Rattle.mr_mapside.specs.declared.fault.ShuffleFault.TheVariants as shuffle

-- what a reading that gave no pair says of a piece
abbrev pub read_fault : UserFault → ShuffleFault
read_fault user.NoMemory = shuffle.NoMemory
read_fault user.Refused = shuffle.Truncated
read_fault user.BadWire = shuffle.Truncated

-- an allocation failure, or the fault of what bytes mean, which is never that a piece is another one
abbrev pub ReadFaultIs : {A : Type 0} → ShuffleFault → Result A ShuffleFault → Type 0
ReadFaultIs shuffle.NoMemory meant = Unit {0}
ReadFaultIs shuffle.WrongPiece meant = ⊥
ReadFaultIs shuffle.Truncated meant = meant ≡ Err shuffle.Truncated
ReadFaultIs shuffle.Disorder meant = meant ≡ Err shuffle.Disorder
