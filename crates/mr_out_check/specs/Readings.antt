-- What is seen of a whole listing: each of what it lists, in order, or its first fault. What it lists says mr_out_listing.
use Rattle.std.specs.Prelude.{◌≡◌, ◌⊎◌, ℕ, Bool, true, false, List, [], ◌∷◌, Result, Ok, Err, Option, Some, None}
use Rattle.std.specs.Io.BufRead.{take_through, drop_through}
use Rattle.mr_out_listing.specs.Lines.{Sight, end_of}
use Rattle.mr_out_listing.specs.Reading.{Heard, State, heard, pieces_of, said_by, said, start}
use Rattle.mr_out_listing.specs.declared.fault.ListingFault.{ListingFault}
use Rattle.mr_out_listing.specs.declared.fault.ListingFault.TheVariants.{NoMemory, BadLine, Outside}
use Rattle.mr_out_listing.specs.declared.format.Format.{Format}
use Rattle.mr_out_check.specs.Seen.{Seen, nothing, seen_all, seen_with}
use Rattle.mr_out_check.specs.declared.reading.CheckFault.{CheckFault}
use Rattle.mr_out_check.specs.declared.reading.CheckFault.TheVariants as fault
use Rattle.mr_out_check.specs.declared.reading.Looked.{Looked}

-- what was seen, and then all that is said
abbrev pub seen_said : Seen → Result (List Sight) ListingFault → Result Seen ListingFault
seen_said s (Ok sights) = Ok (seen_all sights s)
seen_said s (Err f) = Err f

-- what is seen of a listing
abbrev pub looked : Format → List ℕ → Result Seen ListingFault
looked f bytes = seen_said nothing (said f bytes)

abbrev pub seen_if : Option Sight → Seen → Seen
seen_if None s = s
seen_if (Some sight) s = seen_with sight s

-- what a reader of a listing answers: only of memory, and of a reader that fails, it tells what is not in the bytes
abbrev pub AnswersAs : Result Seen ListingFault → Result Looked CheckFault → Type 0
AnswersAs seen (Ok found) = seen ≡ Ok found.seen
AnswersAs seen (Err (fault.BadLine n)) = seen ≡ Err (BadLine n)
AnswersAs seen (Err (fault.Outside n)) = seen ≡ Err (Outside n)
AnswersAs seen (Err fault.NoMemory) = Unit {0}
AnswersAs seen (Err fault.Read) = Unit {0}

-- the fault of a line
abbrev pub fault_of : ListingFault → CheckFault
fault_of NoMemory = fault.NoMemory
fault_of (BadLine n) = fault.BadLine n
fault_of (Outside n) = fault.Outside n

-- a fault that tells of no line
abbrev pub IsReadFault : CheckFault → Type 0
IsReadFault f = (f ≡ fault.Read) ⊎ (f ≡ fault.NoMemory)

-- what was read of these bytes: a piece, and what is left then
abbrev pub PieceIsRead : ℕ → List ℕ → Bool → List ℕ → Option (List ℕ) → Type 0
PieceIsRead end [] more piece left = more ≡ false
PieceIsRead end (b ∷ bytes) more piece left = (more ≡ true) × (piece ≡ take_through end (b ∷ bytes)) × (left ≡ Some (drop_through end (b ∷ bytes)))

-- what was seen and a line more: of whatever lines follow, all of them are as these behind it
abbrev pub TakesBy : Heard → Seen → Result Seen CheckFault → State → Type 0
TakesBy said old (Ok new) next = (told : Option Sight) × (said ≡ Ok (told, next)) × (new ≡ seen_if told old)
TakesBy said old (Err (fault.BadLine n)) next = said ≡ Err (BadLine n)
TakesBy said old (Err (fault.Outside n)) next = said ≡ Err (Outside n)
TakesBy said old (Err fault.NoMemory) next = Unit {0}
TakesBy said old (Err fault.Read) next = ⊥

abbrev pub Takes : Seen → State → List ℕ → Result Seen CheckFault → State → Type 0
Takes old lines piece result next = TakesBy (heard lines piece) old result next

abbrev pub IsLooked : Seen → Result Looked CheckFault → Type 0
IsLooked seen (Ok found) = found.seen ≡ seen
IsLooked seen (Err f) = f ≡ fault.NoMemory

abbrev pub Looks : Format → List ℕ → Result Looked CheckFault → Type 0
Looks f bytes result = AnswersAs (looked f bytes) result
