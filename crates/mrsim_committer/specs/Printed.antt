-- What the program prints for its input, and which faults it answers, as `mrsim committer` does. Our own profile.
use Rattle.std.specs.Prelude.{◌<◌, ◌≤◌, ◌^◌, Option, ℕ, List, length}
use Rattle.std.specs.Io.KnownBytes.{Appends}
use Rattle.mr_sim_commands.specs.declared.fault.SimFault.{SimFault}
use Rattle.mr_sim_commands.specs.declared.fault.SimFault.TheVariants.{NoMemory, Read, Write, TooLong}
use Rattle.mr_sim_commands.specs.Faults.{CommitterFails}
use Rattle.mr_sim_commands.specs.committer.Text.{PrintsCommitter}

-- the input is within the limit
abbrev pub IsWithin : List ℕ → Type 0
IsWithin input = length input ≤ 2 ^ 24

-- The text was written behind what the writer had.
abbrev pub Writes : List ℕ → Option (List ℕ) → Option (List ℕ) → Type 0
Writes input old new = IsWithin input × ((text : List ℕ) × PrintsCommitter input text × Appends old new text)

-- Which faults there are. An allocation failure and a failed read may come at any input; a failed write only where there is a text to be written.
-- All else is a fault of the script.
abbrev pub Refuses : List ℕ → SimFault → Type 0
Refuses input NoMemory = Unit {0}
Refuses input Read = Unit {0}
Refuses input Write = IsWithin input × ((text : List ℕ) × PrintsCommitter input text)
Refuses input TooLong = 2 ^ 24 < length input
Refuses input fault = IsWithin input × CommitterFails input fault

-- the faults of reading the input
abbrev pub IsReadFault : SimFault → Type 0
IsReadFault NoMemory = Unit {0}
IsReadFault Read = Unit {0}
IsReadFault TooLong = Unit {0}
IsReadFault _ = ⊥
