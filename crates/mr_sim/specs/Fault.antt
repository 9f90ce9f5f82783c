-- The exit status of the program by how it ended, and which faults reading answers. Our own profile.
use Rattle.std.specs.Prelude.{ℕ}
use Rattle.mr_sim.specs.declared.ending.Ending.{Ending}
use Rattle.mr_sim.specs.declared.ending.Ending.TheVariants.{Done, Unmet, Helped, RefusedWords, Failed}
use Rattle.mr_sim_commands.specs.declared.fault.SimFault.{SimFault}
use Rattle.mr_sim_commands.specs.declared.fault.SimFault.TheVariants.{NoMemory, Read, Write, TooLong, BadCommand, BadRecord, Job, Refused, Full, JobFailed, TurnsSpent, JournalMismatch, Thread}
use Rattle.mr_sim_commands.specs.Faults.{status_of}

-- the exit status of the program by how it ended
abbrev pub exit_status_of : Ending → ℕ
exit_status_of Done = 0
exit_status_of Unmet = 3
exit_status_of Helped = 0
exit_status_of RefusedWords = 2
exit_status_of (Failed fault) = status_of fault

-- the faults of reading the input
abbrev pub IsReadFault : SimFault → Type 0
IsReadFault NoMemory = Unit {0}
IsReadFault Read = Unit {0}
IsReadFault Write = ⊥
IsReadFault TooLong = Unit {0}
IsReadFault (BadCommand n) = ⊥
IsReadFault (BadRecord n) = ⊥
IsReadFault (Job e) = ⊥
IsReadFault Refused = ⊥
IsReadFault Full = ⊥
IsReadFault JobFailed = ⊥
IsReadFault TurnsSpent = ⊥
IsReadFault JournalMismatch = ⊥
IsReadFault Thread = ⊥
