-- Words for private contracts and for proofs. No public clause cites them.
use Rattle.mr_drive.specs.mr_board_report.specs.declared.fault.DriveFault.{DriveFault}
use Rattle.mr_drive.specs.mr_board_report.specs.declared.fault.DriveFault.TheVariants as drive
use Rattle.mr_sim_commands.specs.declared.fault.SimFault.{SimFault}
use Rattle.mr_sim_commands.specs.declared.fault.SimFault.TheVariants.{NoMemory, Full, TurnsSpent, JournalMismatch, Thread}
-- of mr_play: a tactic names a word by a module of a crate that crates.txt lists, or of its own
unfoldable pub use Rattle.mr_play.specs.Text.{job_as}

-- a fault of the threads, not of a job text
abbrev pub IsOfThreads : SimFault → Type 0
IsOfThreads NoMemory = Unit {0}
IsOfThreads Full = Unit {0}
IsOfThreads TurnsSpent = Unit {0}
IsOfThreads JournalMismatch = Unit {0}
IsOfThreads Thread = Unit {0}
IsOfThreads _ = ⊥

-- what the program calls a fault of the threads
abbrev pub fault_of : DriveFault → SimFault
fault_of drive.TurnsSpent = TurnsSpent
fault_of drive.JournalMismatch = JournalMismatch
fault_of drive.Thread = Thread
fault_of drive.Full = Full
fault_of drive.NoMemory = NoMemory
