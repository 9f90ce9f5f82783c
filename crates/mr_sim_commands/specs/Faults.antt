-- Why a subcommand gives no output: the exit status of each fault, and which faults each subcommand of this crate answers for its input (our own
-- profile). An allocation failure may come at any input.
use Rattle.std.specs.Prelude.{◌≡◌, Some, ℕ, List, Err}
use Rattle.mr_history.specs.Reading.{bad_line}
use Rattle.mr_script.specs.Lines.{lines_of}
use Rattle.mr_sim_commands.specs.declared.fault.SimFault.{SimFault}
use Rattle.mr_sim_commands.specs.declared.fault.SimFault.TheVariants.{NoMemory, Read, Write, TooLong, BadCommand, BadRecord, Job, Refused, Full, JobFailed, TurnsSpent, JournalMismatch, Thread}
use Rattle.mr_sim_commands.specs.committer.Script.{IsFirstBad}
use Rattle.mr_sim_commands.specs.job.Text.{submission_of}
use Rattle.mr_sim_commands.specs.seq.Text.{RefusesSeq}

-- the exit status of the program at a fault
abbrev pub status_of : SimFault → ℕ
status_of NoMemory = 5
status_of Read = 4
status_of Write = 4
status_of TooLong = 3
status_of (BadCommand n) = 3
status_of (BadRecord n) = 3
status_of (Job e) = 3
status_of Refused = 3
status_of Full = 7
status_of JobFailed = 1
status_of TurnsSpent = 6
status_of JournalMismatch = 7
status_of Thread = 7

-- `committer`: the first line that is no command
abbrev pub CommitterFails : List ℕ → SimFault → Type 0
CommitterFails input NoMemory = Unit {0}
CommitterFails input (BadCommand n) = IsFirstBad 1 (lines_of input) n
CommitterFails input _ = ⊥

-- `history`: the first whole line that is no record and not the version line at the head
abbrev pub HistoryFails : List ℕ → SimFault → Type 0
HistoryFails input NoMemory = Unit {0}
HistoryFails input (BadRecord n) = bad_line input ≡ Some n
HistoryFails input _ = ⊥

-- `seq`: what is wrong with the job text, or that its job refuses a line of a split
abbrev pub SeqFails : List ℕ → SimFault → Type 0
SeqFails input NoMemory = Unit {0}
SeqFails input (Job e) = submission_of input ≡ Err e
SeqFails input Refused = RefusesSeq input
SeqFails input _ = ⊥
