-- Why runs are not made, and files not told.
use Rattle.std.specs.Prelude.{◌≡◌, ℕ, List, Err}
use Rattle.mr_sim_commands.specs.declared.fault.SimFault.{SimFault}
use Rattle.mr_sim_commands.specs.declared.fault.SimFault.TheVariants as fault
use Rattle.mr_sim_commands.specs.job.Text.{submission_of}

-- no memory; or the events of a run could not happen once more
abbrev pub IsUnchecked : SimFault → Type 0
IsUnchecked fault.NoMemory = Unit {0}
IsUnchecked fault.JournalMismatch = Unit {0}
IsUnchecked _ = ⊥

-- no memory; or the first bad key of the job text
abbrev pub IsUnsaid : List ℕ → SimFault → Type 0
IsUnsaid job fault.NoMemory = Unit {0}
IsUnsaid job (fault.Job e) = submission_of job ≡ Err e
IsUnsaid job _ = ⊥
