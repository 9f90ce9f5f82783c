-- Why threads print nothing.
use Rattle.std.proofs.Common.{◌≡◌, ℕ, Bool, true, false, List}
use Rattle.mr_drive.specs.mr_board_report.specs.declared.report.Report.{Report}
use Rattle.mr_sim_commands.specs.declared.fault.SimFault.{SimFault}
use Rattle.mr_sim_commands.specs.declared.fault.SimFault.TheVariants.{NoMemory, Read, Write, TooLong, BadCommand, BadRecord, Job, Refused, Full, JobFailed, TurnsSpent, JournalMismatch, Thread}
use Rattle.mr_sim_commands.specs.job.Text.{submission_of, Fails}
use Rattle.mr_threads.specs.Runs.{IsRead, Reports}
use Rattle.mr_threads.specs.Text.{HasFailed, ShownFails, ThreadsFail}
use Rattle.mr_threads.specs.inner.{IsOfThreads}

-- a fault of reading the job text
pub bad_text : (input : List ℕ) (e : SimFault) → Fails e (submission_of input) → ShownFails input e
bad_text input NoMemory h = tt
bad_text input Read h = absurd h
bad_text input Write h = absurd h
bad_text input TooLong h = absurd h
bad_text input (BadCommand n) h = absurd h
bad_text input (BadRecord n) h = absurd h
bad_text input (Job e) h = h
bad_text input Refused h = absurd h
bad_text input Full h = absurd h
bad_text input JobFailed h = absurd h
bad_text input TurnsSpent h = absurd h
bad_text input JournalMismatch h = absurd h
bad_text input Thread h = absurd h

-- a fault of the threads, where the job text is read
pub no_run : (input : List ℕ) (e : SimFault) → IsRead input → IsOfThreads e → ShownFails input e
no_run input NoMemory read h = tt
no_run input Read read h = absurd h
no_run input Write read h = absurd h
no_run input TooLong read h = absurd h
no_run input (BadCommand n) read h = absurd h
no_run input (BadRecord n) read h = absurd h
no_run input (Job e) read h = absurd h
no_run input Refused read h = absurd h
no_run input Full read h = read
no_run input JobFailed read h = absurd h
no_run input TurnsSpent read h = read
no_run input JournalMismatch read h = read
no_run input Thread read h = read

pub nothing_to_print : (input : List ℕ) (e : SimFault) → ShownFails input e → ThreadsFail input e
nothing_to_print input NoMemory h = h
nothing_to_print input Read h = h
nothing_to_print input Write h = h
nothing_to_print input TooLong h = h
nothing_to_print input (BadCommand n) h = h
nothing_to_print input (BadRecord n) h = h
nothing_to_print input (Job e) h = h
nothing_to_print input Refused h = h
nothing_to_print input Full h = h
nothing_to_print input JobFailed h = absurd h
nothing_to_print input TurnsSpent h = h
nothing_to_print input JournalMismatch h = h
nothing_to_print input Thread h = h

not_both : (b : Bool) → b ≡ true → b ≡ false → ⊥
not_both b is isnt = cc

-- a report without success
pub has_failed : (input : List ℕ) (r : Report) → Reports input r → r.succeeded ≡ false → HasFailed input
has_failed input r reports isnt = record {
  job = reports.job;
  said = reports.said;
  run = r.world;
  is = reports.is.run;
  failed = λ told. not_both r.succeeded (reports.is.tells told) isnt;
}
