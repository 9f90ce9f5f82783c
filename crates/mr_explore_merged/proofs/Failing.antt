-- Why nothing is found, and why nothing is printed.
use Rattle.std.proofs.Common.{◌≡◌, ◌≤◌, ℕ, List, Result, Ok, Err, IfErr, IsErrAnd, inl, inr, sym, subst}
use Rattle.std.proofs.lemmas.Result.{err_from_is_err_and}
use Rattle.mr_sim_commands.specs.declared.fault.SimFault.{SimFault}
use Rattle.mr_sim_commands.specs.declared.fault.SimFault.TheVariants as fault
use Rattle.mr_play.specs.Text.{job_line}
use Rattle.mr_explore_search.specs.Runs.{PassesLimit}
use Rattle.mr_explore_least.specs.Table.{Table}
use Rattle.mr_explore.specs.Checks.{IsUnsaid}
use Rattle.mr_explore.specs.Exploring.{ExploreFails}
use Rattle.mr_explore.specs.Faults.{most_events}
use Rattle.mr_explore.specs.Runs.{explored}
use Rattle.mr_explore_merged.specs.Merged.{MergedFails}
use Rattle.mr_explore_merged.proofs.Labels.{of_more}

-- the run of the input is not there
pub begins_fails : (most : ℕ) (input : List ℕ) (f : SimFault) → ExploreFails input f → MergedFails most input f
begins_fails most input fault.NoMemory h = tt
begins_fails most input fault.JournalMismatch h = tt
begins_fails most input fault.Full (inl h) = inl h
begins_fails most input fault.Full (inr h) = inr (inl h)
begins_fails most input fault.Read h = h
begins_fails most input fault.Write h = h
begins_fails most input fault.TooLong h = h
begins_fails most input (fault.BadCommand n) h = h
begins_fails most input (fault.BadRecord n) h = h
begins_fails most input (fault.Job e) h = h
begins_fails most input fault.Refused h = h
begins_fails most input fault.JobFailed h = h
begins_fails most input fault.TurnsSpent h = h
begins_fails most input (fault.Thread) h = h

-- what fails fails with more faults
more_fail : (n most : ℕ) (input : List ℕ) (f : SimFault) → n ≤ most → MergedFails n input f → MergedFails most input f
more_fail n most input fault.NoMemory le h = h
more_fail n most input fault.JournalMismatch le h = h
more_fail n most input fault.Full le (inl h) = inl h
more_fail n most input fault.Full le (inr (inl h)) = inr (inl h)
more_fail n most input fault.Full le (inr (inr w)) = inr (inr (record { run = w.run; is_run = w.is_run; full = of_more explored most_events n most w.run PassesLimit w.full le }))
more_fail n most input fault.Read le h = h
more_fail n most input fault.Write le h = h
more_fail n most input fault.TooLong le h = h
more_fail n most input (fault.BadCommand k) le h = h
more_fail n most input (fault.BadRecord k) le h = h
more_fail n most input (fault.Job e) le h = h
more_fail n most input fault.Refused le h = h
more_fail n most input fault.JobFailed le h = h
more_fail n most input fault.TurnsSpent le h = h
more_fail n most input fault.Thread le h = h

pub more_failed : (n most : ℕ) (input : List ℕ) (r : Result Table SimFault) → n ≤ most → IfErr r (MergedFails n input) → IfErr r (MergedFails most input)
more_failed n most input (Ok t) le h = h
more_failed n most input (Err f) le h = more_fail n most input f le h

-- ---- what was found is not told

unsaid_fails : (most : ℕ) (input : List ℕ) (f : SimFault) → IsUnsaid (job_line input) f → MergedFails most input f
unsaid_fails most input fault.NoMemory h = tt
unsaid_fails most input (fault.Job e) h = h
unsaid_fails most input fault.JournalMismatch h = absurd h
unsaid_fails most input fault.Full h = absurd h
unsaid_fails most input fault.Read h = absurd h
unsaid_fails most input fault.Write h = absurd h
unsaid_fails most input fault.TooLong h = absurd h
unsaid_fails most input (fault.BadCommand n) h = absurd h
unsaid_fails most input (fault.BadRecord n) h = absurd h
unsaid_fails most input fault.Refused h = absurd h
unsaid_fails most input fault.JobFailed h = absurd h
unsaid_fails most input fault.TurnsSpent h = absurd h
unsaid_fails most input fault.Thread h = absurd h

-- a call that was refused so is handed on
pub begins_failed : {A : Type 0} (most : ℕ) (input : List ℕ) (f : SimFault) (r : Result A SimFault) → ExploreFails input f → IsErrAnd r (λ g. g ≡ f) → IfErr r (MergedFails most input)
begins_failed {A} most input f r h is =
    let z = err_from_is_err_and r is in
    subst (λ (y : Result A SimFault). IfErr y (MergedFails most input)) (sym z.1) (subst (MergedFails most input) (sym z.2) (begins_fails most input f h))

pub unsaid_failed : {A : Type 0} (most : ℕ) (input : List ℕ) (f : SimFault) (r : Result A SimFault) → IsUnsaid (job_line input) f → IsErrAnd r (λ g. g ≡ f) → IfErr r (MergedFails most input)
unsaid_failed {A} most input f r h is =
    let z = err_from_is_err_and r is in
    subst (λ (y : Result A SimFault). IfErr y (MergedFails most input)) (sym z.1) (subst (MergedFails most input) (sym z.2) (unsaid_fails most input f h))
