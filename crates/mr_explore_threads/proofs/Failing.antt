-- Why nothing is printed.
use Rattle.std.proofs.Common.{◌≡◌, ℕ, List, Result, Ok, Err, IfErr, IsErrAnd, sym, subst}
use Rattle.std.proofs.lemmas.Result.{err_from_is_err_and}
use Rattle.mr_sim_commands.specs.declared.fault.SimFault.{SimFault}
use Rattle.mr_sim_commands.specs.declared.fault.SimFault.TheVariants as fault
use Rattle.mr_explore.specs.declared.asked.Asked.{Asked}
use Rattle.mr_explore.specs.Explored.{ExploredFails}
use Rattle.mr_explore.specs.Exploring.{ExploreFails}
use Rattle.mr_explore.specs.Checks.{IsUnchecked}
use Rattle.mr_explore.proofs.Printing.{begins_fails}

-- a fault is carried on
pub explored_failed : {A : Type 0} (asked : Asked) (input : List ℕ) (f : SimFault) (r : Result A SimFault) → ExploredFails asked input f → IsErrAnd r (λ g. g ≡ f) → IfErr r (ExploredFails asked input)
explored_failed {A} asked input f r h is =
    let z = err_from_is_err_and r is in
    subst (λ (y : Result A SimFault). IfErr y (ExploredFails asked input)) (sym z.1) (subst (ExploredFails asked input) (sym z.2) h)

-- a fault of the beginning
pub begins_failed : {A : Type 0} (asked : Asked) (input : List ℕ) (r : Result A SimFault) → IfErr r (ExploreFails input) → IfErr r (ExploredFails asked input)
begins_failed asked input (Ok x) h = h
begins_failed asked input (Err f) h = begins_fails asked input f h

-- no memory, or a run could not be made once more
pub unchecked_fails : (asked : Asked) (input : List ℕ) (f : SimFault) → IsUnchecked f → ExploredFails asked input f
unchecked_fails asked input fault.NoMemory h = tt
unchecked_fails asked input fault.JournalMismatch h = tt
unchecked_fails asked input fault.Full h = absurd h
unchecked_fails asked input fault.Read h = absurd h
unchecked_fails asked input fault.Write h = absurd h
unchecked_fails asked input fault.TooLong h = absurd h
unchecked_fails asked input (fault.BadCommand n) h = absurd h
unchecked_fails asked input (fault.BadRecord n) h = absurd h
unchecked_fails asked input (fault.Job e) h = absurd h
unchecked_fails asked input fault.Refused h = absurd h
unchecked_fails asked input fault.JobFailed h = absurd h
unchecked_fails asked input fault.TurnsSpent h = absurd h
unchecked_fails asked input fault.Thread h = absurd h

pub unchecked_failed : {A : Type 0} (asked : Asked) (input : List ℕ) (r : Result A SimFault) → IfErr r IsUnchecked → IfErr r (ExploredFails asked input)
unchecked_failed asked input (Ok x) h = h
unchecked_failed asked input (Err f) h = unchecked_fails asked input f h
