-- What is known of a run of an input is known of the input; and why a search stops.
use Rattle.std.proofs.Common.{◌≡◌, ◌≤◌, ℕ, List, [], Result, Ok, Err, IfOk, IfErr, inr, sym, subst}
use Rattle.mr_sim_commands.specs.declared.fault.SimFault.{SimFault}
use Rattle.mr_explore_search.specs.Runs.{PassesLimit}
use Rattle.mr_explore_search.specs.Laws.{Departs}
use Rattle.mr_explore_search.specs.declared.fault.WalkFault.{WalkFault}
use Rattle.mr_explore_search.specs.declared.fault.WalkFault.TheVariants as walk_fault
use Rattle.mr_explore_places.specs.Going.{Stops}
use Rattle.mr_explore_places.specs.declared.bounds.Bounds.{Bounds}
use Rattle.mr_explore_least.specs.Table.{Table}
use Rattle.mr_explore.specs.Exploring.{fault_of}
use Rattle.mr_explore.specs.Faults.{most_events}
use Rattle.mr_explore.specs.Runs.{Exploring, IsRunOf, explored}
use Rattle.mr_explore_merged.specs.Merged.{Finds, FindsOf, MergedFails}
use Rattle.mr_explore_merged.proofs.Failing.{more_failed}

pub finds_of : (input : List ℕ) (faults : ℕ) (run : Exploring) (r : Result Table SimFault) → IsRunOf input run → ((text : List ℕ) → IsRunOf text run → IfOk r (Finds faults run)) → IfOk r (FindsOf input faults)
finds_of input faults run (Ok t) is h = record { run = run; is_run = is; finds = h input is }
finds_of input faults run (Err f) is h = tt

pub fails_of : (input : List ℕ) (faults most : ℕ) (run : Exploring) (r : Result Table SimFault) → faults ≤ most → IsRunOf input run → ((text : List ℕ) → IsRunOf text run → IfErr r (MergedFails faults text)) → IfErr r (MergedFails most input)
fails_of input faults most run r le is h = more_failed faults most input r le (h input is)

pub stops_fails : (most steps : ℕ) (input : List ℕ) (first : Exploring) (f : WalkFault) → steps ≡ most_events → IsRunOf input first → Stops explored most steps first f → MergedFails most input (fault_of f)
stops_fails most steps input first walk_fault.NoMemory e is h = tt
stops_fails most steps input first walk_fault.Mismatch e is h = tt
stops_fails most steps input first walk_fault.Full e is h = inr (inr (record { run = first; is_run = is; full = (h.0, h.1, subst (λ (n : ℕ). Departs explored n h.0 h.0 0 n [] first PassesLimit) e h.2) }))

-- the same of a search that stops with this fault
pub stopped : (faults : ℕ) (bounds : Bounds) (first : Exploring) (f : WalkFault) (g : SimFault) → g ≡ fault_of f → bounds.faults ≡ faults → bounds.steps ≡ most_events → Stops explored bounds.faults bounds.steps first f
    → (input : List ℕ) → IsRunOf input first → MergedFails faults input g
stopped faults bounds first f g is few steps h input run =
    subst (λ (x : SimFault). MergedFails faults input x) (sym is) (subst (λ (n : ℕ). MergedFails n input (fault_of f)) few (stops_fails bounds.faults bounds.steps input first f steps run h))
