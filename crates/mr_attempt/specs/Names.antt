-- The names of the states, as they are printed: our own profile.
use Rattle.std.specs.Prelude.{ℕ, List, codes}
use Rattle.mr_attempt.specs.declared.state.AttemptState.{AttemptState}
use Rattle.mr_attempt.specs.declared.state.AttemptState.TheVariants.{New, Assigned, Running, CommitPending, Recording, Succeeded, Failed, Killed}

abbrev pub name_of : AttemptState → List ℕ
name_of New = codes "New"
name_of Assigned = codes "Assigned"
name_of Running = codes "Running"
name_of CommitPending = codes "CommitPending"
name_of Recording = codes "Recording"
name_of Succeeded = codes "Succeeded"
name_of Failed = codes "Failed"
name_of Killed = codes "Killed"
