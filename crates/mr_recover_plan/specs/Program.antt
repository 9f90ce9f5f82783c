-- What the program writes, and its exit status. Our own profile.
use Rattle.std.specs.Prelude.{◌≡◌, ℕ, List, Option, Result, Ok, Err, IfOk}
use Rattle.std.specs.Io.KnownBytes.{Appends}
use Rattle.mr_pipe.specs.Status as pipe
use Rattle.mr_pipe.specs.declared.fault.PipeFault.{PipeFault}
use Rattle.mr_pipe.specs.declared.form.Form.{Form}
use Rattle.mr_recover.specs.declared.plan.Recovery.{Recovery}
use Rattle.mr_recover.specs.declared.plan.Staging.{Staging}
use Rattle.mr_recover_plan.specs.Plans.{PlannedAs}
use Rattle.mr_recover_plan.specs.Said.{said_of, status_of}
use Rattle.mr_recover_plan.specs.declared.fault.PlanFault.{PlanFault}

abbrev pub exit_status : Result (Result Recovery PlanFault) PipeFault → ℕ
exit_status (Ok planned) = status_of planned
exit_status (Err f) = pipe.status_of f

-- the exit status is that of the plan for the segments, and what was written is said of it; of a stream or the memory that failed no more is said
abbrev pub Runs : Form → List (List ℕ) → Staging → (was now : Option (List ℕ)) → ℕ → Type 0
Runs form segments staging was now status =
    (ended : Result (Result Recovery PlanFault) PipeFault) × (status ≡ exit_status ended)
    × IfOk ended (λ planned. PlannedAs segments staging planned × Appends was now (said_of form planned))
