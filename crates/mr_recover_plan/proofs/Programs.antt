-- How the program ran.
use Rattle.std.proofs.Common.{◌≡◌, ℕ, List, Option, Result, Ok, Err}
use Rattle.std.specs.Io.KnownBytes.{Appends}
use Rattle.mr_pipe.specs.Status as pipe
use Rattle.mr_pipe.specs.declared.fault.PipeFault.{PipeFault}
use Rattle.mr_pipe.specs.declared.form.Form.{Form}
use Rattle.mr_recover.specs.declared.plan.Recovery.{Recovery}
use Rattle.mr_recover.specs.declared.plan.Staging.{Staging}
use Rattle.mr_recover_plan.specs.Plans.{PlannedAs}
use Rattle.mr_recover_plan.specs.Program.{Runs}
use Rattle.mr_recover_plan.specs.Said.{said_of, status_of}
use Rattle.mr_recover_plan.specs.declared.fault.PlanFault.{PlanFault}

pub is_planned : (form : Form) (segments : List (List ℕ)) (staging : Staging) (was now : Option (List ℕ)) (planned : Result Recovery PlanFault) (status : ℕ) → PlannedAs segments staging planned →
    Appends was now (said_of form planned) → status ≡ status_of planned → Runs form segments staging was now status
is_planned form segments staging was now planned status plan said is = (Ok planned, is, (plan, said))

pub failed : (form : Form) (segments : List (List ℕ)) (staging : Staging) (was now : Option (List ℕ)) (fault : PipeFault) (status : ℕ) → status ≡ pipe.status_of fault → Runs form segments staging was now status
failed form segments staging was now fault status is = (Err fault, is, tt)
