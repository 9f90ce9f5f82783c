-- How the program ran.
use Rattle.std.proofs.Common.{◌≡◌, ℕ, List, Option, Result, subst}
use Rattle.mr_commit.specs.Recovery.{Recovery}
use Rattle.mr_pipe.specs.declared.fault.PipeFault.{PipeFault}
use Rattle.mr_pipe.specs.declared.form.Form.{Form}
use Rattle.mr_step.specs.Program.{Runs, Talked}
use Rattle.mr_step.specs.Status.{status_of}
use Rattle.mr_step.specs.declared.ending.Ending.{Ending}

-- the table is that of what was asked for
pub asked_for : (form : Form) (moves table : Recovery) (input was now : Option (List ℕ)) (ended : Result Ending PipeFault) → moves ≡ table → Talked form moves input was now ended → Talked form table input was now ended
asked_for form moves table input was now ended is talked = subst (λ m. Talked form m input was now ended) is talked

pub runs : (form : Form) (moves : Recovery) (input was now : Option (List ℕ)) (ended : Result Ending PipeFault) (status : ℕ) → Talked form moves input was now ended → status ≡ status_of ended → Runs form moves input was now status
runs form moves input was now ended status talked is = (ended, is, talked)
