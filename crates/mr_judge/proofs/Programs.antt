-- How the program ran.
use Rattle.std.proofs.Common.{◌≡◌, ℕ, List, Option, Result, Ok, Err}
use Rattle.mr_pipe.specs.Status as pipe
use Rattle.mr_pipe.specs.declared.fault.PipeFault.{PipeFault}
use Rattle.mr_pipe.specs.declared.form.Form.{Form}
use Rattle.mr_judge.specs.Program.{Judged, Runs}
use Rattle.mr_judge.specs.Said.{status_of}
use Rattle.mr_judge.specs.declared.fault.JudgeFault.{JudgeFault}
use Rattle.mr_judge.specs.declared.verdict.Verdict.{Verdict}

pub is_judged : (form : Form) (input was now : Option (List ℕ)) (judged : Result Verdict JudgeFault) (status : ℕ) → Judged form input was now judged → status ≡ status_of judged → Runs form input was now status
is_judged form input was now judged status said is = (Ok judged, is, said)

pub failed : (form : Form) (input was now : Option (List ℕ)) (fault : PipeFault) (status : ℕ) → status ≡ pipe.status_of fault → Runs form input was now status
failed form input was now fault status is = (Err fault, is, tt)
