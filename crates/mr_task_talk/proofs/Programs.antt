-- How the program ran.
use Rattle.std.proofs.Common.{◌≡◌, ℕ, List, Option, Ok, Err, refl}
use Rattle.mr_ids.specs.declared.id.TaskId.{TaskId}
use Rattle.mr_pipe.specs.Status.{status_of}
use Rattle.mr_pipe.specs.declared.fault.PipeFault.{PipeFault}
use Rattle.mr_pipe.specs.declared.form.Form.{Form}
use Rattle.mr_task_talk.specs.Program.{Runs, Talked}

pub to_the_end : (form : Form) (t : TaskId) (k : ℕ) (input was now : Option (List ℕ)) → Talked form t k input was now → Runs form t k input was now 0
to_the_end form t k input was now talked = (Ok tt, refl, talked)

pub failed : (form : Form) (t : TaskId) (k : ℕ) (input was now : Option (List ℕ)) (fault : PipeFault) (status : ℕ) → status ≡ status_of fault → Runs form t k input was now status
failed form t k input was now fault status is = (Err fault, is, tt)
