-- What the program writes, and its exit status. Our own profile.
use Rattle.std.specs.Prelude.{◌≡◌, ℕ, List, Option, Result, Ok, Err, IfOk, IfSome}
use Rattle.std.specs.Io.KnownBytes.{Appends}
use Rattle.mr_pipe.specs.Status as pipe
use Rattle.mr_pipe.specs.declared.fault.PipeFault.{PipeFault}
use Rattle.mr_pipe.specs.declared.form.Form.{Form}
use Rattle.mr_judge.specs.Said.{said_of, status_of}
use Rattle.mr_judge.specs.Trace.{JudgedAs}
use Rattle.mr_judge.specs.declared.fault.JudgeFault.{JudgeFault}
use Rattle.mr_judge.specs.declared.verdict.Verdict.{Verdict}

abbrev pub exit_status : Result (Result Verdict JudgeFault) PipeFault → ℕ
exit_status (Ok judged) = status_of judged
exit_status (Err f) = pipe.status_of f

-- what was written is said of the judgement of what was read
abbrev pub Judged : Form → (input was now : Option (List ℕ)) → Result Verdict JudgeFault → Type 0
Judged form input was now judged = IfSome input (λ bytes. JudgedAs bytes judged × Appends was now (said_of form judged))

-- the exit status is that of the judgement; of a stream or the memory that failed no more is said
abbrev pub Runs : Form → (input was now : Option (List ℕ)) → ℕ → Type 0
Runs form input was now status = (ended : Result (Result Verdict JudgeFault) PipeFault) × (status ≡ exit_status ended) × IfOk ended (λ judged. Judged form input was now judged)
