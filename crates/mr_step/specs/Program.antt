-- What the program writes, and its exit status. Our own profile.
use Rattle.std.specs.Prelude.{◌≡◌, ℕ, List, Option, Result, IfOk, IfSome}
use Rattle.std.specs.Io.KnownBytes.{Appends}
use Rattle.mr_commit.specs.Recovery.{Recovery}
use Rattle.mr_pipe.specs.Stream.{lines_in}
use Rattle.mr_pipe.specs.declared.fault.PipeFault.{PipeFault}
use Rattle.mr_pipe.specs.declared.form.Form.{Form}
use Rattle.mr_step.specs.Status.{status_of}
use Rattle.mr_step.specs.Talk.{Says}
use Rattle.mr_step.specs.declared.ending.Ending.{Ending}

-- How a talk ended: what was written is what the table says for the lines that were read, and for this ending. Of a stream or the memory that failed nothing is said.
abbrev pub Talked : Form → Recovery → (input was now : Option (List ℕ)) → Result Ending PipeFault → Type 0
Talked form moves input was now ended = IfOk ended (λ ending. IfSome input (λ bytes. (said : List ℕ) × Appends was now said × Says form moves (lines_in bytes) said ending))

-- the exit status is that of how the talk ended
abbrev pub Runs : Form → Recovery → (input was now : Option (List ℕ)) → ℕ → Type 0
Runs form moves input was now status = (ended : Result Ending PipeFault) × (status ≡ status_of ended) × Talked form moves input was now ended
