-- What the program writes, and its exit status: 0 at the end of the input, else that of the fault. Our own profile.
use Rattle.std.specs.Prelude.{◌≡◌, ⊤, ℕ, List, [], Option, Result, Ok, Err, OnOk, IfSome}
use Rattle.std.specs.Io.KnownBytes.{Appends}
use Rattle.mr_ids.specs.declared.id.TaskId.{TaskId}
use Rattle.mr_pipe.specs.Status as pipe
use Rattle.mr_pipe.specs.Stream.{lines_in}
use Rattle.mr_pipe.specs.declared.fault.PipeFault.{PipeFault}
use Rattle.mr_pipe.specs.declared.form.Form.{Form}
use Rattle.mr_task_talk.specs.Talk.{Talks}

abbrev pub status_of : Result ⊤ PipeFault → ℕ
status_of (Ok x) = 0
status_of (Err f) = pipe.status_of f

-- what was written is what is answered to the lines that were read
abbrev pub Talked : Form → TaskId → ℕ → (input was now : Option (List ℕ)) → Type 0
Talked form t k input was now = IfSome input (λ bytes. (said : List ℕ) × Appends was now said × Talks form t k [] 1 (lines_in bytes) said)

-- the exit status is that of how the talk ended; of a stream or the memory that failed no more is said
abbrev pub Runs : Form → TaskId → ℕ → (input was now : Option (List ℕ)) → ℕ → Type 0
Runs form t k input was now status = (ended : Result ⊤ PipeFault) × (status ≡ status_of ended) × OnOk ended (Talked form t k input was now)
