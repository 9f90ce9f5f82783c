-- The exit statuses, as those of the other subcommands: 1 says no, 3 is about the input, 4 about a stream, 5 about memory.
use Rattle.std.specs.Prelude.{ℕ, Result, Ok, Err}
use Rattle.mr_step.specs.declared.ending.Ending.{Ending}
use Rattle.mr_step.specs.declared.ending.Ending.TheVariants.{Finished, Refused, Cut}
use Rattle.mr_pipe.specs.declared.fault.PipeFault.{PipeFault}
use Rattle.mr_pipe.specs.Status as pipe

abbrev pub status_of : Result Ending PipeFault → ℕ
status_of (Ok Finished) = 0
status_of (Ok (Refused f)) = 1
status_of (Ok Cut) = 3
status_of (Err f) = pipe.status_of f
