-- What is said of a fault, and its exit status, as those of the other subcommands: 4 is about a stream, 5 about memory.
use Rattle.std.specs.Prelude.{ℕ, List, codes}
use Rattle.mr_pipe.specs.declared.fault.PipeFault.{PipeFault}
use Rattle.mr_pipe.specs.declared.fault.PipeFault.TheVariants.{Read, Write, NoMemory}

abbrev pub status_of : PipeFault → ℕ
status_of Read = 4
status_of Write = 4
status_of NoMemory = 5

abbrev pub fault_line : PipeFault → List ℕ
fault_line Read = codes "mrsim: read\n"
fault_line Write = codes "mrsim: write\n"
fault_line NoMemory = codes "mrsim: no memory\n"
