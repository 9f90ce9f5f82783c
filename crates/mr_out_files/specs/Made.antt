-- The calls of a directory since it was opened, as it noted them. Our own.
use Rattle.std.specs.Prelude.{◌≡◌, List}
use Rattle.mr_out_disk.specs.declared.call.Call.{Call}
use Rattle.mr_out_disk.specs.declared.answer.Answer.{Answer}
use Rattle.mr_out_files.specs.declared.directory.Directory.{Directory}

-- each call with its answer, the first one first
abbrev pub calls_of : Directory → List (Call × Answer)
calls_of d = d.made.items

-- no call was made, and the job is the same
abbrev pub Keeps : Directory → Directory → Type 0
Keeps old new = (calls_of new ≡ calls_of old) × (new.job ≡ old.job)
