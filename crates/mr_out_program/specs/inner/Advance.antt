-- One call of a command that is carried out.
use Rattle.std.specs.Prelude.{◌≡◌, [], ◌∷◌, ◌++◌, Option, Some, None}
use Rattle.std.specs.String.{string_bytes}
use Rattle.mr_out_disk.specs.declared.call.Call.{Call}
use Rattle.mr_out_disk.specs.declared.answer.Answer.{Answer}
use Rattle.mr_out_disk.specs.declared.answer.Answer.TheVariants.{Says}
use Rattle.mr_out_disk.specs.declared.answer.Reply.TheVariants.{Failed}
use Rattle.mr_out_steps.specs.declared.order.Outcome.{Outcome}
use Rattle.mr_out_steps.specs.Commands.{Command, next_call, outcome_in}
use Rattle.mr_out_steps.specs.Steps.{Takes}
use Rattle.mr_out_files.specs.declared.directory.Directory.{Directory}
use Rattle.mr_out_files.specs.Made.{calls_of}
use Rattle.mr_out_files.specs.Troubles.{HasTrouble}

-- it has ended so; or its next call was made, and it took the answer
abbrev pub Advances : Command → Directory → Command → Directory → Option Outcome → Type 0
Advances c old d new (Some end) = (outcome_in c.phase ≡ Some end) × (new ≡ old)
Advances c old d new None = (call : Call) × (answer : Answer) × (next_call c ≡ Some call) × (calls_of new ≡ calls_of old ++ (call, answer) ∷ []) × (new.job ≡ old.job) × Takes c answer d × (answer ≡ Says Failed → HasTrouble new (string_bytes old.job.suffix) call)
