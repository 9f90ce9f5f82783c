-- The calls of a command, as they were recorded with their answers. Our own; to judge a real file by a record of its calls is what the
-- toolchain's database does.
use Rattle.std.specs.Prelude.{◌≡◌, ◌⊎◌, ◌≤◌, ◌+◌, ◌^◌, List, [], ◌∷◌, ◌++◌, length, Option, Some}
use Rattle.mr_out_disk.specs.declared.call.Call.{Call}
use Rattle.mr_out_disk.specs.declared.answer.Answer.{Answer}
use Rattle.mr_out_steps.specs.declared.order.Outcome.{Outcome}
use Rattle.mr_out_steps.specs.declared.order.Outcome.TheVariants as outcome
use Rattle.mr_out_steps.specs.Commands.{Command, next_call, outcome_in}
use Rattle.mr_out_steps.specs.Steps.{heard}

-- what a command is once its calls were answered so, one after another
unfoldable pub behind : Command → List (Call × Answer) → Command
behind c [] = c
behind c (made ∷ rest) = behind (heard c made.1) rest

-- each call is the one that the command makes next, once it has heard the answers before
unfoldable pub AreCallsOf : Command → List (Call × Answer) → Type 0
AreCallsOf c [] = Unit {0}
AreCallsOf c (made ∷ rest) = (next_call c ≡ Some made.0) × AreCallsOf (heard c made.1) rest

-- It ended as the command that heard all of these answers. Or it gave up, as one that is killed there: memory was refused, or 2^64 - 1 calls were made.
abbrev pub EndsAs : Command → List (Call × Answer) → Outcome → Type 0
EndsAs c made end = (outcome_in (behind c made).phase ≡ Some end) ⊎ ((end ≡ outcome.NoMemory) ⊎ ((end ≡ outcome.Failed) × (2 ^ 64 ≤ length made + 1)))

-- Between two moments of a record a command was carried out, and ended so: just its calls were made.
pub record IsCarriedOut (c : Command) (before after : List (Call × Answer)) (end : Outcome) : Type 0 where
  pub made : List (Call × Answer)
  pub recorded : after ≡ before ++ made
  pub calls : AreCallsOf c made
  pub ends : EndsAs c made end
