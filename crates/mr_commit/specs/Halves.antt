-- The answer of a step value's next call in two halves: what follows is made ready, and then put in the place of the first line.
-- Our own: for a master, which asks what a step will do before it makes the call.
use Rattle.std.specs.Prelude.{◌≡◌, ◌<◌, ◌+◌, ◌^◌, List, [], ◌++◌, length, drop, Result, Ok, Err}
use Rattle.mr_names.specs.declared.fault.NameFault.{NameFault}
use Rattle.mr_names.specs.declared.op.Answer.{Answer}
use Rattle.mr_commit.specs.declared.fault.CommitFault.{CommitFault}
use Rattle.mr_commit.specs.declared.fault.CommitFault.TheVariants as fault
use Rattle.mr_commit.specs.declared.fault.StepDone.{StepDone}
use Rattle.mr_commit.specs.Line.{Line}
use Rattle.mr_commit.specs.Steps.{heard, MayWantOn}
use Rattle.mr_commit.specs.Recovery.{Recovery}
use Rattle.mr_commit.specs.Recovery.Recovery.{Nowhere, Left}

-- the lines that will take the place of the first, and whether lines are left then
pub record Following : Type 0 where
  pub lines : List Line
  pub done : StepDone

-- they can take it: all lines together are fewer than 2^63
abbrev pub Fits : List Line → List Line → Type 0
Fits following lines = length following + length lines < 2 ^ 63

-- A function made ready what the answer brings: the lines that follow, or the fault that ends all. Or there was no memory for them.
abbrev pub Follows : List Line → Result Answer NameFault → Result Following CommitFault → Type 0
Follows lines answer (Ok f) = (heard lines answer ≡ (Ok f.done, f.lines ++ drop 1 lines)) × Fits f.lines lines
Follows lines answer (Err fault.NoMemory) = MayWantOn lines answer
Follows lines answer (Err f) = heard lines answer ≡ (Err f, [])

-- ---- the same of a recovery. Without an earlier generation nothing follows

abbrev pub FollowsOf : Recovery → Result Answer NameFault → Result Following CommitFault → Type 0
FollowsOf Nowhere answer r = r ≡ Err fault.OutputMissing
FollowsOf (Left lines) answer r = Follows lines answer r

abbrev pub FitsOf : List Line → Recovery → Type 0
FitsOf following Nowhere = ⊥
FitsOf following (Left lines) = Fits following lines

abbrev pub gone_on : List Line → Recovery → Recovery
gone_on following Nowhere = Nowhere
gone_on following (Left lines) = Left (following ++ drop 1 lines)
