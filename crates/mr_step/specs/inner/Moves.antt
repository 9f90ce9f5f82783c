-- The calls that are left, whichever operation's they are.
use Rattle.mr_commit.specs.Recovery.{Recovery}
use Rattle.mr_commit.specs.Recovery.Recovery.{Left}
use Rattle.mr_step.specs.declared.wish.Calls.{Calls}
use Rattle.mr_step.specs.declared.wish.Calls.TheVariants as calls

abbrev pub left_of : Calls → Recovery
left_of (calls.Plain lines) = Left lines
left_of (calls.Recovery moves) = moves
