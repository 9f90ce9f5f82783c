use Rattle.std.proofs.Common.{◌≡◌, take, map}
use Rattle.mr_commit.specs.Line.{merging_child}
use Rattle.mr_commit.proofs.line.merging_children.Given as goal

abbrev pub invariant-loop-entry : goal.invariant-loop-entry
invariant-loop-entry l = l.lines ≡ map (merging_child l.from l.to) (take l.entry-index l.entries)
