use Rattle.std.proofs.Common.{◌≡◌, take, map, filter}
use Rattle.mr_commit.specs.Line.{merging_task, is_task}
use Rattle.mr_commit.proofs.line.merging_tasks.Given as goal

abbrev pub invariant-loop-entry : goal.invariant-loop-entry
invariant-loop-entry l = l.lines ≡ map (merging_task l.from l.to) (filter is_task (take l.entry-index l.entries))
