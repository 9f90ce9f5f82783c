use Rattle.std.proofs.Common.{◌^◌}
use Rattle.mr_master_tables.proofs.Marking.{IsFirstOn}
use Rattle.mr_master_tables.proofs.marks.first_leaf.Given as goal

abbrev pub invariant-loop-level : goal.invariant-loop-level
invariant-loop-level l = IsFirstOn l.tree.items (2 ^ l._level) l.node
