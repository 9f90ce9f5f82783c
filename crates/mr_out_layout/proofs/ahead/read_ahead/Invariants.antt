use Rattle.std.specs.List.{AllByRecursion}
use Rattle.mr_out_layout.specs.Recorded.{IsOfLines}
use Rattle.mr_out_layout.proofs.ahead.read_ahead.Given as goal

abbrev pub invariant-loop-number : goal.invariant-loop-number
invariant-loop-number l = AllByRecursion IsOfLines l.segments.items
