use Rattle.std.proofs.Common.{◌≡◌, drop}
use Rattle.mr_out_listing.specs.Lines.{sized_behind}
use Rattle.mr_out_listing.proofs.hdfs.sized_behind.Given as goal

-- no place before this one has them
abbrev pub invariant-loop-at : goal.invariant-loop-at
invariant-loop-at l = sized_behind l.kind (drop l.at l.line) ≡ sized_behind l.kind l.line
