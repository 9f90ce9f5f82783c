use Rattle.std.proofs.Common.{◌≡◌, drop}
use Rattle.mr_trace.specs.Happened.{source_at}
use Rattle.mr_trace.proofs.makers.source_at.Given as goal

-- none so far ends behind it
abbrev pub invariant-loop-stretch : goal.invariant-loop-stretch
invariant-loop-stretch l = source_at (drop l.stretch-index l.stretches) l.place ≡ source_at l.stretches l.place
