use Rattle.std.specs.String.{string_bytes}
use Rattle.mr_out_program.specs.Starting.{StartsAll}
use Rattle.mr_out_program.proofs.attempts.attempt_each.Given as goal

abbrev pub invariant-loop : goal.invariant-loop
invariant-loop l = StartsAll l.fn.directory l.directory (string_bytes l.fn.lines) (string_bytes l.lines)
