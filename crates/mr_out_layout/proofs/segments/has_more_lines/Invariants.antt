use Rattle.std.proofs.Common.{◌≡◌, ◌+◌}
use Rattle.mr_out_layout.specs.Segments.{line_count}
use Rattle.mr_out_layout.proofs.segments.has_more_lines.Given as goal

-- the lines so far, and those that are left
abbrev pub invariant-loop : goal.invariant-loop
invariant-loop l = line_count l.bytes ≡ l.counter + line_count l.rest
