use Rattle.std.proofs.Common.{not, ap, ◌∙◌, arith}
use Rattle.mr_out_layout.specs.Segments.{line_count}
use Rattle.mr_out_layout.proofs.Ends.{one_line_off, no_more, more_left}
use Rattle.mr_out_layout.proofs.segments.has_more_lines.Goals as goal

pub loop-preserved : goal.loop-preserved
loop-preserved c = one_line_off (line_count c.args.bytes.now) c.loop.counter c.loop.rest.now _ c.in-Some.after.now c.loop.invariant c.in-Some.ensures.some.0 c.in-Some.ensures.some.1

pub returns-in_default : goal.returns-in_default
returns-in_default c = no_more (line_count c.args.bytes.now) c.loop.counter c.loop.rest.now c.loop.invariant (omega arith) c.in_default.ensures.none

pub returns : goal.returns
returns c = ap not c.is_empty.ensures ∙ more_left (line_count c.args.bytes.now) c.loop.counter c.loop.rest.now c.loop.invariant (omega arith)
