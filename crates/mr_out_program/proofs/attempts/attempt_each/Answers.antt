use Rattle.std.specs.String.{string_bytes}
use Rattle.mr_out_program.proofs.Starting.{starts_more, stops_more, stopped}
use Rattle.mr_out_program.proofs.attempts.attempt_each.Goals as goal

pub returns-in_err-attempt_one : goal.returns-in_err-attempt_one
returns-in_err-attempt_one c =
    stopped c.args.directory.now c.attempt_one.new.directory (string_bytes c.args.lines.now) (string_bytes c.attempt_one.new.lines) c.from_residual.result c.in_err-attempt_one.field-0.0 c.from_residual.ensures.1
    (stops_more c.args.directory.now c.loop.directory c.attempt_one.new.directory (string_bytes c.args.lines.now) (string_bytes c.loop.lines) c.loop.invariant c.in_err-attempt_one.ensures)

pub returns-then-not-branch : goal.returns-then-not-branch
returns-then-not-branch c =
    starts_more c.args.directory.now c.loop.directory c.attempt_one.new.directory (string_bytes c.args.lines.now) (string_bytes c.loop.lines) (string_bytes c.attempt_one.new.lines) c.loop.invariant c.in_ok-attempt_one.ensures

pub loop-preserved : goal.loop-preserved
loop-preserved c =
    starts_more c.args.directory.now c.loop.directory c.attempt_one.new.directory (string_bytes c.args.lines.now) (string_bytes c.loop.lines) (string_bytes c.attempt_one.new.lines) c.loop.invariant c.in_ok-attempt_one.ensures
