use Rattle.std.specs.String.{string_bytes}
use Rattle.mr_out_program.proofs.Starting.{one_started}
use Rattle.mr_out_program.proofs.attempts.attempt_one.Goals as goal

pub returns-in-Ok : goal.returns-in-Ok
returns-in-Ok c =
    one_started c.args.directory.now c.settle.new.directory c.in-Ok.end (string_bytes c.args.lines.now) (string_bytes c.put_started.new.lines) c.put_started.result c.in-Ok.ensures c.put_started.ensures
