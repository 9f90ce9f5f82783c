use Rattle.std.proofs.Common.{sym}
use Rattle.mr_world.proofs.Read_masters.{due-is}
use Rattle.mr_world.proofs.reading.due.Goals as goal

pub returns-in_ok-duty_name-in-Some-clause-is : goal.returns-in_ok-duty_name-in-Some-clause-is
returns-in_ok-duty_name-in-Some-clause-is c = λ w s. due-is c.args.parts.now w c.args.k c.in-Some.machine.now _ s (sym c.in-Some.ensures) c.in_ok-duty_name-in-Some.ensures
