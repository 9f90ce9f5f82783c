use Rattle.std.proofs.Common.{rules}
use Rattle.mr_script_order.proofs.Numbers.{equal_are_level}
use Rattle.mr_script_order.proofs.order.event_cmp.Goals as goal

pub returns-then-eq : goal.returns-then-eq
returns-then-eq c = equal_are_level c.args.a.now c.args.b.now (search rules)
