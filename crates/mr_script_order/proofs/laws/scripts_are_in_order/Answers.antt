use Rattle.mr_script_order.proofs.Ordered.{in_order}
use Rattle.mr_script_order.proofs.laws.scripts_are_in_order.Goals as goal

pub returns : goal.returns
returns c = in_order
