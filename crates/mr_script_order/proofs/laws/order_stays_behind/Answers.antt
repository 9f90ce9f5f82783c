use Rattle.mr_script_order.proofs.Ordered.{stays}
use Rattle.mr_script_order.proofs.laws.order_stays_behind.Goals as goal

pub returns : goal.returns
returns c = stays
