use Rattle.mr_script_order.proofs.Numbers.{numbers_tell}
use Rattle.mr_script_order.proofs.laws.numbers_tell_events_apart.Goals as goal

pub returns : goal.returns
returns c = numbers_tell
