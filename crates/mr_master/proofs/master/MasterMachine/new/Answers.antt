use Rattle.std.proofs.Common.{[]}
use Rattle.mr_master_events.specs.mr_master_state.proofs.Standing.{stands-for-some}
use Rattle.mr_master.proofs.Past_stays.{passed-none}
use Rattle.mr_master.proofs.master.MasterMachine.new.Goals as goal

pub invariant_of-result : goal.invariant_of-result
invariant_of-result c = passed-none c.in_ok-machine.machine (stands-for-some c.in_ok-machine.machine c.args.setting [] c.in_ok-machine.ensures)
