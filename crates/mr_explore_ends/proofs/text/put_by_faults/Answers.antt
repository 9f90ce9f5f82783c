use Rattle.mr_explore_ends.specs.Text.{ends_text}
use Rattle.mr_explore_ends.proofs.Choosing.{number_goes}
use Rattle.mr_explore_ends.proofs.text.put_by_faults.Goals as goal

pub loop-number-preserved : goal.loop-number-preserved
loop-number-preserved c = number_goes (ends_text c.args.sequential.now c.args.table.now.ends) c.args.out.now.items c.loop-number.out.items c.put_ends.new.out.items c.loop-number.number c.loop-number.invariant c.in_ok-put_ends.ensures
