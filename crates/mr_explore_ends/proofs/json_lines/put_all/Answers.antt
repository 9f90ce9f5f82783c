use Rattle.mr_explore_ends.proofs.Choosing.{number_goes}
use Rattle.mr_explore_ends.specs.JsonLines.{lines_by}
use Rattle.mr_explore_ends.proofs.json_lines.put_all.Goals as goal

pub loop-number-preserved : goal.loop-number-preserved
loop-number-preserved c = number_goes (lines_by c.args.sequential.now c.args.table.now.ends) c.args.out.now.items c.loop-number.out.items c.put_by.new.out.items c.loop-number.number c.loop-number.invariant c.in_ok-put_by.ensures
