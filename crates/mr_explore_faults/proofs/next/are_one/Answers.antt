use Rattle.std.proofs.Common.{◌∙◌}
use Rattle.mr_packet.proofs.Same.{eq-same}
use Rattle.mr_explore_faults.proofs.next.are_one.Goals as goal

pub returns : goal.returns
returns c = c.eq.ensures ∙ eq-same c.args.container.now c.args.other.now
