use Rattle.std.proofs.Common.{◌∙◌}
use Rattle.mr_explore.proofs.exploration.Exploration.new.Goals as goal

pub returns-in-Ok-clause-begins : goal.returns-in-Ok-clause-begins
returns-in-Ok-clause-begins c =
    let b = c.in_ok-parts.ensures.begins in record { run = b.run; is = b.is; left = c.in-Ok.ensures.all ∙ b.left; faults = b.faults; table = c.new.ensures }
