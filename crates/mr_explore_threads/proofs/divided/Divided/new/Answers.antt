use Rattle.mr_explore_threads.proofs.divided.Divided.new.Goals as goal

pub returns-clause-begins : goal.returns-clause-begins
returns-clause-begins c =
    let b = c.in_ok-parts.ensures.begins in record { run = b.run; is = b.is; left = b.left; faults = b.faults; table = c.new.ensures }
