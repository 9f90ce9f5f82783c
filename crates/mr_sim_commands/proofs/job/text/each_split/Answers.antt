use Rattle.mr_sim_commands.proofs.job.text.each_split.Goals as goal

pub returns-clause-short : goal.returns-clause-short
returns-clause-short c = rw c.from_vec.ensures c.loop-value.invariant.short
