use Rattle.mr_explore_likeness.proofs.Scripts.{one_script}
use Rattle.mr_explore_likeness.proofs.least_runs_have_one_script.Goals as goal

pub returns : goal.returns
returns c = one_script
