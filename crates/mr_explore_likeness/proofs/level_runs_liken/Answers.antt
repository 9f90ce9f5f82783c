use Rattle.mr_explore_likeness.proofs.Whole.{level_likens}
use Rattle.mr_explore_likeness.proofs.level_runs_liken.Goals as goal

pub returns : goal.returns
returns c = level_likens
