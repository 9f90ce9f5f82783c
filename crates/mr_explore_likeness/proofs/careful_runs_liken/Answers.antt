use Rattle.mr_explore_likeness.proofs.Wary.{wary_likens}
use Rattle.mr_explore_likeness.proofs.careful_runs_liken.Goals as goal

pub returns : goal.returns
returns c = wary_likens
