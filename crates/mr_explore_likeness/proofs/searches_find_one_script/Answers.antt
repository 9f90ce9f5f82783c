use Rattle.mr_explore_likeness.proofs.Scripts.{one_script_found}
use Rattle.mr_explore_likeness.proofs.searches_find_one_script.Goals as goal

pub returns : goal.returns
returns c = one_script_found
