use Rattle.mr_world_model.proofs.Names as names
use Rattle.mr_world_model.proofs.paths_are_the_layouts.Goals as goal

pub returns : goal.returns
returns c = names.paths_are_the_layouts
