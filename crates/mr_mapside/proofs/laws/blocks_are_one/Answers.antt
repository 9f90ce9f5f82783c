use Rattle.mr_mapside.proofs.Cuts.{blocks_one}
use Rattle.mr_mapside.proofs.laws.blocks_are_one.Goals as goal

pub returns : goal.returns
returns c = blocks_one
