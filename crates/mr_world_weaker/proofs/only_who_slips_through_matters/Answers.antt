use Rattle.mr_world_weaker.proofs.Slips.{only-who-slips}
use Rattle.mr_world_weaker.proofs.only_who_slips_through_matters.Goals as goal

pub returns : goal.returns
returns c = record { same = only-who-slips }
