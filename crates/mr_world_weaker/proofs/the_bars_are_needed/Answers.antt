use Rattle.mr_world_weaker.proofs.Lost_file.{bars-needed}
use Rattle.mr_world_weaker.proofs.the_bars_are_needed.Goals as goal

pub returns : goal.returns
returns c = record { needed = bars-needed }
