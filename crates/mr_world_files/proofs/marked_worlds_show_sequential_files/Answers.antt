use Rattle.mr_world_files.proofs.Seen.{marked_worlds_show}
use Rattle.mr_world_files.proofs.marked_worlds_show_sequential_files.Goals as goal

pub returns : goal.returns
returns c = marked_worlds_show
