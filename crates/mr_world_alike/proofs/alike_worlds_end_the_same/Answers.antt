use Rattle.mr_world_alike.proofs.Worlds.{ends_are_one}
use Rattle.mr_world_alike.proofs.alike_worlds_end_the_same.Goals as goal

pub returns : goal.returns
returns c = record { same = ends_are_one }
