use Rattle.std.proofs.Common.{sym}
use Rattle.mr_play.proofs.works.made.Goals as goal

pub returns-in-Map : goal.returns-in-Map
returns-in-Map g c = rw (c.in-Map.is, ← c.as_slice.ensures) (c.work_of_map.ensures.works c.args.config.now (sym c.reduce_count.ensures))

pub returns-in-Reduce : goal.returns-in-Reduce
returns-in-Reduce g c = rw c.in-Reduce.is (c.work_of_reduce.ensures.works c.args.config.now)
