use Rattle.mr_world.proofs.Read_results.{kind-refused}
use Rattle.mr_world.proofs.results.kind_at.Goals as goal

pub unreachable-requires : goal.unreachable-requires
unreachable-requires c = kind-refused c.args.names.now c.onlooker.result c.args.path.now c.in-Err.field-0 _ c.onlooker.ensures.heard c.in-Err.ensures
