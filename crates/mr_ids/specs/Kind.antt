-- Of which kind a task is. Hadoop's task types, map and reduce alone.
use Rattle.std.specs.Prelude.{Bool, true, false}
use Rattle.mr_ids.specs.declared.id.TaskKind.{TaskKind}
use Rattle.mr_ids.specs.declared.id.TaskKind.TheVariants.{Map, Reduce}

abbrev pub is_map : TaskKind → Bool
is_map Map = true
is_map Reduce = false

abbrev pub is_reduce : TaskKind → Bool
is_reduce Map = false
is_reduce Reduce = true
