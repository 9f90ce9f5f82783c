-- A kind is a map's, or a reduce's, exactly if it is one with that.
use Rattle.std.proofs.Common.{◌≡◌, refl}
use Rattle.mr_ids.specs.Kind.{is_map, is_reduce}
use Rattle.mr_ids.specs.Same.{same_kind}
use Rattle.mr_ids.specs.declared.id.TaskKind.{TaskKind}
use Rattle.mr_ids.specs.declared.id.TaskKind.TheVariants.{Map, Reduce}

pub map_is : (k : TaskKind) → is_map k ≡ same_kind Map k
map_is Map = refl
map_is Reduce = refl

pub reduce_is : (k : TaskKind) → is_reduce k ≡ same_kind Reduce k
reduce_is Map = refl
reduce_is Reduce = refl
