-- The events of a journal can happen once more, in a world of their own.
use Rattle.std.specs.Prelude.{List, [], ◌∷◌, ◌++◌}
use Rattle.mr_world_model.specs.Packets.{Config}
use Rattle.mr_world_model.specs.World.{Event}
use Rattle.mr_world.specs.Applying.{CanHappen}

-- behind the events before them each of these can happen, in turn
abbrev pub CanFollow : Config → List Event → List Event → Type 0
CanFollow cfg before [] = Unit {0}
CanFollow cfg before (e ∷ es) = CanHappen (record { config = cfg; events = before }) e × CanFollow cfg (before ++ e ∷ []) es
