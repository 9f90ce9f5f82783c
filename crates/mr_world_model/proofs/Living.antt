-- A living master was raised to, and its attempts have the numbers of its generation.
use Rattle.std.proofs.Common.{List}
use Rattle.mr_world_model.specs.Packets.{Config}
use Rattle.mr_world_model.specs.World.{Event, opening_world}
use Rattle.mr_world_model.specs.Claims.{Limits, world_of}
use Rattle.mr_world_model.specs.Laws.{MastersAreRaised}
use Rattle.mr_world_model.proofs.Basic.{along}
use Rattle.mr_world_model.proofs.Grows.{Aged, aged, opening_aged}
use Rattle.mr_world_model.proofs.Numbers.{Numbers, numbers, opening-numbers}

numbers-of : (cfg : Config) (within : Limits) (es : List Event) → Numbers cfg (world_of cfg within es)
numbers-of cfg within es = along (Numbers cfg) cfg within (λ w e o n. numbers cfg w e o n) opening_world es (opening-numbers cfg)

aged-of : (cfg : Config) (within : Limits) (es : List Event) → Aged (world_of cfg within es)
aged-of cfg within es = along Aged cfg within (λ w e o n. aged cfg w e o n) opening_world es opening_aged

pub masters_are_raised : MastersAreRaised
masters_are_raised = record {
  raised = λ cfg within es k e. ((numbers-of cfg within es).positive k e, (aged-of cfg within es).masters_started k e);
  numbered = λ cfg within es k l i. let o = (numbers-of cfg within es).ranged k l i in o.1;
}
