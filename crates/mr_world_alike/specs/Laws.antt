-- What follows where two worlds are alike.
use Rattle.std.specs.Prelude.{◌≡◌, List, [], ◌∷◌, ◌++◌, None}
use Rattle.mr_world_model.specs.Ids.{TaskId, marker}
use Rattle.mr_world_model.specs.Content.{entry_at, is_file}
use Rattle.mr_world_model.specs.Packets.{Config}
use Rattle.mr_world_model.specs.World.{World, Event}
use Rattle.mr_world_model.specs.Sending.{sent}
use Rattle.mr_world_model.specs.Effect.{effect, happens, not_now}
use Rattle.mr_world_model.specs.Claims.{Limits, winner, world_of}
use Rattle.mr_world_model.specs.Results.{outcome, visible}
use Rattle.mr_world_alike.specs.Alike.{Alike, IsSame}

-- An event that is the same in both is permitted in both, or refused for one reason. Where it is permitted, the same packets are sent, and what it leaves is
-- alike.
pub record StayAlike (cfg : Config) (w u : World) (e f : Event) : Type 0 where
  pub permitted : not_now cfg w e ≡ not_now cfg u f
  pub sends : not_now cfg w e ≡ None → sent cfg w e ≡ sent cfg u f
  pub left : not_now cfg w e ≡ None → Alike cfg (effect cfg w e) (effect cfg u f)

abbrev pub WhatIsAlikeStaysAlike : Config → Limits → Type 0
WhatIsAlikeStaysAlike cfg within = (es fs : List Event) (e f : Event) → Alike cfg (world_of cfg within es) (world_of cfg within fs)
    → IsSame (world_of cfg within es) (world_of cfg within fs) e f → StayAlike cfg (world_of cfg within es) (world_of cfg within fs) e f

-- two lists of events are the same, one by one, and a limit that forbids one event forbids the other
abbrev pub AreSame : Config → Limits → World → World → List Event → List Event → Type 0
AreSame cfg within w u [] [] = Unit {0}
AreSame cfg within w u [] (f ∷ fs) = ⊥
AreSame cfg within w u (e ∷ es) [] = ⊥
AreSame cfg within w u (e ∷ es) (f ∷ fs) = IsSame w u e f × (within w e ≡ within u f) × AreSame cfg within (happens cfg within w e) (happens cfg within u f) es fs

abbrev pub AlikeRunsStayAlike : Config → Limits → Type 0
AlikeRunsStayAlike cfg within = (es fs gs hs : List Event) → Alike cfg (world_of cfg within es) (world_of cfg within fs)
    → AreSame cfg within (world_of cfg within es) (world_of cfg within fs) gs hs → Alike cfg (world_of cfg within (es ++ gs)) (world_of cfg within (fs ++ hs))

-- two worlds have come to one end: the winners, whether the marker is there, the outcome, and the files that a reader sees
pub record EndTheSame (w u : World) : Type 0 where
  pub winners : (t : TaskId) → winner w t ≡ winner u t
  pub marked : is_file (entry_at w.content marker) ≡ is_file (entry_at u.content marker)
  pub told : outcome w ≡ outcome u
  pub files : visible w ≡ visible u

abbrev pub AlikeWorldsEndTheSame : Type 0
AlikeWorldsEndTheSame = (cfg : Config) (within : Limits) (es fs : List Event) → Alike cfg (world_of cfg within es) (world_of cfg within fs) → EndTheSame (world_of cfg within es) (world_of cfg within fs)

-- to be alike is an equivalence among worlds of runs
pub record AlikeIsAnEquivalence : Type 0 where
  pub itself : (cfg : Config) (within : Limits) (es : List Event) → Alike cfg (world_of cfg within es) (world_of cfg within es)
  pub back : (cfg : Config) (w u : World) → Alike cfg w u → Alike cfg u w
  pub through : (cfg : Config) (w u v : World) → Alike cfg w u → Alike cfg u v → Alike cfg w v
