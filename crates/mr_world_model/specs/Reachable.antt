-- That the claims are not said of nothing: the events of a whole job are possible. Our own.
use Rattle.std.specs.Prelude.{ℕ, ◌≡◌, ◌<◌, true, List, ◌∷◌, Some}
use Rattle.mr_world_model.specs.Ids.{Attempt, reduce_of, part}
use Rattle.mr_world_model.specs.Content.{File, entry_at}
use Rattle.mr_world_model.specs.Packets.{Config}
use Rattle.mr_world_model.specs.World.{World, Event}
use Rattle.mr_world_model.specs.Claims.{Limits, world_of, IsMarked, IsToldOutcome, IsToldWon, IsComplete, winner}

-- a job of some reduces has succeeded: the marker is there, success was told, a reader sees the winners' files, and the first reduce's is one with bytes
pub record HasSucceeded (cfg : Config) (w : World) : Type 0 where
  pub some : 0 < cfg.reduces
  pub marked : IsMarked w
  pub told : IsToldOutcome w true
  pub complete : IsComplete cfg w
  pub first : Attempt
  pub won : winner w (reduce_of cfg.job 0) ≡ Some first
  pub told_won : IsToldWon w (reduce_of cfg.job 0) first
  pub byte : ℕ
  pub bytes : List ℕ
  pub file : entry_at w.content (part (reduce_of cfg.job 0)) ≡ Some (File (byte ∷ bytes) true)

-- where the limits refuse nothing, some events of some job lead to its success
abbrev pub AMarkedWorldIsReached : Type 0
AMarkedWorldIsReached = (within : Limits) → ((w : World) (e : Event) → within w e ≡ true) → (cfg : Config) × (es : List Event) × HasSucceeded cfg (world_of cfg within es)
