-- What the machine of a container that lives says is what the definitions say of it.
use Rattle.std.proofs.Common.{◌≡◌, ℕ, ◌<◌, ◌≤◌, ◌^◌, refl, subst, Bool, true, false, ◌&&◌, nat_lt, nat_le, if◌then◌else◌, Option, Some, None, length, arith}
use Rattle.std.proofs.lemmas.Bool.{ltb-true, leb-true}
use Rattle.mr_container.specs.State as container
use Rattle.mr_world_model.specs.Ids.{ContainerId, is_reduce}
use Rattle.mr_world_model.specs.Packets.{Config}
use Rattle.mr_world_model.specs.Pasts.{Place}
use Rattle.mr_world_model.specs.World.{World}
use Rattle.mr_world_model.specs.Actors.{ContainerIn, ContainerSays, BoundsBytes}
use Rattle.mr_world_model.proofs.Runs.{containers_say}
use Rattle.mr_world_actors.specs.Living.{kept}
use Rattle.mr_world_state.specs.declared.parts.Parts.{Parts}
use Rattle.mr_world_state.specs.Limits.{within, fits_bytes}
use Rattle.mr_world_state.specs.Standing.{Standing}

left-true : (a b : Bool) → (a && b) ≡ true → a ≡ true
left-true true b e = refl
left-true false b e = e

short-enough : (o : Option Place) (n : ℕ) → fits_bytes o n ≡ true → n < 2 ^ 32
short-enough None n e = ltb-true n (2 ^ 32) e
short-enough (Some p) n e = by (is_reduce p.attempt) e
  where
    by : (b : Bool) → (if b then nat_lt n (2 ^ 32) else nat_le n 16777216) ≡ true → n < 2 ^ 32
    by true e = ltb-true n (2 ^ 32) e
    by false e = let l : n ≤ 16777216 = leb-true n 16777216 e in omega (arith, l)

pub bounds_bytes : (cfg : Config) → BoundsBytes (within cfg)
unfolding within
bounds_bytes cfg w c bytes e = short-enough (w.place c) (length bytes) (left-true _ _ e)

pub says : (p : Parts) (w : World) (c : ContainerId) (m : container.Container) → Standing p w → kept p.living c ≡ Some m → ContainerSays p.config w c m
says p w c m s there = subst (λ u. ContainerIn p.config u c m → ContainerSays p.config u c m) s.reached.is
    (containers_say p.config (within p.config) (bounds_bytes p.config) s.reached.events c m) (s.living.machines c m there)
