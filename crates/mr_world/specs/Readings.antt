-- What programs read of a world: of masters and containers that are alive, and nothing of others. Our own profile.
use Rattle.std.specs.Prelude.{ℕ, List, map, filter, length, Option, Some, None, if◌then◌else◌}
use Rattle.std.specs.Option.{option_map}
use Rattle.std.specs.List.{flat_map, range_with_len}
use Rattle.mr_ids.specs.declared.id.TaskId.{TaskId}
use Rattle.mr_history.specs.Recorded.{tail_width}
use Rattle.mr_packet.specs.declared.packet.ContainerId.{ContainerId}
use Rattle.mr_container.specs.declared.wish.Wish.{Wish}
use Rattle.mr_container.specs.declared.wish.Wish.TheVariants as wish
use Rattle.mr_container.specs.Readings as container
use Rattle.mr_master_model.specs.declared.phase.Phase.{Phase}
use Rattle.mr_master_model.specs.declared.phase.DutyName.{DutyName}
use Rattle.mr_world_model.specs.Packets.{Config}
use Rattle.mr_world_model.specs.Pasts.{Place, Step}
use Rattle.mr_world_model.specs.World.{World, duty, seen_by}
use Rattle.mr_world_model.specs.Sequential as sequential
use Rattle.mr_world_model.specs.Wanted.{wanted}
use Rattle.mr_master_refinement.specs.Works.{phase_of, named}
-- the next living container after another, in cyclic order
pub use Rattle.mr_world_state.specs.mr_world_actors.specs.Order.{is_behind, next_living}
use Rattle.mr_world.specs.declared.inputs.Input.{Input}
use Rattle.mr_world.specs.declared.inputs.Input.TheVariants.{Map, Reduce}

-- ---- masters

abbrev pub phase_in : Config → World → ℕ → Option Phase
phase_in cfg w k = if w.is_master k then Some (phase_of (seen_by cfg w k).phase) else None

-- the task that it launches next
abbrev pub wanted_in : Config → World → ℕ → Option TaskId
wanted_in cfg w k = if w.is_master k then wanted cfg (seen_by cfg w k) else None

-- what its next store call is for
abbrev pub due_in : Config → World → ℕ → Option DutyName
due_in cfg w k = if w.is_master k then option_map (λ d. d.name) (named (seen_by cfg w k).phase (duty cfg w k)) else None

-- how many bytes of its segment are not flushed
abbrev pub unflushed_in : World → ℕ → Option ℕ
unflushed_in w k = if w.is_master k then Some (tail_width (w.history k)) else None

-- ---- containers

-- what it was launched as
abbrev pub place_in : World → ContainerId → Option Place
place_in w c = if w.is_alive c then w.place c else None

-- the wish of a container that was launched so
abbrev pub wish_by : Config → Option Place → List Step → Wish
wish_by cfg None h = wish.Over
wish_by cfg (Some p) h = (container.seen (length cfg.splits) p.attempt h).wish

abbrev pub wish_in : Config → World → ContainerId → Option Wish
wish_in cfg w c = if w.is_alive c then Some (wish_by cfg (w.place c) (w.container_past c)) else None

abbrev pub as_input : Input → sequential.Input
as_input (Map split bytes) = sequential.Split split bytes.now
as_input (Reduce reduce pieces) = sequential.Pieces reduce pieces.now

-- what it is to compute from, where it wishes to compute
abbrev pub input_in : Config → World → ContainerId → Option sequential.Input
input_in cfg w c = if w.is_alive c then sequential.input_of cfg w c else None

-- ---- the living containers

-- those that master k launched, alive or not, by number
abbrev pub launched_by : Config → World → ℕ → List ContainerId
launched_by cfg w k = map (λ n. record { app = k; number = n }) (range_with_len 0 (length (seen_by cfg w k).launched))

-- by generation, then number
unfoldable pub living : Config → World → List ContainerId
living cfg w = filter w.is_alive (flat_map (launched_by cfg w) (range_with_len 1 w.fence))
