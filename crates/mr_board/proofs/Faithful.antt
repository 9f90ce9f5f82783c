-- A journal that stays faithful, and what its files are then.
use Rattle.std.proofs.Common.{◌≡◌, ℕ, ◌≤◌, ◌^◌, Bool, true, false, List, [], ◌∷◌, ◌++◌, length, Option, Some, None, if◌then◌else◌, refl, sym, ap, subst, ◌∙◌}
use Rattle.std.specs.List.{AllByRecursion}
use Rattle.std.specs.Option.{option_and_then}
use Rattle.mr_world_events.specs.declared.event.Event.{Event}
use Rattle.mr_world_events.specs.declared.event.Event.TheVariants as event
use Rattle.mr_packet.specs.declared.packet.ContainerId.{ContainerId}
use Rattle.mr_world_model.specs.Packets.{Config}
use Rattle.mr_world_model.specs.World.{World, Compute}
use Rattle.mr_world_model.specs.Sequential.{CarriesDefinition, Input, IsFaithful, Job, input_of, made_of}
use Rattle.mr_world_model.proofs.Faithful.{faithful-more, faithful-none}
use Rattle.mr_world.specs.Journal.{Journal, world_in}
use Rattle.mr_world.specs.Limits.{within}
use Rattle.mr_world.specs.Readings.{input_in}
use Rattle.mr_board.specs.Boards.{Done, IsDue, IsMeant, input_now, is_computed}

abbrev pub FaithfulFor : Job → Journal → Type 0
FaithfulFor job j = IsFaithful job j.config (within j.config) j.events

-- with no event
pub faithful-empty : (job : Job) (j : Journal) → j.events ≡ [] → FaithfulFor job j
faithful-empty job j none = subst (IsFaithful job j.config (within j.config)) (sym none) (faithful-none job j.config (within j.config))

-- one event more
pub faithful-on : (job : Job) (old new : Journal) (e : Event) → FaithfulFor job old → CarriesDefinition job old.config (world_in old) e → new ≡ record { config = old.config; events = old.events ++ e ∷ [] } → FaithfulFor job new
faithful-on job old new e faithful carries is = subst (FaithfulFor job) (sym is) (faithful-more job old.config (within old.config) old.events e faithful (λ taken. carries))

-- an event that hands in nothing carries nothing
pub carries-nothing : (job : Job) (cfg : Config) (w : World) (e : Event) → is_computed e ≡ false → CarriesDefinition job cfg w e
carries-nothing job cfg w (event.Start k kept) not = tt
carries-nothing job cfg w (event.Crash k kept) not = tt
carries-nothing job cfg w (event.Duty k f) not = tt
carries-nothing job cfg w (event.LaunchOn k t n) not = tt
carries-nothing job cfg w (event.Deliver i) not = tt
carries-nothing job cfg w (event.ContainerStep c f) not = tt
carries-nothing job cfg w (event.Computed c bytes) not = absurd (cc)
carries-nothing job cfg w (event.Die c) not = tt
carries-nothing job cfg w (event.NodeRestart n) not = tt
carries-nothing job cfg w (event.Expire k n) not = tt

of-living : (alive : Bool) (o : Option Input) (x : Input) → (if alive then o else None) ≡ Some x → o ≡ Some x
of-living true o x is = is
of-living false o x is = absurd (cc)

-- the bytes of a work that is due are those of its container's input
pub carries-due : (job : Job) (j : Journal) (d : Done) → IsDue j d → IsMeant job d.reduces d.input d.bytes → CarriesDefinition job j.config (world_in j) (Compute d.container d.bytes)
carries-due job j d due meant =
    let input : input_of j.config (world_in j) d.container ≡ Some d.input = of-living ((world_in j).is_alive d.container) _ d.input due.0 in
    ap (option_and_then (made_of job j.config)) input ∙ meant j.config (sym due.1)

pub not-both : (b : Bool) → b ≡ true → b ≡ false → ⊥
not-both b is not = cc (sym is ∙ not)
