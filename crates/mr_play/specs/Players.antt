-- What the calls of a player promise: what the definitions say of a script (our own profile).
use Rattle.std.specs.Prelude.{◌≡◌, ◌+◌, ◌%◌, ℕ, suc, Bool, true, false, List, [], ◌∷◌, ◌++◌, Option, Some, None, Result, Ok, Err, IfSome}
use Rattle.std.specs.Option.{option_and_then, option_to_list}
use Rattle.mr_packet.specs.declared.packet.ContainerId.{ContainerId}
use Rattle.mr_world_events.specs.declared.why.Why.{Why}
use Rattle.mr_mapside.specs.declared.fault.WorkFault.{WorkFault}
use Rattle.mr_world_model.specs.Packets.{Config}
use Rattle.mr_world_model.specs.World.{World, Event, Calm, ContainerStep, Deliver, Duty, LaunchOn}
use Rattle.mr_world_model.specs.Effect.{not_now}
use Rattle.mr_world_model.specs.Claims.{Limits}
use Rattle.mr_world_model.specs.Sequential.{Job, Input}
use Rattle.mr_container_work.specs.Works as works
use Rattle.mr_script.specs.declared.event_name.EventName.{EventName}
use Rattle.mr_script.specs.declared.event_name.EventName.TheVariants as name
use Rattle.mr_world.specs.Journal.{world_in}
use Rattle.mr_world.specs.Limits.{within}
use Rattle.mr_play.specs.declared.calm.Coming.{Coming}
use Rattle.mr_play.specs.declared.calm.Coming.TheVariants as coming
use Rattle.mr_sim_commands.specs.declared.fault.SimFault.{SimFault}
use Rattle.mr_sim_commands.specs.declared.fault.SimFault.TheVariants as sim
use Rattle.mr_sim_commands.specs.declared.job.submission.JobKind.{JobKind}
use Rattle.mr_play.specs.declared.fault.PlayerFault.{PlayerFault}
use Rattle.mr_play.specs.declared.fault.PlayerFault.TheVariants as fault
use Rattle.mr_play.specs.declared.player.Player.{Player}
use Rattle.mr_play.specs.declared.sources.Stretch.{Stretch}
use Rattle.mr_play.specs.Text.{job_as}
use Rattle.mr_play.specs.Played.{Played, Next, calmed, calms, computing, taken}

-- ---- how far a player is

abbrev pub state_in : Player → Played
state_in p = record { events = p.world.events; cursor = p.cursor; dropped = p.dropped.keys; stepped = p.stepped; told = p.told.items; met = p.met }

-- what its job computes
abbrev pub job_in : Player → JobKind
job_in p = p.job

abbrev pub cluster_in : Player → World
cluster_in p = world_in p.world

-- its job and its config stay, and what it noted of lines
pub record SameJob (old new : Player) : Type 0 where
  pub job : new.job ≡ old.job
  pub config : new.world.config ≡ old.world.config
  pub noted : new.stretches ≡ old.stretches

-- it is as far as is said
pub record Reaches (old : Player) (said : Option Played) (new : Player) : Type 0 where
  pub same : SameJob old new
  pub state : said ≡ Some (state_in new)

-- an allocation failure, or that a limit is passed, where it is
abbrev pub FullWhere : PlayerFault → Type 0 → Type 0
FullWhere fault.NoMemory full = Unit {0}
FullWhere fault.Full full = full

-- the same, as a fault of a subcommand
abbrev pub sim_fault : PlayerFault → SimFault
sim_fault fault.NoMemory = sim.NoMemory
sim_fault fault.Full = sim.Full

-- a player went as far as is said; nothing is said where a limit is passed
abbrev pub Goes : {A : Type 0} → Player → Option Played → Result A PlayerFault → Player → Type 0
Goes old said (Ok a) new = Reaches old said new
Goes old said (Err f) new = FullWhere f (said ≡ None)

-- it is as far as is said, and noted these stretches behind those that it had
pub record Notes (old : Player) (said : Option Played) (more : List Stretch) (new : Player) : Type 0 where
  pub job : new.job ≡ old.job
  pub config : new.world.config ≡ old.world.config
  pub state : said ≡ Some (state_in new)
  pub noted : new.stretches.items ≡ old.stretches.items ++ more

-- a player went as far as is said and noted this; nothing is said where a limit is passed
abbrev pub GoesNoting : {A : Type 0} → Player → Option Played → List Stretch → Result A PlayerFault → Player → Type 0
GoesNoting old said more (Ok a) new = Notes old said more new
GoesNoting old said more (Err f) new = FullWhere f (said ≡ None)

-- ---- events

-- an event was taken; or it is not permitted, for this reason, and nothing has changed
abbrev pub Applies : Player → Event → Option ContainerId → Result (Option Why) PlayerFault → Player → Type 0
Applies old e last (Ok None) new = (not_now old.world.config (cluster_in old) e ≡ None) × Reaches old (taken (job_as old.job) old.world.config (within old.world.config) e last (state_in old)) new
Applies old e last (Ok (Some why)) new = (not_now old.world.config (cluster_in old) e ≡ Some why) × (new ≡ old)
Applies old e last (Err f) new = FullWhere f ((not_now old.world.config (cluster_in old) e ≡ None) × (taken (job_as old.job) old.world.config (within old.world.config) e last (state_in old) ≡ None))

-- the event that is said; no event is said where its work is too much
abbrev pub IsEvent : Option Event → Result Event PlayerFault → Type 0
IsEvent said (Ok e) = said ≡ Some e
IsEvent said (Err f) = FullWhere f (said ≡ None)

-- what a work answers whose gate is always open
abbrev pub Works : Option (List ℕ) → Result (List ℕ) WorkFault → Type 0
Works said r = works.Works ⊥ said r

-- the split of an input is not too long, and its pieces are not too many
abbrev pub IsShort : Option Input → Type 0
IsShort input = IfSome input works.IsShort

-- ---- calms

-- its names
abbrev pub names_of : Coming → List EventName
names_of coming.Deliver = []
names_of (coming.Duty d) = d ∷ []
names_of (coming.Launch t) = name.Launch ∷ []
names_of (coming.Step c n) = name.Step ∷ option_to_list n
names_of (coming.Compute c) = name.Step ∷ name.Compute ∷ []

-- what comes next, with who has stepped last and where the cursor is
abbrev pub next_as : Job → Config → Limits → World → ℕ → Option ContainerId → ℕ → Coming → Next
next_as job cfg within w k last at coming.Deliver = record { names = []; event = Some (Deliver at); stepped = last; cursor = at + 1 }
next_as job cfg within w k last at (coming.Duty d) = record { names = d ∷ []; event = Some (Duty k Calm); stepped = last; cursor = at }
next_as job cfg within w k last at (coming.Launch t) = record { names = name.Launch ∷ []; event = Some (LaunchOn k t (t.number % cfg.nodes)); stepped = last; cursor = at }
next_as job cfg within w k last at (coming.Step c n) = record { names = name.Step ∷ option_to_list n; event = Some (ContainerStep c Calm); stepped = Some c; cursor = at }
next_as job cfg within w k last at (coming.Compute c) = record { names = name.Step ∷ name.Compute ∷ []; event = computing job cfg within w c; stepped = Some c; cursor = at }

-- the same, of a player
abbrev pub next_in : Player → ℕ → Coming → Next
next_in p k = next_as (job_as p.job) p.world.config (within p.world.config) (cluster_in p) k p.stepped p.cursor

-- what a calm makes of an event, and then goes on with
abbrev pub made_then : Player → Next → (Played → Option Played) → Option Played
made_then p next more =
    option_and_then (λ e. calmed (job_as p.job) p.world.config (within p.world.config) more e next.stepped (record (state_in p) { cursor = next.cursor }) (not_now p.world.config (cluster_in p) e)) next.event

-- the same of one event
abbrev pub happened_then : Player → Event → Option ContainerId → (Played → Option Played) → Option Played
happened_then p e last more = calmed (job_as p.job) p.world.config (within p.world.config) more e last (state_in p) (not_now p.world.config (cluster_in p) e)

abbrev pub HappensAs : Player → Event → Option ContainerId → Result Bool PlayerFault → Player → Type 0
HappensAs old e last (Ok true) new = SameJob old new × ((more : Played → Option Played) → happened_then old e last more ≡ more (state_in new))
HappensAs old e last (Ok false) new = SameJob old new × ((more : Played → Option Played) → happened_then old e last more ≡ Some (state_in new))
HappensAs old e last (Err f) new = FullWhere f ((more : Played → Option Played) → happened_then old e last more ≡ None)

-- The event of a calm was made, and the calm goes on; or it was not permitted, and the calm has ended.
abbrev pub MakesNext : Player → Next → Result Bool PlayerFault → Player → Type 0
MakesNext old next (Ok true) new = SameJob old new × ((more : Played → Option Played) → made_then old next more ≡ more (state_in new))
MakesNext old next (Ok false) new = SameJob old new × ((more : Played → Option Played) → made_then old next more ≡ Some (state_in new))
MakesNext old next (Err f) new = FullWhere f ((more : Played → Option Played) → made_then old next more ≡ None)

-- what a calm of at most `most` events makes
abbrev pub calm_of : Player → ℕ → Option EventName → ℕ → Option Played
calm_of p k stop most = calms (job_as p.job) p.world.config (within p.world.config) k stop most (state_in p)

-- A calm of one event more goes on from where it is; or it has ended.
abbrev pub CalmsOnce : Player → ℕ → Option EventName → Result Bool PlayerFault → Player → Type 0
CalmsOnce old k stop (Ok true) new = SameJob old new × ((most : ℕ) → calm_of old k stop (suc most) ≡ calm_of new k stop most)
CalmsOnce old k stop (Ok false) new = SameJob old new × ((most : ℕ) → calm_of old k stop (suc most) ≡ Some (state_in new))
CalmsOnce old k stop (Err f) new = FullWhere f ((most : ℕ) → calm_of old k stop (suc most) ≡ None)
