-- The definitions, of a player.
use Rattle.std.specs.Prelude.{◌≡◌, ℕ, Bool, true, false, List, Option, Some, None, Result, Ok, Err}
use Rattle.std.specs.declared.alloc.AllocError.{AllocError}
use Rattle.mr_packet.specs.declared.packet.ContainerId.{ContainerId}
use Rattle.mr_world_model.specs.World.{Event, Crash}
use Rattle.mr_play.specs.mr_world.specs.Limits.{within}
use Rattle.mr_play.specs.declared.player.Player.{Player}
use Rattle.mr_play.specs.Played.{Played}
use Rattle.mr_play.specs.Text.{job_as}
use Rattle.mr_play.specs.Players.{SameJob, state_in}
use Rattle.mr_explore_search.specs.Steps.{Onward, Goes, Ends, Full}
use Rattle.mr_explore_faults.specs.declared.fault.Fault.{Fault}
use Rattle.mr_explore.specs.declared.tried.Tried.{Tried}
use Rattle.mr_explore.specs.declared.tried.Tried.TheVariants as tried
use Rattle.mr_explore.specs.Faults.{Fate, Happens, NotPermitted, PastLimit, asks_on, befallen_by, calm, faults_at, faults_by, goes_in_vain, happening, kept, kept_in, listed, next_event, of_crashes, of_world, onward, starting, told}
use Rattle.mr_sim_commands.specs.declared.fault.SimFault.{SimFault}
use Rattle.mr_sim_commands.specs.declared.fault.SimFault.TheVariants as fault
use Rattle.mr_play.specs.declared.fault.PlayerFault.{PlayerFault}
use Rattle.mr_play.specs.declared.fault.PlayerFault.TheVariants as player_fault
use Rattle.mr_explore.specs.Runs.{Exploring, newest_in, start_first}

abbrev pub view_with : (past deep : Bool) → Player → Exploring
view_with past deep p = record { job = p.job; config = p.world.config; played = state_in p; past_limit = past; deep = deep }

abbrev pub view_as : (deep : Bool) → Player → Exploring
view_as deep p = view_with false deep p

abbrev pub view_of : Player → Exploring
view_of p = view_as false p

abbrev pub calm_in : Player → ℕ → Played → Option Played
calm_in p most s = calm (job_as p.job) p.world.config (within p.world.config) most s

abbrev pub happening_in : Player → Event → Played → Fate
happening_in p e s = happening (job_as p.job) p.world.config (within p.world.config) e s

abbrev pub starting_in : Player → (k kept : ℕ) → Fate
starting_in p k kept = starting (job_as p.job) p.world.config (within p.world.config) k kept (state_in p)

abbrev pub befallen_in : Player → ℕ → Fault → Fate
befallen_in p k f = befallen_by (job_as p.job) p.world.config (within p.world.config) k f (state_in p)

abbrev pub faults_in : (deep : Bool) → Player → List Fault
faults_in deep p = faults_at (job_as p.job) p.world.config (within p.world.config) deep (state_in p)

abbrev pub next_in : (deep : Bool) → Player → Option Event
next_in deep p = next_event (job_as p.job) p.world.config (within p.world.config) deep (state_in p)

abbrev pub onward_in : (deep : Bool) → Player → Onward Played
onward_in deep p = onward (job_as p.job) p.world.config (within p.world.config) deep (state_in p)

-- whether it goes on in vain
abbrev pub vain_in : Player → Bool
vain_in p = goes_in_vain (job_as p.job) p.world.config (within p.world.config) (state_in p)

abbrev pub asks_on_in : Player → List ContainerId → Bool
asks_on_in p cs = asks_on (job_as p.job) p.world.config (within p.world.config) cs (state_in p)

-- What was tried came of a player as is said: it is as far as what happened, or came before what a limit forbids. Nothing
-- is said of a player where it was not permitted, or where there was no memory.
abbrev pub Fares : Player → Fate → Result Tried AllocError → Player → Type 0
Fares old said (Ok tried.Befell) new = SameJob old new × (said ≡ Happens (state_in new))
Fares old said (Ok tried.CanNot) new = said ≡ NotPermitted
Fares old said (Ok tried.PassesLimit) new = SameJob old new × (said ≡ PastLimit (state_in new))
Fares old said (Err f) new = Unit {0}

-- the same of a run, of which a limit forbids the last fault or not
abbrev pub FaresAs : Option Exploring → (past deep : Bool) → Tried → Player → Type 0
FaresAs said past deep tried.Befell new = said ≡ Some (view_with past deep new)
FaresAs said past deep tried.CanNot new = said ≡ None
FaresAs said past deep tried.PassesLimit new = said ≡ Some (view_with true deep new)

-- a run went on as is said
abbrev pub GoesAs : Onward Played → Player → Result Bool PlayerFault → Player → Type 0
GoesAs said old (Ok true) new = SameJob old new × (said ≡ Goes (state_in new))
GoesAs said old (Ok false) new = SameJob old new × (said ≡ Ends (state_in new))
GoesAs said old (Err player_fault.Full) new = said ≡ Full
GoesAs said old (Err player_fault.NoMemory) new = Unit {0}

abbrev pub kept_of : Player → List ℕ
kept_of p = kept (job_as p.job) p.world.config (within p.world.config) (state_in p)

abbrev pub faults_from : Player → Option Event → List Fault
faults_from p next = faults_by (job_as p.job) p.world.config (within p.world.config) next (state_in p)

abbrev pub listed_in : Player → Option Event → List Fault
listed_in p next = listed (job_as p.job) p.world.config (within p.world.config) next (state_in p)

abbrev pub of_world_in : Player → List Fault
of_world_in p = of_world (job_as p.job) p.world.config (within p.world.config) (state_in p)

abbrev pub of_crashes_in : Player → List Fault
of_crashes_in p = of_crashes (job_as p.job) p.world.config (within p.world.config) (state_in p)

-- no memory; or a limit forbids that the first master starts
abbrev pub CannotBegin : Exploring → SimFault → Type 0
CannotBegin e fault.NoMemory = Unit {0}
CannotBegin e fault.Full = (newest_in e ≡ 0) × (start_first e ≡ None)
CannotBegin e _ = ⊥

-- what may stay of the bytes that master k did not flush: there are `bytes` of them
abbrev pub kept_after : Player → ℕ → ℕ → List ℕ
kept_after p k bytes = kept_in (job_as p.job) p.world.config (within p.world.config) k (state_in p) (told (job_as p.job) p.world.config (within p.world.config) (Crash k bytes) (state_in p))
