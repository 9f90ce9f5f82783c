-- A cluster whose namespace lacks the fence, or the bars, or both, as that of HDFS lacks both. Each event is permitted as in the cluster, and has the effect
-- that it has there; but a caller whom only the fence or the bars that are lacking would turn away is heard. The job history is the cluster's: a segment is
-- sealed as the next master starts. Our own profile.
use Rattle.std.specs.Prelude.{◌≡◌, ◌≤◌, ℕ, Bool, true, false, ◌&&◌, ◌||◌, not, nat_lt, List, [], ◌∷◌, Option, Some, None, if◌then◌else◌, is_none}
use Rattle.mr_world_model.specs.Ids.{Attempt, ContainerId}
use Rattle.mr_world_model.specs.Content.{Bar}
use Rattle.mr_world_model.specs.Packets.{Config, Caller, Names}
use Rattle.mr_world_model.specs.Pasts.{Place}
use Rattle.mr_world_model.specs.Hearing.{has}
use Rattle.mr_world_model.specs.World.{World, Event, Obeyed, Start, Deliver, Duty, ContainerStep, Expire, call_of, caller_of, duty, has_option, obeyed, opening_world}
use Rattle.mr_world_model.specs.Effect.{barred_after, effect, fence_after, happens, not_now}
use Rattle.mr_world_model.specs.Claims.{Limits}

-- what a namespace has, to turn callers away with
pub record Kind : Type 0 where
  pub fence : Bool  -- against masters that were superseded, and their containers
  pub bars : Bool  -- against attempts that were given up

abbrev pub fenced : Kind
fenced = record { fence = true; bars = true }

abbrev pub no_fence : Kind
no_fence = record { fence = false; bars = true }

abbrev pub no_bars : Kind
no_bars = record { fence = true; bars = false }

abbrev pub bare : Kind
bare = record { fence = false; bars = false }

-- who makes the store call of an event, where it makes one
abbrev pub caller_in : World → Event → Option Caller
caller_in w (Duty k f) = Some (record { app = k; attempt = None })
caller_in w (ContainerStep c f) = Some (caller_of w c)
caller_in w _ = None

-- a caller slips through: what is lacking would turn it away
abbrev pub slips : Kind → World → Caller → Bool
slips kd w c = (not kd.fence && nat_lt c.app w.fence) || (not kd.bars && has_option w.barred c.attempt)

abbrev pub slips_in : Kind → World → Option Caller → Bool
slips_in kd w None = false
slips_in kd w (Some c) = slips kd w c

-- such a caller is answered as if nobody had superseded it, and no attempt were barred
abbrev pub unguarded : Kind → World → Caller → World
unguarded kd w c = record w { fence = if kd.fence then w.fence else c.app; barred = if kd.bars then w.barred else [] }

abbrev pub answered_as : Kind → World → Option Caller → World
answered_as kd w None = w
answered_as kd w (Some c) = if slips kd w c then unguarded kd w c else w

-- The effect of an event that is answered as in u. The newest generation is the cluster's, and a bar is noted, whether or not it turns anybody away.
abbrev pub effect_as : Config → World → Event → World → World
effect_as cfg w e u = record (effect cfg u e) { fence = fence_after w e; barred = barred_after (record u { barred = w.barred }) (call_of cfg u e) }

unfoldable pub weak_effect : Kind → Config → World → Event → World
weak_effect kd cfg w e = effect_as cfg w e (answered_as kd w (caller_in w e))

unfoldable pub weak_happens : Kind → Config → Limits → World → Event → World
weak_happens kd cfg within w e = if is_none (not_now cfg w e) && within w e then weak_effect kd cfg w e else w

unfoldable pub weak_run : Kind → Config → Limits → World → List Event → World
weak_run kd cfg within w [] = w
weak_run kd cfg within w (e ∷ es) = weak_run kd cfg within (weak_happens kd cfg within w e) es

-- the world after a list of events
abbrev pub weak_world_of : Kind → Config → Limits → List Event → World
weak_world_of kd cfg within es = weak_run kd cfg within opening_world es

-- ---- where nothing is missed

-- nobody slips through: in the cluster's own run, no call is made of which what is lacking would turn the caller away
abbrev pub NobodySlips : Kind → Config → Limits → World → List Event → Type 0
NobodySlips kd cfg within w [] = Unit {0}
NobodySlips kd cfg within w (e ∷ es) = (not_now cfg w e ≡ None → within w e ≡ true → slips_in kd w (caller_in w e) ≡ false) × NobodySlips kd cfg within (happens cfg within w e) es

-- A store bears an event. Without a fence it bears one master, and without bars no node that is given up.
abbrev pub is_borne : Kind → Event → Bool
is_borne kd (Start k kept) = kd.fence || not (nat_lt 1 k)
is_borne kd (Expire k n) = kd.bars
is_borne kd _ = true

abbrev pub AreBorne : Kind → List Event → Type 0
AreBorne kd [] = Unit {0}
AreBorne kd (e ∷ es) = (is_borne kd e ≡ true) × AreBorne kd es

-- Who is superseded, or given up, has ended before. Without a fence: as a master starts, none before it lives, nor any container; and no node obeys a launch
-- of an older one later. Without bars: as an attempt is barred, its container does not live; and no node obeys its launch later.
abbrev pub EndsFirst : Kind → Config → World → Event → Type 0
EndsFirst kd cfg w (Start k kept) = kd.fence ≡ false → ((j : ℕ) → w.is_master j ≡ false) × ((c : ContainerId) → w.is_alive c ≡ false)
EndsFirst kd cfg w (Duty k f) = kd.bars ≡ false → (a : Attempt) → duty cfg w k ≡ Some (Names (Bar a)) → (c : ContainerId) (p : Place) → w.place c ≡ Some p → p.attempt ≡ a → w.is_alive c ≡ false
EndsFirst kd cfg w (Deliver i) = (o : Obeyed) → obeyed w (Deliver i) ≡ Some o → (kd.fence ≡ false → w.fence ≤ o.container.app) × (kd.bars ≡ false → has w.barred o.place.attempt ≡ false)
EndsFirst kd cfg w _ = Unit {0}

abbrev pub AllEndFirst : Kind → Config → Limits → World → List Event → Type 0
AllEndFirst kd cfg within w [] = Unit {0}
AllEndFirst kd cfg within w (e ∷ es) = (not_now cfg w e ≡ None → EndsFirst kd cfg w e) × AllEndFirst kd cfg within (happens cfg within w e) es
