-- The store call of an event that is looked at, the journal's limit with it.
use Rattle.std.proofs.Common.{◌≡◌, refl, subst, Bool, true, false, ◌&&◌, Option, Some, None, if◌then◌else◌, is_none}
use Rattle.mr_world_events.specs.declared.why.Why.{Why}
use Rattle.mr_world_model.specs.Effect.{not_now}
use Rattle.mr_world_model.specs.World.{Event}
use Rattle.mr_world_state.specs.declared.asked.Asked.{Asked}
use Rattle.mr_world_state.specs.declared.fault.WorldFault.{WorldFault}
use Rattle.mr_world_state.specs.declared.fault.WorldFault.TheVariants as fault
use Rattle.mr_world_state.specs.Standing.{IsTaken, Refuses}
use Rattle.mr_world.specs.Applying.{CanHappen, IsRefused}
use Rattle.mr_world.specs.Asks.{asked_by, asked_in}
use Rattle.mr_world.specs.Journal.{Journal, world_in, fits, fits_first}

away : (o : Option Why) (b counted : Bool) (why : Why) (x : Option Asked) → Refuses o b counted (fault.NotNow why) → None ≡ (if is_none o && b then x else None)
away (Some y) b counted why x r = refl
away None true counted why x r = cc
away None false counted why x r = refl

pub not-now : (j : Journal) (e : Event) (f : WorldFault) (why : Why) → f ≡ fault.NotNow why → IsRefused j e f → None ≡ asked_in j e
not-now j e f why is r = away (not_now j.config (world_in j) e) (fits j e) (fits_first j e) why (asked_by j.config (world_in j) e) (subst (IsRefused j e) is r)

too-much : (o : Option Why) (b counted : Bool) (x : Option Asked) → Refuses o b counted fault.Full → None ≡ (if is_none o && b then x else None)
too-much (Some y) b counted x r = refl
too-much None true counted x r = cc
too-much None false counted x r = refl

pub no-room : (j : Journal) (e : Event) (f : WorldFault) → f ≡ fault.Full → IsRefused j e f → None ≡ asked_in j e
no-room j e f is r = too-much (not_now j.config (world_in j) e) (fits j e) (fits_first j e) (asked_by j.config (world_in j) e) (subst (IsRefused j e) is r)

-- its limits, that of the journal left out
both : (a b : Bool) → (a && b) ≡ true → b ≡ true
both true b e = e
both false b e = cc

pub takes : (j : Journal) (e : Event) → CanHappen j e → IsTaken j.config (world_in j) e
takes j e can = record { now = can.now; fits = both _ _ can.fits }
