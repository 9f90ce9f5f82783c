-- What the calls of a world promise. Our own: where code and definitions meet.
use Rattle.std.specs.Prelude.{◌≡◌, ℕ, Bool, true, false, ◌&&◌, nat_lt, List, [], ◌∷◌, ◌++◌, Option, Some, None, Result, Ok, Err, length}
use Rattle.mr_world_events.specs.declared.why.Why.{Why}
use Rattle.mr_world_model.specs.Packets.{Config}
use Rattle.mr_world_model.specs.World.{World, Event}
use Rattle.mr_world_model.specs.Effect.{not_now, effect, happens}
use Rattle.mr_world_model.specs.Sending.{sent}
use Rattle.mr_world_state.specs.declared.fault.WorldFault.{WorldFault}
use Rattle.mr_world_state.specs.declared.fault.WorldFault.TheVariants as fault
use Rattle.mr_world.specs.declared.limits.TheConstants.{MAX_EVENTS}
use Rattle.mr_world_state.specs.declared.parts.Parts.{Parts}
use Rattle.mr_world.specs.declared.took.Took.{Took}
use Rattle.mr_world_state.specs.Limits.{within, fits_counted}
use Rattle.mr_world_state.specs.Standing.{Standing, IsTaken, Refuses}
use Rattle.mr_world.specs.Journal.{Journal, world_in, run_of, taken, fits, fits_first}

-- an event is permitted and passes no limit
pub record CanHappen (j : Journal) (e : Event) : Type 0 where
  pub now : not_now j.config (world_in j) e ≡ None
  pub fits : fits j e ≡ true

-- The fault: the first reason why an event is not permitted, or else that it would pass a limit, or else an
-- allocation failure. That may also come while it is found out whether the event would pass a limit that takes memory
-- to find.
abbrev pub IsRefused : Journal → Event → WorldFault → Type 0
IsRefused j e f = Refuses (not_now j.config (world_in j) e) (fits j e) (fits_first j e) f

-- a look at an event: it would be taken, or is refused so
abbrev pub Foretells : {A : Type 0} → Journal → Event → Result A WorldFault → Type 0
Foretells j e (Ok a) = CanHappen j e
Foretells j e (Err f) = IsRefused j e f

-- What a look tells that never wants for memory. It is the first reason why an event is not permitted, or else that
-- it would pass a limit, or else that it would be taken.
abbrev pub foretold : Option Why → Bool → Result (Unit {0}) WorldFault
foretold (Some why) fits = Err (fault.NotNow why)
foretold None false = Err fault.Full
foretold None true = Ok tt

abbrev pub foretold_in : Journal → Event → Result (Unit {0}) WorldFault
foretold_in j e = foretold (not_now j.config (world_in j) e) (fits j e)

-- An event was taken: it could happen, and it is the last of the journal. The world after it is that of the
-- definitions, and the packets that it added are the last of the bag.
pub record Takes (old : Journal) (e : Event) (took : Took) (new : Journal) : Type 0 where
  pub could : CanHappen old e
  pub journal : new ≡ record { config = old.config; events = old.events ++ e ∷ [] }
  pub effect : world_in new ≡ effect old.config (world_in old) e
  pub first : took.first ≡ length (world_in old).bag
  pub count : took.count ≡ length (sent old.config (world_in old) e)

-- an event was taken, or it was refused and nothing has changed
abbrev pub Applies : Journal → Event → Result Took WorldFault → Journal → Type 0
Applies old e (Ok took) new = Takes old e took new
Applies old e (Err f) new = IsRefused old e f × (new ≡ old)

-- each event of a list that was permitted when it came passed no limit
abbrev pub AllFit : Config → World → List Event → Type 0
AllFit cfg w [] = Unit {0}
AllFit cfg w (e ∷ es) = (not_now cfg w e ≡ None → within cfg w e ≡ true) × AllFit cfg (happens cfg (within cfg) w e) es

-- These events were run. Those that were taken are in the journal from then on, and all others were not permitted
-- when they came. The world is that of the journal and these events.
pub record Ran (old : Journal) (es : List Event) (new : Journal) : Type 0 where
  pub journal : new ≡ record { config = old.config; events = old.events ++ taken old.config (world_in old) es }
  pub fits : AllFit old.config (world_in old) es
  pub world : world_in new ≡ run_of old.config (old.events ++ es)

-- this event was run; or it was permitted and refused, and nothing has changed
abbrev pub Passes : {A : Type 0} → Journal → Event → Result A WorldFault → Journal → Type 0
Passes old e (Ok a) new = Ran old (e ∷ []) new
Passes old e (Err f) new = (not_now old.config (world_in old) e ≡ None) × IsRefused old e f × (new ≡ old)

-- Those before this event were run. It was permitted, and refused.
pub record StopsAt (old : Journal) (es : List Event) (f : WorldFault) (new : Journal) : Type 0 where
  pub before : List Event
  pub event : Event
  pub after : List Event
  pub are : es ≡ before ++ event ∷ after
  pub ran : Ran old before new
  pub now : not_now new.config (world_in new) event ≡ None
  pub refused : IsRefused new event f

abbrev pub Runs : {A : Type 0} → Journal → List Event → Result A WorldFault → Journal → Type 0
Runs old es (Ok a) new = Ran old es new
Runs old es (Err f) new = StopsAt old es f new

-- ---- what is said of the parts, where a journal of n events goes with them

abbrev pub RefusesAt : Parts → ℕ → Event → WorldFault → Type 0
RefusesAt p n e f = (w : World) → Standing p w → Refuses (not_now p.config w e) (nat_lt n MAX_EVENTS && within p.config w e) (nat_lt n MAX_EVENTS && fits_counted p.config w e) f

abbrev pub ForetellsAt : {A : Type 0} → Parts → ℕ → Event → Result A WorldFault → Type 0
ForetellsAt p n e (Ok a) = (nat_lt n MAX_EVENTS ≡ true) × ((w : World) → Standing p w → IsTaken p.config w e)
ForetellsAt p n e (Err f) = RefusesAt p n e f

abbrev pub foretold_at : Parts → World → ℕ → Event → Result (Unit {0}) WorldFault
foretold_at p w n e = foretold (not_now p.config w e) (nat_lt n MAX_EVENTS && within p.config w e)

-- the packets that an event added are the last of the bag
pub record Counts (p : Parts) (w : World) (e : Event) (took : Took) : Type 0 where
  pub first : took.first ≡ length w.bag
  pub count : took.count ≡ length (sent p.config w e)
