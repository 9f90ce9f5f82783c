-- The store call of a container's next step: when it is permitted, and what is done.
use Rattle.std.specs.Prelude.{◌≡◌, Bool, true, false, ◌||◌, not, Option, Some, None, is_some, Result, Ok, Err}
use Rattle.mr_container.specs.declared.wish.Wish.{Wish}
use Rattle.mr_container.specs.declared.wish.Wish.TheVariants as wish
use Rattle.mr_container.specs.Readings.{is_computing}
use Rattle.mr_container.specs.Past.{Calls}
use Rattle.mr_world_events.specs.declared.why.Why.{Why}
use Rattle.mr_world_model.specs.Ids.{ContainerId}
use Rattle.mr_world_model.specs.World.{World, Weather, ContainerStep, op_of, caller_of}
use Rattle.mr_world_model.specs.Effect.{not_now, unless, is_calm, WrongWish, NoStoreCall}
use Rattle.mr_world_model.specs.Stored.{left_in, heard_in}
use Rattle.mr_world_actors.specs.Living.{kept, Changes, stepped}
use Rattle.mr_world_stores.specs.declared.container.ContainerCall.{ContainerCall}
-- whether a call is made; its answer, and what is left
pub use Rattle.mr_world_stores.specs.Calls.{is_made, answer_of}
use Rattle.mr_world_state.specs.declared.fault.WorldFault.{WorldFault}
use Rattle.mr_world_state.specs.declared.fault.WorldFault.TheVariants as fault
use Rattle.mr_world_state.specs.declared.parts.Parts.{Parts}
use Rattle.mr_world_state.specs.Standing.{Standing, IsTaken, RefusesEvent}

-- the wishes that are store calls
abbrev pub is_call : Wish → Bool
is_call wish.Mkdirs = true
is_call wish.Create = true
is_call wish.Write = true
is_call wish.Close = true
is_call wish.Needs = true
is_call wish.Look = true
is_call wish.Clear = true
is_call wish.Rename = true
is_call wish.Abort = true
is_call _ = false

-- why a container with this wish takes no step in this weather
abbrev pub step_fault : Wish → Weather → Option Why
step_fault v f = unless (not (is_computing v)) WrongWish (unless (is_calm f || is_call v) NoStoreCall None)

-- what is answered to whoever is refused for this reason, if there is one
abbrev pub permitted : Option Why → Result (Unit {0}) WorldFault
permitted None = Ok tt
permitted (Some why) = Err (fault.NotNow why)

-- A look at a container's step. It is its store call, with which the step would be taken, or none, where the step is
-- permitted and is no store call. Or it is refused so.
abbrev pub ForeseesCall : Parts → ContainerId → Weather → Result (Option ContainerCall) WorldFault → Type 0
ForeseesCall p c f (Ok (Some call)) = (w : World) → Standing p w → IsTaken p.config w (ContainerStep c f) × (op_of p.config w c ≡ Some call.op) × (caller_of w c ≡ call.caller)
ForeseesCall p c f (Ok None) = (w : World) → Standing p w → (not_now p.config w (ContainerStep c f) ≡ None) × (op_of p.config w c ≡ None)
ForeseesCall p c f (Err e) = (w : World) → Standing p w → RefusesEvent p.config w (ContainerStep c f) e

-- the container made the call, and heard of its answer
pub record HasCalled (old : Parts) (c : ContainerId) (f : Weather) (call : ContainerCall) (new : Parts) : Type 0 where
  pub names : new.names ≡ left_in f old.names (answer_of old.names call).1
  pub living : Changes old.living c (stepped old.living c (Calls call.op (heard_in f (answer_of old.names call).0))) new.living
  pub rest : new ≡ record old { names = new.names; living = new.living }

-- the container's next step is permitted, and is no store call
pub record IsAlone (p : Parts) (c : ContainerId) (f : Weather) : Type 0 where
  pub lives : is_some (kept p.living c) ≡ true
  pub now : (w : World) → Standing p w → not_now p.config w (ContainerStep c f) ≡ None
  pub no_call : (w : World) → Standing p w → op_of p.config w c ≡ None
