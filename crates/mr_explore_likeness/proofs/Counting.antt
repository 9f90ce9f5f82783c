-- How many containers were launched, behind one event more: as many more in each world.
use Rattle.std.proofs.Common.{ℕ, zero, suc, ◌+◌, ◌≡◌, refl, ap, arith, Bool, true, false, List, ◌∷◌, nat_eq, slice_get, Option, Some, None, if◌then◌else◌}
use Rattle.mr_ids.specs.declared.id.TheConstants.{MAX_APP_ATTEMPTS}
use Rattle.mr_world_model.specs.Packets.{Config, Packet, Address, Envelope, Master, Container, Node, Store}
use Rattle.mr_world_model.specs.Duties.{Master_step, Came, Launches, Expires, Asks}
use Rattle.mr_world_model.specs.World.{World, Event, Weather, Deliver, Duty, LaunchOn, Master_act, came_act, duty, duty_act, master_act}
use Rattle.mr_world_model.specs.Effect.{effect, with_master_step}
use Rattle.mr_world_state.specs.Limits.{launch_count, launches_in, launches_of}
use Rattle.mr_world_alike.specs.Alike.{IsSame}

-- ---- of one generation

abbrev by-step : Bool → Master_step → ℕ
by-step b (Launches l) = if b then 1 else 0
by-step b (Came p) = 0
by-step b (Expires n) = 0
by-step b (Asks call r) = 0

abbrev by-act : ℕ → Option Master_act → ℕ
by-act j None = 0
by-act j (Some a) = by-step (nat_eq j a.who) a.step

-- by an event
abbrev by-event : ℕ → Event → ℕ
by-event j (LaunchOn k t n) = if nat_eq j k then 1 else 0
by-event j _ = 0

by-duty : (w : World) (j k : ℕ) (f : Weather) (o : Option Store) → by-act j (duty_act w k f o) ≡ 0
by-duty w j k f None = refl
by-duty w j k f (Some call) = refl

by-packet : (j : ℕ) (o : Option Envelope) → by-act j (came_act o) ≡ 0
by-packet j None = refl
by-packet j (Some e) = by e.to e.body
  where
    by : (a : Address) (p : Packet) → by-act j (came_act (Some (record { to = a; body = p }))) ≡ 0
    by (Master k) p = refl
    by (Container c) p = refl
    by (Node n) p = refl

event-is : (cfg : Config) (w : World) (j : ℕ) (e : Event) → by-act j (master_act cfg w e) ≡ by-event j e
unfolding master_act
event-is cfg w j (Duty k f) = by-duty w j k f (duty cfg w k)
event-is cfg w j (Deliver i) = by-packet j (slice_get w.bag i)
event-is cfg w j _ = refl

one-more : (f : ℕ → List Master_step) (j : ℕ) (a : Option Master_act) → launches_in (with_master_step f a j) ≡ launches_in (f j) + by-act j a
one-more f j None = omega arith
one-more f j (Some a) = by (nat_eq j a.who) a.step
  where
    by : (b : Bool) (x : Master_step) → launches_in (if b then x ∷ f j else f j) ≡ launches_in (f j) + by-step b x
    by true (Launches l) = omega arith
    by true (Came p) = omega arith
    by true (Expires n) = omega arith
    by true (Asks call r) = omega arith
    by false (Launches l) = omega arith
    by false (Came p) = omega arith
    by false (Expires n) = omega arith
    by false (Asks call r) = omega arith

-- ---- of the first n

more : ℕ → Event → ℕ
more zero e = 0
more (suc n) e = more n e + by-event (suc n) e

of-all : (cfg : Config) (w : World) (e : Event) (n : ℕ) → launches_of (with_master_step w.master_past (master_act cfg w e)) n ≡ launches_of w.master_past n + more n e
unfolding launches_of more
of-all cfg w e zero = refl
of-all cfg w e (suc n) =
    let rest = of-all cfg w e n in
    let one = one-more w.master_past (suc n) (master_act cfg w e) in
    let is = event-is cfg w (suc n) e in
    omega (arith, rest, one, is)

no-packet : (n i j : ℕ) → more n (Deliver i) ≡ more n (Deliver j)
unfolding more
no-packet zero i j = refl
no-packet (suc n) i j = ap (λ k. k + 0) (no-packet n i j)

same-more : (w u : World) (n : ℕ) (x y : Event) → IsSame w u x y → more n x ≡ more n y
same-more w u n (Deliver i) (Deliver j) s = no-packet n i j
same-more w u n (Deliver i) y s = absurd s
same-more w u n x y s = ap (more n) s

-- how many more there are behind an event
pub launched : Event → ℕ
launched e = more MAX_APP_ATTEMPTS e

pub launched-on : (cfg : Config) (w : World) (e : Event) → launch_count (effect cfg w e) ≡ launch_count w + launched e
unfolding launched
launched-on cfg w e = of-all cfg w e MAX_APP_ATTEMPTS

pub launched-same : (w u : World) (x y : Event) → IsSame w u x y → launched x ≡ launched y
unfolding launched
launched-same w u x y s = same-more w u MAX_APP_ATTEMPTS x y s
