-- Events that only ask, one after the other.
use Rattle.std.proofs.Common.{◌≡◌, ℕ, Bool, true, false, List, [], ◌∷◌, ◌++◌, length, Option, Some, None, refl, sym, ap, subst, ◌∙◌}
use Rattle.std.specs.Prelude.{if◌then◌else◌, slice_get, ◌||◌, not, zero, suc}
use Rattle.std.specs.List.{list_all}
use Rattle.std.proofs.lemmas.Bool.{and_parts}
use Rattle.mr_packet.specs.declared.packet.ContainerId.{ContainerId}
use Rattle.mr_packet.specs.declared.packet.Packet.TheVariants as packet
use Rattle.mr_packet.specs.declared.packet.Address.{Address}
use Rattle.mr_packet.specs.declared.packet.Address.TheVariants as address
use Rattle.mr_world_events.specs.declared.event.Event.{Event}
use Rattle.mr_world_events.specs.declared.event.Event.TheVariants as event
use Rattle.mr_container.specs.declared.wish.Wish.{Wish}
use Rattle.mr_container.specs.declared.wish.Wish.TheVariants as wish
use Rattle.mr_container.specs.Readings as container
use Rattle.mr_world_model.specs.Ids.{Attempt, container_eq}
use Rattle.mr_world_model.specs.Content.{Op}
use Rattle.mr_world_model.specs.Packets.{Config, Envelope, Packet}
use Rattle.mr_world_model.specs.Pasts.{Called, Computed, Got, Place, Sent, Step}
use Rattle.mr_world_model.specs.World.{World, ContainerStep, Container_act, Deliver, Obeyed, Weather, container_act, ends, got_act, obeyed, obeyed_at, obeys, op_of, packet_of, step_act}
use Rattle.mr_world_model.specs.Sending.{sent}
use Rattle.mr_world_model.specs.Effect.{addressee, effect, happens, is_obeyed, not_now, run, with_container_step, with_place}
use Rattle.mr_world_model.specs.Claims.{Limits}
use Rattle.mr_world_model.proofs.Basic.{Extends, Extends-more, Extends-refl, Extends-trans, along, taken_or_not, unless_parts}
use Rattle.mr_play.specs.mr_world.specs.Readings.{wish_by}
use Rattle.mr_explore.specs.Vain.{asks, asks_here, is_asked, is_asking, is_waiting, waits_by}
use Rattle.mr_explore.proofs.Asking.{LooksLike, looks, of_step}

-- ---- who waits goes on waiting

still_no : (w : Wish) → is_waiting w ≡ true → is_waiting (container.answered false w) ≡ true
still_no (wish.Where m) e = refl
still_no wish.Pending e = refl
still_no wish.Poll e = refl
still_no wish.Report e = refl
still_no _ e = cc

sends_still : (maps : ℕ) (blocks : List (List ℕ)) (w : Wish) → is_waiting w ≡ true → is_waiting (container.wish_sent maps blocks w) ≡ true
sends_still maps blocks (wish.Where m) e = refl
sends_still maps blocks wish.Pending e = refl
sends_still maps blocks wish.Poll e = refl
sends_still maps blocks wish.Report e = refl
sends_still maps blocks _ e = cc

or_same : (b : Bool) (s : container.Seen) → is_waiting s.wish ≡ true → is_waiting (if b then container.with_wish s (container.answered false s.wish) else s).wish ≡ true
or_same true s e = still_no s.wish e
or_same false s e = e

hears_still : (maps : ℕ) (x : Attempt) (s : container.Seen) (p : Packet) → is_asking p ≡ true → is_waiting s.wish ≡ true → is_waiting (container.after_packet maps x s p).wish ≡ true
unfolding container.after_packet
hears_still maps x s (packet.Where c m) asked e = e
hears_still maps x s (packet.Pending a) asked e = e
hears_still maps x s (packet.Poll a) asked e = e
hears_still maps x s (packet.Done a bytes) asked e = e
hears_still maps x s (packet.Answer a true) asked e = cc
hears_still maps x s (packet.Answer a false) asked e = or_same (container.same_attempt x a) s e
hears_still maps x s _ asked e = cc

-- a step that hears such a packet, or sends one
Mild : Step → Type 0
Mild (Got p) = is_asking p ≡ true
Mild (Sent p) = Unit {0}
Mild _ = ⊥

IsMild : Option Container_act → Type 0
IsMild None = Unit {0}
IsMild (Some a) = Mild a.step

module _ (cfg : Config) where
  step_still : (p : Option Place) (h : List Step) (step : Step) → Mild step → is_waiting (wish_by cfg p h) ≡ true → is_waiting (wish_by cfg p (step ∷ h)) ≡ true
  unfolding container.seen container.next_seen Mild
  step_still None h step mild e = e
  step_still (Some p) h (Got q) mild e = hears_still (length cfg.splits) p.attempt (container.seen (length cfg.splits) p.attempt h) q mild e
  step_still (Some p) h (Sent q) mild e = let s = container.seen (length cfg.splits) p.attempt h in sends_still (length cfg.splits) s.pieces.blocks s.wish e
  step_still (Some p) h (Computed bytes) mild e = absurd mild
  step_still (Some p) h (Called op r) mild e = absurd mild

  act_still : (p : Option Place) (f : ContainerId → List Step) (a : Option Container_act) (c : ContainerId) → IsMild a → is_waiting (wish_by cfg p (f c)) ≡ true → is_waiting (wish_by cfg p (with_container_step f a c)) ≡ true
  unfolding IsMild
  act_still p f None c mild e = e
  act_still p f (Some a) c mild e = by (container_eq c a.who) where
    by : (b : Bool) → is_waiting (wish_by cfg p (if b then a.step ∷ f c else f c)) ≡ true
    by true = step_still p (f c) a.step mild e
    by false = e

-- ---- what such an event makes

no_obeys : (w : World) (n : ℕ) (p : Packet) → is_asking p ≡ true → obeys w n p ≡ None
no_obeys w n (packet.Where c m) asked = refl
no_obeys w n (packet.Pending a) asked = refl
no_obeys w n (packet.Poll a) asked = refl
no_obeys w n (packet.Done a bytes) asked = refl
no_obeys w n (packet.Answer a may) asked = refl
no_obeys w n _ asked = cc

no_obeyed_at : (w : World) (e : Option Envelope) → is_asked e ≡ true → obeyed_at w e ≡ None
no_obeyed_at w None asked = refl
no_obeyed_at w (Some e) asked = by e.to where
  by : (to : Address) → obeyed_at w (Some (record { to = to; body = e.body })) ≡ None
  by (address.Master k) = refl
  by (address.Container c) = refl
  by (address.Node n) = no_obeys w n e.body asked

no_obeyed : (cfg : Config) (w : World) (e : Event) → asks_here cfg w e ≡ true → obeyed w e ≡ None
unfolding obeyed
no_obeyed cfg w (event.Deliver i) asked = no_obeyed_at w (slice_get w.bag i) asked
no_obeyed cfg w (event.ContainerStep c f) asked = refl
no_obeyed cfg w _ asked = cc

mild_got : (e : Option Envelope) → is_asked e ≡ true → IsMild (got_act e)
unfolding IsMild Mild
mild_got None asked = tt
mild_got (Some e) asked = by e.to where
  by : (to : Address) → IsMild (got_act (Some (record { to = to; body = e.body })))
  by (address.Master k) = tt
  by (address.Container c) = asked
  by (address.Node n) = tt

mild_step : (w : World) (c : ContainerId) (f : Weather) (o : Option Op) (p : Option Envelope) → o ≡ None → IsMild (step_act w c f o p)
unfolding IsMild Mild
mild_step w c f (Some op) p none = cc
mild_step w c f None (Some e) none = tt
mild_step w c f None None none = tt

mild_act : (cfg : Config) (w : World) (e : Event) → asks_here cfg w e ≡ true → IsMild (container_act cfg w e)
unfolding container_act
mild_act cfg w (event.Deliver i) asked = mild_got (slice_get w.bag i) asked
mild_act cfg w (event.ContainerStep c f) asked = mild_step w c f (op_of cfg w c) (packet_of cfg w c) (of_step cfg w c asked).0
mild_act cfg w _ asked = cc

-- ---- all who live wait

abbrev pub AllWait : Config → World → Type 0
AllWait cfg w = (c : ContainerId) → w.is_alive c ≡ true → is_waiting (wish_by cfg (w.place c) (w.container_past c)) ≡ true

all_wait_on : (cfg : Config) (w : World) (e : Event) → AllWait cfg w → asks_here cfg w e ≡ true → AllWait cfg (effect cfg w e)
all_wait_on cfg w e all asked c alive =
    let none = no_obeyed cfg w e asked in
    let lives : (is_obeyed (obeyed w e) c || w.is_alive c) ≡ true = (and_parts (is_obeyed (obeyed w e) c || w.is_alive c) (not (ends cfg w e c)) alive).0 in
    let before : w.is_alive c ≡ true = subst (λ (o : Option Obeyed). (is_obeyed o c || w.is_alive c) ≡ true) none lives in
    subst (λ (o : Option Obeyed). is_waiting (wish_by cfg (with_place w.place o c) (with_container_step w.container_past (container_act cfg w e) c)) ≡ true) (sym none)
    (act_still cfg (w.place c) w.container_past (container_act cfg w e) c (mild_act cfg w e asked) (all c before))

-- ---- events that are looked at behind their last one

still_there : (xs ys : List Envelope) (i : ℕ) (x : Envelope) → slice_get xs i ≡ Some x → slice_get (xs ++ ys) i ≡ Some x
still_there [] ys i x e = cc
still_there (y ∷ xs) ys zero x e = e
still_there (y ∷ xs) ys (suc i) x e = still_there xs ys i x e

in_bag : (w : World) (rest : List Envelope) (i : ℕ) (o : Option Envelope) → slice_get w.bag i ≡ o → addressee w o ≡ None → is_asked (slice_get (w.bag ++ rest) i) ≡ true → is_asked o ≡ true
in_bag w rest i None at there asked = cc
in_bag w rest i (Some x) at there asked = ap is_asked (sym (still_there w.bag rest i x at)) ∙ asked

asks_now : (cfg : Config) (w : World) (rest : List Envelope) (e : Event) → AllWait cfg w → not_now cfg w e ≡ None → asks (w.bag ++ rest) e ≡ true → asks_here cfg w e ≡ true
unfolding not_now
asks_now cfg w rest (event.Deliver i) all now asked = in_bag w rest i (slice_get w.bag i) refl now asked
asks_now cfg w rest (event.ContainerStep c f) all now asked =
    let alive = (unless_parts (w.is_alive c) _ _ now).0 in
    ap (λ b. waits_by (if b then Some (wish_by cfg (w.place c) (w.container_past c)) else None)) alive ∙ all c alive
asks_now cfg w rest _ all now asked = cc

bag_grows : (cfg : Config) (within : Limits) (w : World) (es : List Event) → Extends w.bag (run cfg within w es).bag
bag_grows cfg within w es = along (λ u. Extends w.bag u.bag) cfg within (λ u e p now. Extends-trans p (Extends-more u.bag (sent cfg u e))) w es (Extends-refl w.bag)

looks_on : (w v u : World) → LooksLike w v → LooksLike v u → LooksLike w u
looks_on w v u a b = record { content = b.content ∙ a.content; fence = b.fence ∙ a.fence; history = b.history ∙ a.history; outcome = b.outcome ∙ a.outcome }

pub looks_along : (cfg : Config) (within : Limits) (w : World) (bag : List Envelope) (es fs : List Event) → AllWait cfg w → (run cfg within w (es ++ fs)).bag ≡ bag → list_all (asks bag) (es ++ fs) ≡ true → LooksLike w (run cfg within w es)
unfolding run
looks_along cfg within w bag [] fs all is asked = record { content = refl; fence = refl; history = refl; outcome = refl }
looks_along cfg within w bag (e ∷ es) fs all is asked =
    let v = happens cfg within w e in
    let parts = and_parts (asks bag e) (list_all (asks bag) (es ++ fs)) asked in
    let grows = bag_grows cfg within w (e ∷ (es ++ fs)) in
    let last : w.bag ++ grows.rest ≡ bag = grows.is ∙ is in
    let one = taken_or_not (λ u. LooksLike w u × AllWait cfg u) cfg within w e (record { content = refl; fence = refl; history = refl; outcome = refl }, all)
    (λ now. let here = asks_now cfg w grows.rest e all now (ap (λ (b : List Envelope). asks b e) last ∙ parts.0) in (looks cfg w e here, all_wait_on cfg w e all here)) in
    looks_on w v (run cfg within v es) one.0 (looks_along cfg within v bag es fs one.1 is parts.1)
