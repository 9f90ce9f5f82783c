-- Events that only ask.
use Rattle.std.proofs.Common.{◌≡◌, ℕ, Bool, true, false, List, [], ◌∷◌, ◌++◌, length, Option, Some, None, refl, ap, ◌∙◌}
use Rattle.std.specs.Prelude.{if◌then◌else◌, slice_get, is_none, ◌&&◌}
use Rattle.std.specs.Option.{option_or}
use Rattle.mr_packet.specs.declared.packet.ContainerId.{ContainerId}
use Rattle.mr_packet.specs.declared.packet.Packet.TheVariants as packet
use Rattle.mr_packet.specs.declared.packet.Address.{Address}
use Rattle.mr_packet.specs.declared.packet.Address.TheVariants as address
use Rattle.mr_world_events.specs.declared.event.Event.{Event}
use Rattle.mr_world_events.specs.declared.event.Event.TheVariants as event
use Rattle.mr_container.specs.declared.wish.Wish as container_wish
use Rattle.mr_container.specs.declared.wish.Wish.TheVariants as wish
use Rattle.mr_container.specs.Readings as container
use Rattle.mr_world_model.specs.Ids.{Attempt}
use Rattle.mr_world_model.specs.Content.{Op}
use Rattle.mr_world_model.specs.Packets.{Config, Envelope, Packet}
use Rattle.mr_world_model.specs.Pasts.{Place, Step, as_wish, computed, wish as wish_read, wished_op, wished_packet}
use Rattle.mr_world_model.specs.Hearing.{Launched, Placed, Seen, find_launched, is_running, has}
use Rattle.mr_world_model.specs.Duties.{Came, next_seen}
use Rattle.mr_world_model.specs.World.{World, Deliver, ContainerStep, Container_act, call_of, came_act, container_act, is_over_by, is_stopped, caller_of, master_act, op_at, op_of, op_made, packet_at, packet_of, seen_by, unless_stopped, Weather}
use Rattle.mr_world_model.specs.Sending.{ack_to, answer_to, master_sends, node_replies, node_sends, own_end, ready, replies, said_ended, sent, some_packet}
use Rattle.mr_world_model.specs.Effect.{content_after, effect, happens, history_called, not_now}
use Rattle.mr_world_model.specs.Claims.{Limits}
use Rattle.mr_world_model.specs.Results.{first_told, outcome, told_by}
use Rattle.mr_play.specs.mr_world.specs.Readings.{wish_by}
use Rattle.mr_explore.specs.Vain.{asks_here, is_asked, is_asking, is_waiting, waits, waits_by}

-- what is printed of a world is read off these
pub record LooksLike (w v : World) : Type 0 where
  pub content : v.content ≡ w.content
  pub fence : v.fence ≡ w.fence
  pub history : v.history ≡ w.history
  pub outcome : outcome v ≡ outcome w

-- ---- packets that tell no outcome

told_behind : (xs ys : List Envelope) → first_told ys ≡ None → first_told (xs ++ ys) ≡ first_told xs
told_behind [] ys none = none
told_behind (x ∷ xs) ys none = ap (option_or (told_by x.body)) (told_behind xs ys none)

none_behind : (xs ys : List Envelope) → first_told xs ≡ None → first_told ys ≡ None → first_told (xs ++ ys) ≡ None
none_behind xs ys a b = told_behind xs ys b ∙ a

-- ---- what a master answers

answers_none : (l : Option Launched) (may : Bool) → first_told (answer_to l may) ≡ None
answers_none None may = refl
answers_none (Some l) may = refl

acks_none : (l : Option Launched) (a : Attempt) → first_told (ack_to l a) ≡ None
acks_none None a = refl
acks_none (Some l) a = refl

if_none : (b : Bool) (xs : List Envelope) → first_told xs ≡ None → first_told (if b then xs else []) ≡ None
if_none true xs none = none
if_none false xs none = refl

ready_none : (c : ContainerId) (m : ℕ) (rs : List Attempt) (p : Option Placed) → first_told (ready c m rs p) ≡ None
ready_none c m rs None = refl
ready_none c m rs (Some p) = if_none (has rs p.attempt) _ refl

replies_none : (s t : Seen) (p : Packet) → is_asking p ≡ true → first_told (replies s t p) ≡ None
replies_none s t (packet.Where c m) asks = ready_none c m s.recorded _
replies_none s t (packet.Pending a) asks = answers_none (find_launched s.launched a) _
replies_none s t (packet.Poll a) asks = answers_none (find_launched s.launched a) _
replies_none s t (packet.Done a bytes) asks = if_none _ (ack_to (find_launched s.launched a) a) (acks_none (find_launched s.launched a) a)
replies_none s t (packet.Answer a may) asks = refl
replies_none s t _ asks = cc

-- ---- what a delivery sends

master_none : (cfg : Config) (w : World) (e : Option Envelope) → is_asked e ≡ true → first_told (master_sends cfg w (came_act e)) ≡ None
master_none cfg w None asks = refl
master_none cfg w (Some e) asks = by e.to where
  by : (to : Address) → first_told (master_sends cfg w (came_act (Some (record { to = to; body = e.body })))) ≡ None
  by (address.Master k) =
      let s = seen_by cfg w k in
      let t = next_seen cfg k s (Came e.body) in
      if_none (is_running s.phase) (replies s t e.body) (replies_none s t e.body asks)
  by (address.Container c) = refl
  by (address.Node n) = refl

no_reply : (cfg : Config) (w : World) (n : ℕ) (p : Packet) → is_asking p ≡ true → first_told (node_replies cfg w n p) ≡ None
no_reply cfg w n (packet.Where c m) asks = refl
no_reply cfg w n (packet.Pending a) asks = refl
no_reply cfg w n (packet.Poll a) asks = refl
no_reply cfg w n (packet.Done a bytes) asks = refl
no_reply cfg w n (packet.Answer a may) asks = refl
no_reply cfg w n _ asks = cc

node_none : (cfg : Config) (w : World) (e : Option Envelope) → is_asked e ≡ true → first_told (node_sends cfg w e) ≡ None
node_none cfg w None asks = refl
node_none cfg w (Some e) asks = by e.to where
  by : (to : Address) → first_told (node_sends cfg w (Some (record { to = to; body = e.body }))) ≡ None
  by (address.Master k) = refl
  by (address.Container c) = refl
  by (address.Node n) = no_reply cfg w n e.body asks

ended_none : (b : Bool) (c : ContainerId) → first_told (said_ended b c) ≡ None
ended_none true c = refl
ended_none false c = refl

own_none : (cfg : Config) (w : World) (e : Event) (a : Option Container_act) → first_told (own_end cfg w e a) ≡ None
own_none cfg w e None = refl
own_none cfg w e (Some a) = ended_none (is_over_by cfg w a) a.who

delivery_none : (cfg : Config) (w : World) (i : ℕ) → is_asked (slice_get w.bag i) ≡ true → first_told (sent cfg w (Deliver i)) ≡ None
unfolding sent master_act
delivery_none cfg w i asks =
    none_behind (master_sends cfg w (came_act (slice_get w.bag i))) _ (master_none cfg w (slice_get w.bag i) asks)
    (none_behind (node_sends cfg w (slice_get w.bag i)) _ (node_none cfg w (slice_get w.bag i) asks) (own_none cfg w (Deliver i) (container_act cfg w (Deliver i))))

-- ---- what a step sends

no_op : (k : ℕ) (x : Attempt) (bytes : List ℕ) (p : container.Pieces) (s : container_wish.Wish) → is_waiting s ≡ true → wished_op k x bytes (as_wish p s) ≡ None
unfolding wished_op
no_op k x bytes p (wish.Where m) e = refl
no_op k x bytes p wish.Pending e = refl
no_op k x bytes p wish.Poll e = refl
no_op k x bytes p wish.Report e = refl
no_op k x bytes p _ e = cc

abbrev some_told : Option Envelope → Option Bool
some_told None = None
some_told (Some e) = told_by e.body

no_outcome : (c : ContainerId) (x : Attempt) (bytes : List ℕ) (p : container.Pieces) (s : container_wish.Wish) → is_waiting s ≡ true → some_told (wished_packet c x bytes (as_wish p s)) ≡ None
unfolding wished_packet
no_outcome c x bytes p (wish.Where m) e = refl
no_outcome c x bytes p wish.Pending e = refl
no_outcome c x bytes p wish.Poll e = refl
no_outcome c x bytes p wish.Report e = refl
no_outcome c x bytes p _ e = cc

module _ (cfg : Config) (w : World) (c : ContainerId) where
  of_place : (alive : Bool) (p : Option Place) (h : List Step) → waits_by (if alive then Some (wish_by cfg p h) else None) ≡ true → (op_at cfg c p h ≡ None) × (some_told (packet_at cfg c p h) ≡ None)
  unfolding wish_read
  of_place false p h e = cc
  of_place true None h e = (refl, refl)
  of_place true (Some p) h e =
      let s = container.seen (length cfg.splits) p.attempt h in
      (no_op c.app p.attempt (computed h) s.pieces s.wish e, no_outcome c p.attempt (computed h) s.pieces s.wish e)

  pub of_step : waits cfg w c ≡ true → (op_of cfg w c ≡ None) × (some_told (packet_of cfg w c) ≡ None)
  of_step e = of_place (w.is_alive c) (w.place c) (w.container_past c) e

unless_none : (b : Bool) → unless_stopped b None ≡ None
unless_none true = refl
unless_none false = refl

step_calls_none : (cfg : Config) (w : World) (c : ContainerId) (f : Weather) → op_of cfg w c ≡ None → call_of cfg w (ContainerStep c f) ≡ None
unfolding call_of
step_calls_none cfg w c f none = ap (λ (o : Option Op). unless_stopped (is_stopped w (caller_of w c)) (op_made c.app f o)) none ∙ unless_none (is_stopped w (caller_of w c))

some_none : (o : Option Op) (e : Option Envelope) → some_told e ≡ None → first_told (some_packet o e) ≡ None
some_none (Some op) e none = refl
some_none None None none = refl
some_none None (Some e) none = ap (λ (o : Option Bool). option_or o None) none

step_none : (cfg : Config) (w : World) (c : ContainerId) (f : Weather) → some_told (packet_of cfg w c) ≡ None → first_told (sent cfg w (ContainerStep c f)) ≡ None
unfolding sent
step_none cfg w c f none =
    none_behind (some_packet (op_of cfg w c) (packet_of cfg w c)) _ (some_none (op_of cfg w c) (packet_of cfg w c) none) (own_none cfg w (ContainerStep c f) (container_act cfg w (ContainerStep c f)))

-- ---- what is seen

pub looks : (cfg : Config) (w : World) (e : Event) → asks_here cfg w e ≡ true → LooksLike w (effect cfg w e)
unfolding call_of
looks cfg w (event.Deliver i) asks = record {
  content = refl;
  fence = refl;
  history = refl;
  outcome = told_behind w.bag (sent cfg w (Deliver i)) (delivery_none cfg w i asks);
}
looks cfg w (event.ContainerStep c f) asks =
    let none = of_step cfg w c asks in
    let calls = step_calls_none cfg w c f none.0 in record {
      content = ap (content_after w) calls;
      fence = refl;
      history = ap (history_called w) calls;
      outcome = told_behind w.bag (sent cfg w (ContainerStep c f)) (step_none cfg w c f none.1);
    }
looks cfg w _ asks = cc

pub looks_still : (cfg : Config) (within : Limits) (w : World) (e : Event) → asks_here cfg w e ≡ true → LooksLike w (happens cfg within w e)
unfolding happens
looks_still cfg within w e asks = by (is_none (not_now cfg w e) && within w e) where
  by : (b : Bool) → LooksLike w (if b then effect cfg w e else w)
  by true = looks cfg w e asks
  by false = record { content = refl; fence = refl; history = refl; outcome = refl }
