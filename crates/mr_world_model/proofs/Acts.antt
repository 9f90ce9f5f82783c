-- What each kind of event changes of the machines of containers and nodes.
use Rattle.std.proofs.Common.{ℕ, suc, ◌≡◌, refl, sym, ◌∙◌, ap, subst, Bool, true, false, ◌&&◌, ◌||◌, not, List, [], ◌∷◌, Option, Some, None, if◌then◌else◌, nat_eq, length, append-nil}
use Rattle.std.proofs.lemmas.Bool.{false≢true, eq-eqb, ne_eqb}
use Rattle.mr_container.specs.declared.wish.Wish as container_wish
use Rattle.mr_container.specs.declared.wish.Wish.TheVariants as wished
use Rattle.mr_container.specs.Readings as container_readings
use Rattle.mr_container.specs.State as container
use Rattle.mr_container.specs.Past as container_past
use Rattle.mr_container.specs.Wished as called
use Rattle.mr_node.specs.Readings as readings
use Rattle.mr_node.specs.State as node
use Rattle.mr_node.specs.declared.reaction.Reaction.{Reaction}
use Rattle.mr_node.specs.declared.reaction.Reaction.TheVariants.{Nothing, Starts, Adds}
use Rattle.mr_ids.specs.declared.id.TaskKind.{TaskKind}
use Rattle.mr_ids.specs.declared.id.TaskKind.TheVariants.{Map, Reduce}
use Rattle.mr_container.specs.declared.reply.Reply.{Reply}
use Rattle.mr_world_model.specs.Content.{Op}
use Rattle.mr_world_model.specs.Ids.{Attempt, ContainerId, container_eq, is_reduce}
use Rattle.mr_world_model.specs.Packets.{Config, Packet, Kill, NodeUp, Envelope, Master, Container, Node, Names}
use Rattle.mr_world_model.specs.Pasts.{as_wish, wish_of_seen, Step, Got, Sent, Computed, Called, Node_step, Node_got, Shelved, Restarted, Wish, To_mkdirs, To_create, To_write, To_close, To_need, To_look, To_clear, To_rename, To_abort, wish, wished_op, computed, incarnation_of, Place}
use Rattle.mr_world_model.proofs.Nexts.{next_wish, wish-step}
use Rattle.mr_world_model.specs.World.{World, Weather, Event, Start, Crash, Duty, LaunchOn, Deliver, ContainerStep, Compute, Die, NodeRestart, Expire, container_act, master_act, kills, obeyed, ends, is_over, is_over_by, wish_at, op_at, op_of, packet_of, caller_of, reply_to, reply_under, as_heard}
use Rattle.mr_world_model.specs.Sending.{sent, said_ended, node_replies, to_masters}
use Rattle.mr_world_model.specs.Effect.{effect, with_place, node_past_after, is_obeyed}
use Rattle.mr_world_model.specs.Actors.{ContainerIn, NodeIn, SameContainers, SameNodes, ContainerMoved, Carries, is_of_masters, is_finished}
use Rattle.mr_world_model.specs.Acts.{MastersAct, ContainersAct, Shelves, MapsAct, Went, Dies, Restarts, begins, is_killed, NodeHeard, NodesAct}
use Rattle.mr_world_model.specs.Nodes.{added, started}
use Rattle.mr_world_model.proofs.Nodes.{incarnation-agrees, replies-agree, starts-agree}
use Rattle.mr_world_model.proofs.Basic.{if_cases}
use Rattle.mr_world_model.proofs.Closed.{container_eq-refl}
use Rattle.mr_world_model.proofs.Containers.{wish-agrees, ends-agree}

-- a machine stands on, where its past and its place are as they were
pub stays-in : {cfg : Config} {w : World} {c : ContainerId} {m : container.Container} (u : World) → u.place c ≡ w.place c → u.container_past c ≡ w.container_past c → ContainerIn cfg w c m → ContainerIn cfg u c m
stays-in {cfg} {w} {c} {m} u place past i = record {
  launched = i.launched;
  place = place ∙ i.place;
  stands = subst (λ h. container.StandsFor m c (length cfg.splits) (record { launched = i.launched; steps = h })) (sym past) i.stands;
}

-- and goes on by a step
pub moves-in : {cfg : Config} {w : World} {c : ContainerId} {m new : container.Container} (u : World) (s : Step) → u.place c ≡ w.place c → u.container_past c ≡ s ∷ w.container_past c → container.Stands m s new → ContainerIn cfg w c m → ContainerIn cfg u c new
moves-in {cfg} {w} {c} {m} {new} u s place past by i = record {
  launched = i.launched;
  place = place ∙ i.place;
  stands = subst (λ h. container.StandsFor new c (length cfg.splits) (record { launched = i.launched; steps = h })) (sym past) (by c (length cfg.splits) (record { launched = i.launched; steps = w.container_past c }) i.stands);
}

node-stays : (cfg : Config) (w : World) {n : ℕ} {m : node.Node} (u : World) → u.node_past n ≡ w.node_past n → NodeIn cfg w n m → NodeIn cfg u n m
node-stays cfg w {n} {m} u past i = subst (node.StandsFor m n cfg.reduces) (sym past) i

node-moves : (cfg : Config) (w : World) {n : ℕ} {m new : node.Node} (u : World) (s : Node_step) → u.node_past n ≡ s ∷ w.node_past n → node.Stands m s new → NodeIn cfg w n m → NodeIn cfg u n new
node-moves cfg w {n} {m} {new} u s past by i = subst (node.StandsFor new n cfg.reduces) (sym past) (by n cfg.reduces (w.node_past n) i)

-- whether its wish is over, as its machine says
finished-is : (p : container_readings.Pieces) (v : container_wish.Wish) → is_over (as_wish p v) ≡ is_finished v
finished-is p wished.Over = refl
finished-is p v = refl

over-is : {cfg : Config} {u : World} {c : ContainerId} {m : container.Container} (i : ContainerIn cfg u c m) → is_over (wish (length cfg.splits) i.launched.attempt (u.container_past c)) ≡ is_finished m.seen.wish
over-is {cfg} {u} {c} {m} i =
    ap is_over (wish-agrees (length cfg.splits) i.launched.attempt (u.container_past c) ∙ ap wish_of_seen (sym i.stands.seen)) ∙ finished-is m.seen.pieces m.seen.wish

told-end : {cfg : Config} {u : World} {c : ContainerId} {m : container.Container} (i : ContainerIn cfg u c m) → said_ended (is_over (wish (length cfg.splits) i.launched.attempt (u.container_past c))) c ≡ called.end_of c m.seen.wish
told-end {cfg} {u} {c} {m} i = ends-agree (length cfg.splits) i.launched.attempt (u.container_past c) c ∙ ap (λ (s : container_readings.Seen). called.end_of c s.wish) (sym i.stands.seen)

-- Events of masters

same-containers : (cfg : Config) (w : World) (e : Event) → container_act cfg w e ≡ None → obeyed w e ≡ None → ((c : ContainerId) → ends cfg w e c ≡ false) → SameContainers cfg w (effect cfg w e)
same-containers cfg w e act ob none = record {
  machines = λ c m i. stays-in (effect cfg w e) (rw ob refl) (rw act refl) i;
  living = λ c. rw (ob, none c) (and-true (w.is_alive c));
}
  where
    and-true : (b : Bool) → (b && true) ≡ b
    and-true true = refl
    and-true false = refl

same-nodes : (cfg : Config) (w : World) (e : Event) → ((n : ℕ) → node_past_after w e n ≡ w.node_past n) → SameNodes cfg w (effect cfg w e)
same-nodes cfg w e past n m i = node-stays cfg w (effect cfg w e) (past n) i

master-containers : (cfg : Config) (w : World) (e : Event) → is_of_masters e ≡ true → SameContainers cfg w (effect cfg w e)
unfolding container_act obeyed ends
master-containers cfg w (Start k kept) q = same-containers cfg w (Start k kept) refl refl (λ c. refl)
master-containers cfg w (Crash k kept) q = same-containers cfg w (Crash k kept) refl refl (λ c. refl)
master-containers cfg w (Duty k f) q = same-containers cfg w (Duty k f) refl refl (λ c. refl)
master-containers cfg w (LaunchOn k t n) q = same-containers cfg w (LaunchOn k t n) refl refl (λ c. refl)
master-containers cfg w (Expire k n) q = same-containers cfg w (Expire k n) refl refl (λ c. refl)
master-containers cfg w _ q = absurd (false≢true q)

master-nodes : (cfg : Config) (w : World) (e : Event) → is_of_masters e ≡ true → SameNodes cfg w (effect cfg w e)
unfolding node_past_after
master-nodes cfg w (Start k kept) q = same-nodes cfg w (Start k kept) (λ n. refl)
master-nodes cfg w (Crash k kept) q = same-nodes cfg w (Crash k kept) (λ n. refl)
master-nodes cfg w (Duty k f) q = same-nodes cfg w (Duty k f) (λ n. refl)
master-nodes cfg w (LaunchOn k t n) q = same-nodes cfg w (LaunchOn k t n) (λ n. refl)
master-nodes cfg w (Expire k n) q = same-nodes cfg w (Expire k n) (λ n. refl)
master-nodes cfg w _ q = absurd (false≢true q)

told-containers : (cfg : Config) (w : World) (i k : ℕ) (p : Packet) → Carries w i (record { to = Master k; body = p }) → SameContainers cfg w (effect cfg w (Deliver i))
unfolding container_act obeyed ends
told-containers cfg w i k p q = same-containers cfg w (Deliver i) (rw q refl) (rw q refl) (λ c. rw q refl)

told-nodes : (cfg : Config) (w : World) (i k : ℕ) (p : Packet) → Carries w i (record { to = Master k; body = p }) → SameNodes cfg w (effect cfg w (Deliver i))
unfolding node_past_after
told-nodes cfg w i k p q = same-nodes cfg w (Deliver i) (λ n. rw q refl)

pub masters_act : MastersAct
masters_act = record { containers = master-containers; nodes = master-nodes; containers_told = told-containers; nodes_told = told-nodes }

-- The steps of a container

-- a step of container c that starts nothing
module _ (cfg : Config) (w : World) (e : Event) (c : ContainerId) (s : Step) (m new : container.Container)
    (act : container_act cfg w e ≡ Some (record { who = c; step = s })) (ob : obeyed w e ≡ None) (i : ContainerIn cfg w c m) (by : container.Stands m s new) where
  stepped : (effect cfg w e).container_past c ≡ s ∷ w.container_past c
  stepped = rw (act, container_eq-refl c) refl

  step-now : ContainerIn cfg (effect cfg w e) c new
  step-now = moves-in (effect cfg w e) s (rw ob refl) stepped by i

  step-others : (d : ContainerId) (o : container.Container) → container_eq d c ≡ false → ContainerIn cfg w d o → ContainerIn cfg (effect cfg w e) d o
  step-others d o ne j = stays-in (effect cfg w e) (rw ob refl) (rw (act, ne) refl) j

  -- the wish after it, as the new machine has it
  after-over : is_over_by cfg w (record { who = c; step = s }) ≡ is_finished new.seen.wish
  unfolding step-now moves-in
  after-over = ap (λ p. is_over (wish_at cfg c p (s ∷ w.container_past c))) i.place ∙ subst (λ h. is_over (wish (length cfg.splits) i.launched.attempt h) ≡ is_finished new.seen.wish) stepped (over-is step-now)

  after-end : said_ended (is_over_by cfg w (record { who = c; step = s })) c ≡ called.end_of c new.seen.wish
  unfolding step-now moves-in
  after-end = ap (λ p. said_ended (is_over (wish_at cfg c p (s ∷ w.container_past c))) c) i.place ∙ subst (λ h. said_ended (is_over (wish (length cfg.splits) i.launched.attempt h)) c ≡ called.end_of c new.seen.wish) stepped (told-end step-now)

  step-moved : ((d : ContainerId) → ends cfg w e d ≡ (container_eq d c && is_finished new.seen.wish)) → ContainerMoved cfg w (effect cfg w e) c new
  step-moved end = record {
    now = step-now;
    others = step-others;
    living = λ d. rw (ob, end d) refl;
  }

-- a packet comes
module _ (cfg : Config) (w : World) (i : ℕ) (c : ContainerId) (p : Packet) (m new : container.Container) (q : Carries w i (record { to = Container c; body = p })) (j : ContainerIn cfg w c m) (by : container.Stands m (Got p) new) where
  heard-act : container_act cfg w (Deliver i) ≡ Some (record { who = c; step = Got p })
  unfolding container_act
  heard-act = rw q refl

  heard-obeyed : obeyed w (Deliver i) ≡ None
  unfolding obeyed
  heard-obeyed = rw q refl

  heard-ends : (d : ContainerId) → ends cfg w (Deliver i) d ≡ (container_eq d c && is_finished new.seen.wish)
  unfolding ends
  heard-ends d = rw (q, heard-act) (ap (λ b. container_eq d c && b) (after-over cfg w (Deliver i) c (Got p) m new heard-act heard-obeyed j by))

  heard-nodes : (n : ℕ) → node_past_after w (Deliver i) n ≡ w.node_past n
  unfolding node_past_after
  heard-nodes n = rw q refl

  heard-sends : sent cfg w (Deliver i) ≡ called.end_of c new.seen.wish
  unfolding sent master_act
  heard-sends = rw (q, heard-act) (after-end cfg w (Deliver i) c (Got p) m new heard-act heard-obeyed j by)

  hears : Went cfg w (Deliver i) c new (called.end_of c new.seen.wish)
  hears = record {
    moved = step-moved cfg w (Deliver i) c (Got p) m new heard-act heard-obeyed j by heard-ends;
    nodes = same-nodes cfg w (Deliver i) heard-nodes;
    sends = heard-sends;
  }

-- no answer of a call ends a container
calls-on : (maps k : ℕ) (x : Attempt) (bytes : List ℕ) (v : Wish) (op o : Op) (r : Reply) → wished_op k x bytes v ≡ Some op → is_over (next_wish maps x v (Called o r)) ≡ false
unfolding wished_op next_wish
calls-on maps k x bytes To_mkdirs op o r e = if_cases (λ z. is_over z ≡ false) (container_readings.is_fine r) To_create To_abort (λ t. refl) (λ t. refl)
calls-on maps k x bytes To_create op o r e = if_cases (λ z. is_over z ≡ false) (container_readings.is_fine r) To_write To_abort (λ t. refl) (λ t. refl)
calls-on maps k x bytes To_write op o r e = if_cases (λ z. is_over z ≡ false) (container_readings.is_fine r) To_close To_abort (λ t. refl) (λ t. refl)
calls-on maps k x bytes To_close op o r e = if_cases (λ z. is_over z ≡ false) (container_readings.is_fine r) To_need To_abort (λ t. refl) (λ t. refl)
calls-on maps k x bytes To_need op o r e = if_cases (λ z. is_over z ≡ false) (container_readings.is_found r) _ To_abort (λ t. refl) (λ t. refl)
calls-on maps k x bytes To_look op o r e = if_cases (λ z. is_over z ≡ false) (container_readings.is_found r) To_clear To_abort (λ t. refl) (λ t. refl)
calls-on maps k x bytes To_clear op o r e = if_cases (λ z. is_over z ≡ false) (container_readings.is_cleared r) To_rename To_abort (λ t. refl) (λ t. refl)
calls-on maps k x bytes To_rename op o r e = if_cases (λ z. is_over z ≡ false) (container_readings.is_fine r) _ To_abort (λ t. refl) (λ t. refl)
calls-on maps k x bytes To_abort op o r e = refl
calls-on maps k x bytes v op o r e = cc

-- it makes a call, or sends a packet
module _ (cfg : Config) (w : World) (c : ContainerId) (f : Weather) (s : Step) (m new : container.Container)
    (act : container_act cfg w (ContainerStep c f) ≡ Some (record { who = c; step = s })) (i : ContainerIn cfg w c m) (by : container.Stands m s new) where
  acts-obeyed : obeyed w (ContainerStep c f) ≡ None
  unfolding obeyed
  acts-obeyed = refl

  acts-ends : (d : ContainerId) → ends cfg w (ContainerStep c f) d ≡ (container_eq d c && is_finished new.seen.wish)
  unfolding ends
  acts-ends d = rw act (ap (λ b. container_eq d c && b) (after-over cfg w (ContainerStep c f) c s m new act acts-obeyed i by))

  acts-nodes : (n : ℕ) → node_past_after w (ContainerStep c f) n ≡ w.node_past n
  unfolding node_past_after
  acts-nodes n = refl

  acts-moved : ContainerMoved cfg w (effect cfg w (ContainerStep c f)) c new
  acts-moved = step-moved cfg w (ContainerStep c f) c s m new act acts-obeyed i by acts-ends

  acts-end : said_ended (is_over_by cfg w (record { who = c; step = s })) c ≡ called.end_of c new.seen.wish
  acts-end = after-end cfg w (ContainerStep c f) c s m new act acts-obeyed i by

module _ (cfg : Config) (w : World) (c : ContainerId) (f : Weather) (op : Op) (m new : container.Container) (q : op_of cfg w c ≡ Some op) (i : ContainerIn cfg w c m)
    (by : container.Stands m (Called op (as_heard (reply_under f (reply_to w (caller_of w c) (Names op))))) new) where
  abbrev Call : Step
  Call = Called op (as_heard (reply_under f (reply_to w (caller_of w c) (Names op))))

  call-act : container_act cfg w (ContainerStep c f) ≡ Some (record { who = c; step = Call })
  unfolding container_act
  call-act = rw q refl

  call-on : is_over_by cfg w (record { who = c; step = Call }) ≡ false
  call-on = ap (λ p. is_over (wish_at cfg c p (Call ∷ w.container_past c))) i.place ∙ ap is_over (wish-step (length cfg.splits) i.launched.attempt (w.container_past c) Call)
      ∙ calls-on (length cfg.splits) c.app i.launched.attempt (computed (w.container_past c)) (wish (length cfg.splits) i.launched.attempt (w.container_past c)) op op _ (ap (λ p. op_at cfg c p (w.container_past c)) (sym i.place) ∙ q)

  call-sends : sent cfg w (ContainerStep c f) ≡ []
  unfolding sent
  call-sends = rw (q, call-act, call-on) refl

  calls : Went cfg w (ContainerStep c f) c new []
  calls = record { moved = acts-moved cfg w c f Call m new call-act i by; nodes = same-nodes cfg w (ContainerStep c f) (acts-nodes cfg w c f Call m new call-act i by); sends = call-sends }

module _ (cfg : Config) (w : World) (c : ContainerId) (f : Weather) (e : Envelope) (m new : container.Container) (q : op_of cfg w c ≡ None) (r : packet_of cfg w c ≡ Some e) (i : ContainerIn cfg w c m)
    (by : container.Stands m (Sent e.body) new) where
  send-act : container_act cfg w (ContainerStep c f) ≡ Some (record { who = c; step = Sent e.body })
  unfolding container_act
  send-act = rw (q, r) refl

  send-sends : sent cfg w (ContainerStep c f) ≡ e ∷ called.end_of c new.seen.wish
  unfolding sent
  send-sends = rw (q, r, send-act) (ap (λ es. e ∷ es) (acts-end cfg w c f (Sent e.body) m new send-act i by))

  sends : Went cfg w (ContainerStep c f) c new (e ∷ called.end_of c new.seen.wish)
  sends = record { moved = acts-moved cfg w c f (Sent e.body) m new send-act i by; nodes = same-nodes cfg w (ContainerStep c f) (acts-nodes cfg w c f (Sent e.body) m new send-act i by); sends = send-sends }

module _ (cfg : Config) (w : World) (c : ContainerId) (f : Weather) (q : op_of cfg w c ≡ None) (r : packet_of cfg w c ≡ None) where
  rest-act : container_act cfg w (ContainerStep c f) ≡ None
  unfolding container_act
  rest-act = rw (q, r) refl

  rest-containers : SameContainers cfg w (effect cfg w (ContainerStep c f))
  unfolding obeyed ends
  rest-containers = same-containers cfg w (ContainerStep c f) rest-act refl (λ d. rw rest-act refl)

  rest-nodes : SameNodes cfg w (effect cfg w (ContainerStep c f))
  unfolding node_past_after
  rest-nodes = same-nodes cfg w (ContainerStep c f) (λ n. refl)

  rest-sends : sent cfg w (ContainerStep c f) ≡ []
  unfolding sent
  rest-sends = rw (q, r, rest-act) refl

-- its bytes are handed in
module _ (cfg : Config) (w : World) (c : ContainerId) (bytes : List ℕ) (m new : container.Container) (wishes : container_readings.is_computing m.seen.wish ≡ true) (i : ContainerIn cfg w c m) (by : container.Stands m (Computed bytes) new) where
  bytes-act : container_act cfg w (Compute c bytes) ≡ Some (record { who = c; step = Computed bytes })
  unfolding container_act
  bytes-act = refl

  bytes-obeyed : obeyed w (Compute c bytes) ≡ None
  unfolding obeyed
  bytes-obeyed = refl

  -- the wish goes on
  bytes-on : is_finished new.seen.wish ≡ false
  unfolding container_readings.seen container_readings.next_seen step-now moves-in
  bytes-on =
      let now : new.seen ≡ container_readings.after_bytes i.launched.attempt (container_readings.seen (length cfg.splits) i.launched.attempt (w.container_past c)) bytes =
      (by c (length cfg.splits) (record { launched = i.launched; steps = w.container_past c }) i.stands).seen in
      let from : new.seen ≡ container_readings.after_bytes i.launched.attempt m.seen bytes = now ∙ ap (λ s. container_readings.after_bytes i.launched.attempt s bytes) (sym i.stands.seen) in
      ap (λ (s : container_readings.Seen). is_finished s.wish) from ∙ rw wishes (at i.launched.attempt.task.kind)
    where
      at : (k : TaskKind) → is_finished (container_readings.with_result k m.seen bytes).wish ≡ false
      at Map = refl
      at Reduce = refl

  bytes-ends : (d : ContainerId) → ends cfg w (Compute c bytes) d ≡ (container_eq d c && is_finished new.seen.wish)
  unfolding ends
  bytes-ends d = rw bytes-on (no (container_eq d c))
    where
      no : (b : Bool) → false ≡ (b && false)
      no true = refl
      no false = refl

  bytes-moved : ContainerMoved cfg w (effect cfg w (Compute c bytes)) c new
  bytes-moved = step-moved cfg w (Compute c bytes) c (Computed bytes) m new bytes-act bytes-obeyed i by bytes-ends

  bytes-sends : sent cfg w (Compute c bytes) ≡ []
  unfolding sent
  bytes-sends = refl

  is-at : (P : Place → Type 0) → P m.place → P i.launched
  is-at P o = subst P i.stands.place o

  computes : is_reduce m.place.attempt ≡ true → Went cfg w (Compute c bytes) c new []
  unfolding node_past_after
  computes r = record { moved = bytes-moved; nodes = same-nodes cfg w (Compute c bytes) past; sends = bytes-sends }
    where
      past : (n : ℕ) → node_past_after w (Compute c bytes) n ≡ w.node_past n
      past n = rw (i.place, is-at (λ p. is_reduce p.attempt ≡ true) r) refl

  shelves : (n on : node.Node) → is_reduce m.place.attempt ≡ false → NodeIn cfg w m.place.node n → node.Stands n (Shelved m.place.attempt bytes) on → Shelves cfg w (Compute c bytes) c new m.place.node on
  unfolding node_past_after
  shelves n on r j go = record {
    moved = bytes-moved;
    node = record {
      now = node-moves cfg w (effect cfg w (Compute c bytes)) (Shelved m.place.attempt bytes) here go j;
      others = λ k o ne l. node-stays cfg w (effect cfg w (Compute c bytes)) (there k (ne_eqb k m.place.node ne)) l;
    };
    sends = bytes-sends;
  }
    where
      past : (k : ℕ) → node_past_after w (Compute c bytes) k ≡ (if nat_eq k m.place.node then Shelved m.place.attempt bytes ∷ w.node_past k else w.node_past k)
      past k = rw (i.place, is-at (λ p. is_reduce p.attempt ≡ false) r) (ap (λ (p : Place). if nat_eq k p.node then Shelved p.attempt bytes ∷ w.node_past k else w.node_past k) (sym i.stands.place))

      here : node_past_after w (Compute c bytes) m.place.node ≡ Shelved m.place.attempt bytes ∷ w.node_past m.place.node
      here = past m.place.node ∙ rw (eq-eqb m.place.node m.place.node refl) refl

      there : (k : ℕ) → nat_eq k m.place.node ≡ false → node_past_after w (Compute c bytes) k ≡ w.node_past k
      there k ne = past k ∙ rw ne refl

pub containers_act : ContainersAct
containers_act = record {
  hears = hears;
  calls = calls;
  sends = sends;
  rests = λ cfg w c f q r. (rest-containers cfg w c f q r, rest-nodes cfg w c f q r, rest-sends cfg w c f q r);
  computes = λ cfg w c bytes m new r wishes i by. computes cfg w c bytes m new wishes i by r;
}

pub maps_act : MapsAct
maps_act cfg w c bytes m new n on r wishes i by j go = shelves cfg w c bytes m new wishes i by n on r j go

-- Nodes

and-true : (b : Bool) → (b && true) ≡ b
and-true true = refl
and-true false = refl

-- what a packet kills
kills-is : (w : World) (n : ℕ) (p : Packet) (d : ContainerId) → kills w (Some (record { to = Node n; body = p })) d ≡ is_killed p d
kills-is w n (Kill c) d = refl
kills-is w n p d = refl

-- what a reaction starts
begins-is : (n i : ℕ) (r : Reaction) (d : ContainerId) → is_obeyed (started n i r) d ≡ begins r d
begins-is n i Nothing d = refl
begins-is n i (Starts c a) d = refl
begins-is n i (Adds e) d = refl

started-else : (n i : ℕ) (r : Reaction) (d : ContainerId) (f : ContainerId → Option Place) → begins r d ≡ false → with_place f (started n i r) d ≡ f d
started-else n i Nothing d f e = refl
started-else n i (Starts c a) d f e = rw e refl
started-else n i (Adds v) d f e = refl

module _ (cfg : Config) (w : World) (i n : ℕ) (p : Packet) (m new : node.Node) (q : Carries w i (record { to = Node n; body = p })) (j : NodeIn cfg w n m) (by : node.Stands m (Node_got p) new) where
  abbrev React : Reaction
  React = readings.reaction m.number m.seen p

  -- its own reading, by its past
  reaction-is : readings.reaction n (readings.seen cfg.reduces (w.node_past n)) p ≡ React
  reaction-is = (λ i. readings.reaction (sym j.number i) (sym j.seen i) p)

  node-obeyed : obeyed w (Deliver i) ≡ started n m.seen.incarnation React
  unfolding obeyed
  node-obeyed = rw q (starts-agree cfg w n p ∙ (λ i. started n ((incarnation-agrees cfg.reduces (w.node_past n) ∙ ap (λ (s : readings.Seen). s.incarnation) (sym j.seen)) i) (reaction-is i)))

  node-act : container_act cfg w (Deliver i) ≡ None
  unfolding container_act
  node-act = rw q refl

  node-ends : (d : ContainerId) → ends cfg w (Deliver i) d ≡ is_killed p d
  unfolding ends
  node-ends d = rw (q, node-act) (or-none (kills w (Some (record { to = Node n; body = p })) d) ∙ kills-is w n p d)
    where
      or-none : (b : Bool) → (b || false) ≡ b
      or-none true = refl
      or-none false = refl

  node-here : node_past_after w (Deliver i) n ≡ Node_got p ∷ w.node_past n
  unfolding node_past_after
  node-here = rw (q, eq-eqb n n refl) refl

  node-there : (k : ℕ) → nat_eq k n ≡ false → node_past_after w (Deliver i) k ≡ w.node_past k
  unfolding node_past_after
  node-there k ne = rw (q, ne) refl

  node-sends : sent cfg w (Deliver i) ≡ added React
  unfolding sent master_act
  node-sends = rw (q, node-act) (append-nil (node_replies cfg w n p) ∙ (replies-agree cfg w n p ∙ ap added reaction-is))

  node-started : (c : ContainerId) (a : Attempt) (k : container.Container) → React ≡ Starts c a → w.container_past c ≡ [] →
      container.StandsFor k c (length cfg.splits) (container_past.launched_as (record { attempt = a; node = n; incarnation = m.seen.incarnation })) → ContainerIn cfg (effect cfg w (Deliver i)) c k
  node-started c a k r none st = record {
    launched = record { attempt = a; node = n; incarnation = m.seen.incarnation };
    place = rw (node-obeyed, r, container_eq-refl c) refl;
    stands = subst (λ h. container.StandsFor k c (length cfg.splits) (record { launched = record { attempt = a; node = n; incarnation = m.seen.incarnation }; steps = h })) (sym past) st;
  }
    where
      past : (effect cfg w (Deliver i)).container_past c ≡ []
      past = rw node-act none

  node-heard : NodeHeard cfg w (effect cfg w (Deliver i)) n p m new (sent cfg w (Deliver i))
  node-heard = record {
    node = record {
      now = node-moves cfg w (effect cfg w (Deliver i)) (Node_got p) node-here by j;
      others = λ k o ne l. node-stays cfg w (effect cfg w (Deliver i)) (node-there k (ne_eqb k n ne)) l;
    };
    sends = node-sends;
    started = node-started;
    others = λ d o e l. stays-in (effect cfg w (Deliver i)) (rw node-obeyed (started-else n m.seen.incarnation React d w.place e)) (rw node-act refl) l;
    living = λ d. rw (node-obeyed, node-ends d) (ap (λ b. (b || w.is_alive d) && not (is_killed p d)) (begins-is n m.seen.incarnation React d));
  }

-- a restart
module _ (cfg : Config) (w : World) (n : ℕ) (m new : node.Node) (j : NodeIn cfg w n m) (by : node.Stands m Restarted new) where
  restart-here : node_past_after w (NodeRestart n) n ≡ Restarted ∷ w.node_past n
  unfolding node_past_after
  restart-here = rw (eq-eqb n n refl) refl

  restart-there : (k : ℕ) → nat_eq k n ≡ false → node_past_after w (NodeRestart n) k ≡ w.node_past k
  unfolding node_past_after
  restart-there k ne = rw ne refl

  restart-now : NodeIn cfg (effect cfg w (NodeRestart n)) n new
  restart-now = node-moves cfg w (effect cfg w (NodeRestart n)) Restarted restart-here by j

  restart-incarnation : suc (incarnation_of (w.node_past n)) ≡ new.seen.incarnation
  unfolding incarnation_of
  restart-incarnation = incarnation-agrees cfg.reduces (Restarted ∷ w.node_past n) ∙ ap (λ (s : readings.Seen). s.incarnation) (sym (by n cfg.reduces (w.node_past n) j).seen)

  restarts : Restarts cfg w (effect cfg w (NodeRestart n)) n new (sent cfg w (NodeRestart n))
  unfolding container_act obeyed ends sent
  restarts = record {
    machines = λ c o l. stays-in (effect cfg w (NodeRestart n)) refl refl l;
    living = λ c. refl;
    node = record {
      now = restart-now;
      others = λ k o ne l. node-stays cfg w (effect cfg w (NodeRestart n)) (restart-there k (ne_eqb k n ne)) l;
    };
    sends = ap (λ i. to_masters w.is_master w.fence (NodeUp n i)) restart-incarnation;
  }

dies : (cfg : Config) (w : World) (c : ContainerId) → Dies cfg w (effect cfg w (Die c)) c (sent cfg w (Die c))
unfolding container_act obeyed ends sent node_past_after
dies cfg w c = record {
  machines = λ d m l. stays-in (effect cfg w (Die c)) refl refl l;
  living = λ d. refl;
  nodes = same-nodes cfg w (Die c) (λ n. refl);
  sends = refl;
}

pub nodes_act : NodesAct
nodes_act = record { hears = node-heard; restarts = restarts; dies = dies }
