-- A packet to a node goes to one of the cluster's: what is launched lies there, so does what stands of maps, and a fetch asks where a master said that the output lies.
use Rattle.std.proofs.Common.{ℕ, zero, suc, ◌<◌, ◌≡◌, refl, sym, subst, Bool, true, false, ◌&&◌, ◌||◌, not, List, [], ◌∷◌, ◌++◌, Option, Some, None, nat_eq, nat_le, ◌⊎◌, inl, inr, arith, slice_get, length}
use Rattle.std.proofs.lemmas.Bool.{lt-ltb}
use Rattle.mr_world_model.specs.Ids.{Attempt, ContainerId, TaskId, is_reduce}
use Rattle.mr_world_model.specs.Content.{Op, bar_of}
use Rattle.mr_world_model.specs.Records.{Record, AttemptStarted, MapSucceeded, ReduceSucceeded, AttemptFailed, JobUnsuccessful}
use Rattle.mr_world_model.specs.Packets.{Config, Packet, Envelope, Address, Master, Container, Node, Store, Reply, Names, Append_record, Flush, Fine, Won, Outcome, NodeUp, Launch, Kill, Fetch, MapReady}
use Rattle.mr_world_model.specs.Pasts.{Got, Sent, Computed, Called, Place, Wish, wish, wished_op, wished_packet, computed, is_known, incarnation_of, To_ask_where, To_fetch, To_say_lost}
use Rattle.mr_world_model.specs.Hearing.{Seen, Phase, Recovering, Move_from, Finished, Launched, Placed, is_running, has, find_launched, find_container, may_accept, stands}
use Rattle.mr_world_model.specs.Duties.{Master_step, Came, Launches, Expires, Asks, seen, next_seen, told, worked, with_read, is_fine, is_read, phase_told, records_of, newest_maps, without_task, success_of, rest_of}
use Rattle.mr_world_model.specs.World.{World, Event, Start, Crash, Duty, LaunchOn, Deliver, ContainerStep, Compute, Die, NodeRestart, Expire, Master_act, Container_act, master_act, container_act, duty_act, got_act, step_act, duty, seen_by, launch_of, opening_world, reply_of, own_reply, names_answer, unless_refused, reply_under, Weather, Calm, Unavailable, Unanswered, op_of, packet_of, op_at, packet_at}
use Rattle.mr_world_model.specs.Effect.{effect, not_now}
use Rattle.mr_world_model.specs.Sending.{sent, master_sends, step_sends, won_by_recovery, flush_sends, flush_each, wins, bar_sends, bar_kill, kill_to, outcome_of, to_node, to_all, to_masters, kills_of, replies, answer_to, ack_to, ready, is_failing, if_ours, node_sends, node_replies, piece_of, own_end, said_ended, some_packet}
use Rattle.mr_world_model.specs.Claims.{In, Limits, world_of}
use Rattle.mr_world_model.specs.Addressed.{PacketsFindTheirNodes}
use Rattle.mr_world_model.proofs.Basic.{if_cases, along}
use Rattle.mr_world_model.proofs.Lists.{Each, Each-append, Each-In}
use Rattle.mr_world_model.proofs.Allowed.{seen_after}
use Rattle.mr_world_model.proofs.Told.{came_act-is, Stores, StoredOrDue, stores_after}
use Rattle.mr_world_model.proofs.Told_yes.{past_after}
use Rattle.mr_world_model.proofs.Cluster.{PacketFits, EnvelopeFits, slice_get-In}
use Rattle.mr_world_model.proofs.Nexts.{wish-first, wish-step}
use Rattle.mr_world_model.proofs.Reports.{place_was, steps-ok}
use Rattle.mr_world_model.proofs.Ranges.{Says, NamesOne, LaunchIn, always-placed}
use Rattle.mr_world_model.proofs.Ranges as ranges
use Rattle.mr_world_model.proofs.Made.{appends-due}
use Rattle.mr_world_model.proofs.Lying.{Below, TellsIn, Here, Launched-below, ReadIn, FetchesIn, GotIn, next-here, reply-in, named-in, written-in, wish-next, asks-in, stands-in}

module _ (cfg : Config) where
  abbrev H : Seen → Type 0
  H s = Here cfg s

  -- ---- packets

  -- to whom a packet goes; Launch and Kill are told by the launch, so they are left here
  abbrev FindsAt : Address → Packet → Type 0
  FindsAt (Node n) (Launch c a i) = Unit {0}
  FindsAt (Node n) (Kill c) = Unit {0}
  FindsAt (Node n) p = n < cfg.nodes
  FindsAt (Container c) (MapReady m a n i) = n < cfg.nodes
  FindsAt x p = Unit {0}

  abbrev P : Envelope → Type 0
  P v = FindsAt v.to v.body

  kills-find : (ls : List Launched) → Each P (kills_of ls)
  kills-find [] = tt
  kills-find (l ∷ ls) = (tt, kills-find ls)

  all-find : (m : ℕ) (p : Packet) → ((n : ℕ) → n < m → P (to_node n p)) → Each P (to_all m p)
  unfolding to_all
  all-find zero p f = tt
  all-find (suc m) p f = Each-append P (to_all m p) _ (all-find m p (λ n l. f n (omega (arith, l)))) (f m (omega arith), tt)

  won-find : (t : TaskId) (a : Attempt) → Each P (to_all cfg.nodes (Won t a))
  won-find t a = all-find cfg.nodes (Won t a) (λ n l. l)

  stands-below : (ps : List Placed) (m : ℕ) → Each (Below cfg) ps → (c : ContainerId) (rs : List Attempt) (l : Option Launched) → Each P (ready c m rs (if_ours l (stands ps m)))
  stands-below ps m b c rs None = by (stands ps m)
    where
      by : (o : Option Placed) → Each P (ready c m rs (if_ours None o))
      by o = tt
  stands-below ps m b c rs (Some l) = by (stands ps m) refl
    where
      by : (o : Option Placed) → stands ps m ≡ o → Each P (ready c m rs o)
      by None e = tt
      by (Some p) e = if_cases (Each P) (has rs p.attempt) _ _ (λ t. (Each-In (Below cfg) ps b p (stands-in cfg ps m p e), tt)) (λ t. tt)

  answer-find : (l : Option Launched) (b : Bool) → Each P (answer_to l b)
  answer-find None b = tt
  answer-find (Some l) b = (tt, tt)

  ack-find : (l : Option Launched) (a : Attempt) → Each P (ack_to l a)
  ack-find None a = tt
  ack-find (Some l) a = (tt, tt)

  replies-find : (s s' : Seen) (p : Packet) → H s → Each P (replies s s' p)
  replies-find s s' (Packet.Pending a) o = answer-find _ _
  replies-find s s' (Packet.Poll a) o = answer-find _ _
  replies-find s s' (Packet.Done a z) o = if_cases (Each P) (may_accept s a || has s.accepted a) _ _ (λ t. ack-find _ a) (λ t. tt)
  replies-find s s' (Packet.Failed a) o = if_cases (Each P) (is_failing s'.phase) _ _ (λ t. kills-find _) (λ t. tt)
  replies-find s s' (Packet.Ended c) o = if_cases (Each P) (is_failing s'.phase) _ _ (λ t. kills-find _) (λ t. tt)
  replies-find s s' (Packet.Where c m) o = stands-below s.standing m o.stand c s.recorded (find_container s.launched c)
  replies-find s s' _ o = tt

  outcome-find : (p q : Phase) → Each P (outcome_of cfg.nodes p q)
  outcome-find (Finished b) q = tt
  outcome-find (Phase.Opening i) (Finished b) = all-find cfg.nodes (Outcome b) (λ n l. l)
  outcome-find Phase.Setting_up (Finished b) = all-find cfg.nodes (Outcome b) (λ n l. l)
  outcome-find (Recovering ws at) (Finished b) = all-find cfg.nodes (Outcome b) (λ n l. l)
  outcome-find Phase.Running (Finished b) = all-find cfg.nodes (Outcome b) (λ n l. l)
  outcome-find (Phase.Committing at) (Finished b) = all-find cfg.nodes (Outcome b) (λ n l. l)
  outcome-find (Phase.Failing g) (Finished b) = all-find cfg.nodes (Outcome b) (λ n l. l)
  outcome-find Phase.Stopped (Finished b) = all-find cfg.nodes (Outcome b) (λ n l. l)
  outcome-find p _ = tt

  recovery-find : (p : Phase) (r : Reply) → Each P (won_by_recovery cfg.nodes p r)
  recovery-find (Recovering (x ∷ todo) (Move_from j)) Fine = won-find x.task x.attempt
  recovery-find p r = tt

  wins-find : (rs : List Record) → Each P (wins cfg.nodes rs)
  wins-find [] = tt
  wins-find (ReduceSucceeded a z ∷ rs) = Each-append P (to_all cfg.nodes (Won a.task a)) _ (won-find a.task a) (wins-find rs)
  wins-find (AttemptStarted a m ∷ rs) = wins-find rs
  wins-find (MapSucceeded a m i ∷ rs) = wins-find rs
  wins-find (AttemptFailed a ∷ rs) = wins-find rs
  wins-find (JobUnsuccessful ∷ rs) = wins-find rs

  records-find : (s : Seen) (rs : List Record) → Each P (flush_each cfg.nodes s rs)
  records-find s [] = tt
  records-find s (r ∷ rs) = Each-append P (wins cfg.nodes (r ∷ []) ++ kills_of (Rattle.mr_world_model.specs.Duties.all_rivals s (success_of r))) _
      (Each-append P (wins cfg.nodes (r ∷ [])) _ (wins-find (r ∷ [])) (kills-find _)) (records-find s rs)

  flush-find : (s : Seen) (call : Store) (r : Reply) → Each P (flush_sends cfg.nodes s call r)
  flush-find s Flush Fine = records-find s s.tail
  flush-find s call r = tt

  bar-find : (s : Seen) (call : Store) (r : Reply) → Each P (bar_sends s call r)
  bar-find s (Names op) Fine = by (bar_of op)
    where
      to : (l : Option Launched) → Each P (kill_to l)
      to None = tt
      to (Some l) = (tt, tt)

      by : (m : Option Attempt) → Each P (bar_kill s m)
      by None = tt
      by (Some a) = to (find_launched s.launched a)
  bar-find s call r = tt

  step-find : (s s' : Seen) (x : Master_step) → H s → Each P (step_sends cfg s s' x)
  step-find s s' (Came p) o = if_cases (Each P) (is_running s.phase) _ _ (λ t. replies-find s s' p o) (λ t. tt)
  step-find s s' (Launches l) o = (tt, tt)
  step-find s s' (Expires n) o = kills-find _
  step-find s s' (Asks call r) o = Each-append P (won_by_recovery cfg.nodes s.phase r) _ (recovery-find s.phase r)
      (Each-append P (flush_sends cfg.nodes s call r) _ (flush-find s call r) (Each-append P (bar_sends s call r) _ (bar-find s call r) (outcome-find s.phase s'.phase)))

  master-find : (w : World) (o : Option Master_act) → ((k : ℕ) → H (seen_by cfg w k)) → Each P (master_sends cfg w o)
  master-find w None f = tt
  master-find w (Some a) f = step-find (seen_by cfg w a.who) (next_seen cfg a.who (seen_by cfg w a.who) a.step) a.step (f a.who)

  piece-find : (c : ContainerId) (a : Attempt) (r o : ℕ) (b : Option (List ℕ)) → Each P (piece_of c a r o b)
  piece-find c a r o None = (tt, tt)
  piece-find c a r o (Some block) = if_cases (Each P) (nat_le o (length block)) _ _ (λ t. (tt, tt)) (λ t. (tt, tt))

  node-find : (w : World) (n : ℕ) (p : Packet) → Each P (node_replies cfg w n p)
  node-find w n (Launch c a i) = if_cases (Each P) (not (is_known (w.node_past n) c) && not (nat_eq i (incarnation_of (w.node_past n)))) _ _ (λ t. (tt, tt)) (λ t. tt)
  node-find w n (Kill c) = (tt, tt)
  node-find w n (Fetch c a r i o) = if_cases (Each P) (nat_eq i (incarnation_of (w.node_past n))) _ _ (λ t. piece-find c a r o _) (λ t. (tt, tt))
  node-find w n _ = tt

  nodes-find : (w : World) (o : Option Envelope) → Each P (node_sends cfg w o)
  nodes-find w None = tt
  nodes-find w (Some e) = to e.to e.body
    where
      to : (a : Address) (p : Packet) → Each P (node_sends cfg w (Some (record { to = a; body = p })))
      to (Master k) p = tt
      to (Container c) p = tt
      to (Node n) p = node-find w n p

  own-find : (w : World) (e : Event) (o : Option Container_act) → Each P (own_end cfg w e o)
  own-find w e None = tt
  own-find w e (Some a) = by (Rattle.mr_world_model.specs.World.is_over_by cfg w a)
    where
      by : (b : Bool) → Each P (said_ended b a.who)
      by true = (tt, tt)
      by false = tt

  masters-find : (f : ℕ → Bool) (k n i : ℕ) → Each P (to_masters f k (NodeUp n i))
  unfolding to_masters
  masters-find f zero n i = tt
  masters-find f (suc k) n i = Each-append P (to_masters f k (NodeUp n i)) _ (masters-find f k n i) (if_cases (Each P) (f (suc k)) _ _ (λ t. (tt, tt)) (λ t. tt))

  -- what a container fetches, it fetches there
  abbrev Fetching : World → Type 0
  Fetching w = (c : ContainerId) (p : Place) → w.place c ≡ Some p → FetchesIn cfg (wish (length cfg.splits) p.attempt (w.container_past c))

  wished-find : (w : World) (c : ContainerId) → Fetching w → Each P (some_packet (op_of cfg w c) (packet_of cfg w c))
  unfolding wished_op wished_packet
  wished-find w c f = by (w.place c) refl
    where
      wishes : (p : Place) (v : Wish) → FetchesIn cfg v → Each P (some_packet (wished_op c.app p.attempt (computed (w.container_past c)) v) (wished_packet c p.attempt (computed (w.container_past c)) v))
      wishes p Wish.To_report o = (tt, tt)
      wishes p Wish.To_fail o = (tt, tt)
      wishes p (To_ask_where m) o = (tt, tt)
      wishes p (To_fetch m b n i got) o = (o, tt)
      wishes p (To_say_lost m b) o = (tt, tt)
      wishes p Wish.To_pend o = (tt, tt)
      wishes p Wish.To_poll o = (tt, tt)
      wishes p _ o = tt

      by : (o : Option Place) → w.place c ≡ o → Each P (some_packet (op_at cfg c o (w.container_past c)) (packet_at cfg c o (w.container_past c)))
      by None q = tt
      by (Some p) q = wishes p _ (f c p q)

  sent-find : (w : World) (e : Event) → ((k : ℕ) → H (seen_by cfg w k)) → Fetching w → Each P (sent cfg w e)
  unfolding sent
  sent-find w (Start k kept) f g = tt
  sent-find w (Crash k kept) f g = tt
  sent-find w (Duty k x) f g = master-find w (master_act cfg w (Duty k x)) f
  sent-find w (LaunchOn k t m) f g = master-find w (master_act cfg w (LaunchOn k t m)) f
  sent-find w (Expire k m) f g = master-find w (master_act cfg w (Expire k m)) f
  sent-find w (Deliver i) f g = Each-append P (master_sends cfg w (master_act cfg w (Deliver i))) _ (master-find w (master_act cfg w (Deliver i)) f)
      (Each-append P (node_sends cfg w (slice_get w.bag i)) _ (nodes-find w _) (own-find w (Deliver i) _))
  sent-find w (ContainerStep c x) f g = Each-append P (some_packet (op_of cfg w c) (packet_of cfg w c)) _ (wished-find w c g) (own-find w (ContainerStep c x) _)
  sent-find w (Compute c b) f g = tt
  sent-find w (Die c) f g = (tt, tt)
  sent-find w (NodeRestart m) f g = masters-find w.is_master w.fence m _

  -- ---- over every list

  -- what comes to a container was in the bag
  got-in : (bag : List Envelope) (i : ℕ) (a : Container_act) → Each P bag → got_act (slice_get bag i) ≡ Some a → GotIn cfg a.step
  got-in bag i a o e = at (slice_get bag i) refl e
    where
      said : (c : ContainerId) (p : Packet) → FindsAt (Container c) p → GotIn cfg (Got p)
      said c (MapReady m b n j) f = f
      said c p f = tt

      to : (x : Address) (p : Packet) → FindsAt x p → got_act (Some (record { to = x; body = p })) ≡ Some a → GotIn cfg a.step
      to (Container c) p f e = let x : record { who = c; step = Got p } ≡ a = cc in subst (λ (y : Container_act). GotIn cfg y.step) x (said c p f)
      to (Master k) p f e = cc
      to (Node n) p f e = cc

      at : (b : Option Envelope) → slice_get bag i ≡ b → got_act b ≡ Some a → GotIn cfg a.step
      at None q e = cc
      at (Some v) q e = to v.to v.body (Each-In P bag o v (slice_get-In bag i v q)) e

  act-in : (w : World) (e : Event) (a : Container_act) → Each P w.bag → container_act cfg w e ≡ Some a → GotIn cfg a.step
  unfolding container_act
  act-in w (Deliver i) a o q = got-in w.bag i a o q
  act-in w (ContainerStep c f) a o q = by (op_of cfg w c) (packet_of cfg w c) q
    where
      by : (x : Option Op) (v : Option Envelope) → step_act w c f x v ≡ Some a → GotIn cfg a.step
      by (Some op) v q = let x : record { who = c; step = Called op (Rattle.mr_world_model.specs.World.as_heard (reply_under f (Rattle.mr_world_model.specs.World.reply_to w (Rattle.mr_world_model.specs.World.caller_of w c) (Names op)))) } ≡ a = cc in subst (λ (y : Container_act). GotIn cfg y.step) x tt
      by None (Some v) q = let x : record { who = c; step = Sent v.body } ≡ a = cc in subst (λ (y : Container_act). GotIn cfg y.step) x tt
      by None None q = cc
  act-in w (Compute c bytes) a o q = let x : record { who = c; step = Computed bytes } ≡ a = cc in subst (λ (y : Container_act). GotIn cfg y.step) x tt
  act-in w (Start k kept) a o q = cc
  act-in w (Crash k kept) a o q = cc
  act-in w (Duty k f) a o q = cc
  act-in w (LaunchOn k t m) a o q = cc
  act-in w (Die c) a o q = cc
  act-in w (NodeRestart m) a o q = cc
  act-in w (Expire k m) a o q = cc

  pub record Lands (w : World) : Type 0 where
    pub places : ranges.Placed cfg w
    pub here : (k : ℕ) → H (seen_by cfg w k)
    pub stored : (j : ℕ) (x : Record) → Stores (w.history j) x → TellsIn cfg x
    pub fetching : Fetching w
    pub bag : Each P w.bag

  launched-in : (w : World) → ranges.Placed cfg w → (k : ℕ) → Launched-below cfg (seen_by cfg w k)
  launched-in w o k l i = (o.launched k l i).node

  reads-in : (w : World) (e : Event) (a : Master_act) → Lands w → master_act cfg w e ≡ Some a → ReadIn cfg a.step
  unfolding master_act
  reads-in w (Duty k f) a o q = by (duty cfg w k) q
    where
      by : (d : Option Store) → duty_act w k f d ≡ Some a → ReadIn cfg a.step
      by None q = cc
      by (Some call) q = let x : record { who = k; step = Asks call (reply_under f (reply_of w k call)) } ≡ a = cc in subst (λ (y : Master_act). ReadIn cfg y.step) x (reply-in cfg w k f call o.stored)
  reads-in w (LaunchOn k t n) a o q = let x : record { who = k; step = Launches (launch_of k (seen_by cfg w k) t n) } ≡ a = cc in subst (λ (y : Master_act). ReadIn cfg y.step) x tt
  reads-in w (Deliver i) a o q = let p = came_act-is (slice_get w.bag i) a q in subst (ReadIn cfg) (sym p.1) tt
  reads-in w (Expire k n) a o q = let x : record { who = k; step = Expires n } ≡ a = cc in subst (λ (y : Master_act). ReadIn cfg y.step) x tt
  reads-in w (Start k kept) a o q = cc
  reads-in w (Crash k kept) a o q = cc
  reads-in w (ContainerStep c f) a o q = cc
  reads-in w (Compute c bytes) a o q = cc
  reads-in w (Die c) a o q = cc
  reads-in w (NodeRestart m) a o q = cc

  lands : (w : World) (e : Event) → Lands w → not_now cfg w e ≡ None → Lands (effect cfg w e)
  lands w e o n = record {
    places = ranges.placed cfg w e o.places n;
    here = λ k. seen_after H cfg w (master_act cfg w e) k (o.here k) (λ a q m. next-here cfg k (seen_by cfg w k) a.step (launched-in w o.places k) (reads-in w e a o q) (o.here k));
    stored = λ j x i. by j x (stores_after cfg w e n j x i);
    fetching = goes-on;
    bag = Each-append P w.bag (sent cfg w e) o.bag (sent-find w e o.here o.fetching);
  }
    where
      by : (j : ℕ) (x : Record) → StoredOrDue cfg w j x → TellsIn cfg x
      by j x (inl i) = o.stored j x i
      by j x (inr q) = subst (TellsIn cfg) q.4 (written-in cfg q.3 q.1 (named-in cfg (seen_by cfg w j).launched q.1 (launched-in w o.places j) (due (appends-due cfg j (seen_by cfg w j) (Append_record q.1) q.2))))
        where
          due : (seen_by cfg w j).due ≡ q.1 ∷ rest_of (seen_by cfg w j).due → NamesOne (seen_by cfg w j).launched q.1
          due e = (subst (Each (NamesOne (seen_by cfg w j).launched)) e (o.places.named j)).0

      first-in : (x : Attempt) → FetchesIn cfg (wish (length cfg.splits) x [])
      first-in x = subst (FetchesIn cfg) (sym (wish-first (length cfg.splits) x)) (if_cases (FetchesIn cfg) (is_reduce x) _ _ (λ t. asks-in cfg (length cfg.splits) 0) (λ t. tt))

      goes-on : Fetching (effect cfg w e)
      goes-on c p q = at (place_was cfg w e o.places.sures.known.cluster o.places.sures.known.heard n c p q)
        where
          at : (w.place c ≡ Some p) ⊎ ((w.place c ≡ None) × ((effect cfg w e).container_past c ≡ [])) → FetchesIn cfg (wish (length cfg.splits) p.attempt ((effect cfg w e).container_past c))
          at (inr z) = subst (λ h. FetchesIn cfg (wish (length cfg.splits) p.attempt h)) (sym z.1) (first-in p.attempt)
          at (inl z) = past_after w (container_act cfg w e) c (λ h. FetchesIn cfg (wish (length cfg.splits) p.attempt h)) (o.fetching c p z)
              (λ a v m. subst (FetchesIn cfg) (sym (wish-step (length cfg.splits) p.attempt (w.container_past c) a.step))
              (wish-next cfg (length cfg.splits) p.attempt (wish (length cfg.splits) p.attempt (w.container_past c)) a.step (steps-ok cfg w e n a v c m p z) (act-in w e a o.bag v) (o.fetching c p z)))

  opening-lands : Lands opening_world
  unfolding seen
  opening-lands = record { places = ranges.opening-placed cfg; here = λ k. record { stand = tt; read = tt }; stored = λ j x i. absurd i; fetching = λ c p q. cc; bag = tt }

  always-lands : (within : Limits) (es : List Event) → Lands (world_of cfg within es)
  always-lands within es = along Lands cfg within (λ w e o n. lands w e o n) opening_world es opening-lands

  -- each packet to a node
  finds-node : (w : World) → Lands w → (n : ℕ) (p : Packet) → In (record { to = Node n; body = p }) w.bag → n < cfg.nodes
  finds-node w o n p i = by p (Each-In P w.bag o.bag _ i) (Each-In (EnvelopeFits cfg w) w.bag o.places.sures.known.cluster.packets _ i)
    where
      by : (p : Packet) → FindsAt (Node n) p → PacketFits cfg w (Node n) p → n < cfg.nodes
      by (Launch c a j) f u = launched-in w o.places c.app _ u
      by (Kill c) f u = launched-in w o.places c.app _ u.2
      by p f u = f

pub packets_find_their_nodes : PacketsFindTheirNodes
packets_find_their_nodes cfg within es i n p q = lt-ltb n cfg.nodes (finds-node cfg (world_of cfg within es) (always-lands cfg within es) n p (slice_get-In (world_of cfg within es).bag i _ q))
