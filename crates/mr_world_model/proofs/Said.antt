-- What holds of every packet that an event sends: a proof for each kind that matters, and one for the rest.
use Rattle.std.proofs.Common.{ℕ, zero, suc, ◌≡◌, refl, Bool, true, false, ◌&&◌, ◌||◌, not, List, [], ◌∷◌, Option, Some, None, nat_eq, slice_get, length, nat_le}
use Rattle.mr_world_model.specs.Ids.{Attempt, ContainerId, TaskId}
use Rattle.mr_world_model.specs.Content.{bar_of}
use Rattle.mr_world_model.specs.Packets.{Config, Packet, Store, Reply, Names, Flush, Fine, Envelope, Master, Container, Node, Address, Won, Outcome, NodeUp, Done, Pending, Poll, Where}
use Rattle.mr_world_model.specs.Pasts.{is_known, incarnation_of, wished_packet, wished_op, Wish, Place, wish, computed, part_length, To_report}
use Rattle.mr_world_model.specs.Hearing.{Seen, Phase, Opening, Setting_up, Running, Committing, Failing, Finished, Stopped, Recovering, Move_from, Launched, Placed, find_launched, is_running, may_accept, has, stands, find_container}
use Rattle.mr_world_model.specs.Duties.{Master_step, Came, Launches, Expires, Asks, next_seen}
use Rattle.mr_world_model.specs.World.{World, Event, Start, Crash, Duty, LaunchOn, Deliver, ContainerStep, Compute, Die, NodeRestart, Expire, Weather, Master_act, Container_act, master_act, seen_by, op_of, packet_of, packet_at, op_at}
use Rattle.mr_world_model.specs.Sending.{bar_sends, bar_kill, kill_to, sent, master_sends, step_sends, won_by_recovery, flush_sends, outcome_of, to_node, to_app, kills_of, replies, answer_to, ack_to, ready, is_failing, node_sends, node_replies, piece_of, own_end, said_ended, some_packet, to_masters, if_ours}
use Rattle.mr_world_model.proofs.Basic.{if_cases}
use Rattle.mr_world_model.proofs.Lists.{Each, Each-append}
use Rattle.mr_world_model.proofs.Won.{all-each, flush-all}

abbrev pub is_plain : Packet → Bool
is_plain (Won t a) = false
is_plain (Outcome b) = false
is_plain (Done a z) = false
is_plain _ = true

abbrev pub is_finished : Phase → Bool
is_finished (Finished b) = true
is_finished _ = false

-- nor one by which a container asks its master
abbrev pub is_quiet : Packet → Bool
is_quiet (Won t a) = false
is_quiet (Outcome b) = false
is_quiet (Done a z) = false
is_quiet (Pending a) = false
is_quiet (Poll a) = false
is_quiet (Where c m) = false
is_quiet _ = true

quiet-plain : (p : Packet) → is_quiet p ≡ true → is_plain p ≡ true
quiet-plain (Won t a) e = e
quiet-plain (Outcome b) e = e
quiet-plain (Done a z) e = e
quiet-plain p e = refl

pub record Sayings (P : Envelope → Type 0) : Type 0 where
  pub plain : (v : Envelope) → is_plain v.body ≡ true → P v
  pub won : (n : ℕ) (t : TaskId) (a : Attempt) → P (to_node n (Won t a))

pub record Quiets (P : Envelope → Type 0) : Type 0 where
  pub plain : (v : Envelope) → is_quiet v.body ≡ true → P v
  pub won : (n : ℕ) (t : TaskId) (a : Attempt) → P (to_node n (Won t a))

module _ (P : Envelope → Type 0) (y : Quiets P) where
  answer-each : (l : Option Launched) (b : Bool) → Each P (answer_to l b)
  answer-each None b = tt
  answer-each (Some l) b = (y.plain _ refl, tt)

  ack-each : (l : Option Launched) (a : Attempt) → Each P (ack_to l a)
  ack-each None a = tt
  ack-each (Some l) a = (y.plain _ refl, tt)

  kills-each : (ls : List Launched) → Each P (kills_of ls)
  kills-each [] = tt
  kills-each (l ∷ ls) = (y.plain _ refl, kills-each ls)

  ready-each : (c : ContainerId) (m : ℕ) (rs : List Attempt) (p : Option Placed) → Each P (ready c m rs p)
  ready-each c m rs None = tt
  ready-each c m rs (Some p) = if_cases (Each P) (has rs p.attempt) _ _ (λ t. (y.plain _ refl, tt)) (λ t. tt)

  replies-each : (s s' : Seen) (p : Packet) → Each P (replies s s' p)
  replies-each s s' (Packet.Pending a) = answer-each _ _
  replies-each s s' (Packet.Poll a) = answer-each _ _
  replies-each s s' (Packet.Done a z) = if_cases (Each P) (may_accept s a || has s.accepted a) _ _ (λ t. ack-each _ a) (λ t. tt)
  replies-each s s' (Packet.Failed a) = if_cases (Each P) (is_failing s'.phase) _ _ (λ t. kills-each _) (λ t. tt)
  replies-each s s' (Packet.Ended c) = if_cases (Each P) (is_failing s'.phase) _ _ (λ t. kills-each _) (λ t. tt)
  replies-each s s' (Packet.Where c m) = ready-each c m s.recorded (if_ours (find_container s.launched c) (stands s.standing m))
  replies-each s s' _ = tt

  pub outcome-each : (n : ℕ) (p q : Phase) → ((m : ℕ) (b : Bool) → q ≡ Finished b → is_finished p ≡ false → P (to_node m (Outcome b))) → Each P (outcome_of n p q)
  outcome-each n (Finished b) q f = tt
  outcome-each n (Opening i) (Finished b) f = all-each P n (Outcome b) (λ m. f m b refl refl)
  outcome-each n Setting_up (Finished b) f = all-each P n (Outcome b) (λ m. f m b refl refl)
  outcome-each n (Recovering ws at) (Finished b) f = all-each P n (Outcome b) (λ m. f m b refl refl)
  outcome-each n Running (Finished b) f = all-each P n (Outcome b) (λ m. f m b refl refl)
  outcome-each n (Committing at) (Finished b) f = all-each P n (Outcome b) (λ m. f m b refl refl)
  outcome-each n (Failing g) (Finished b) f = all-each P n (Outcome b) (λ m. f m b refl refl)
  outcome-each n Stopped (Finished b) f = all-each P n (Outcome b) (λ m. f m b refl refl)
  outcome-each n p _ f = tt

  recovery-each : (n : ℕ) (p : Phase) (r : Reply) → Each P (won_by_recovery n p r)
  recovery-each n (Recovering (x ∷ todo) (Move_from j)) Fine = all-each P n _ (λ m. y.won m _ _)
  recovery-each n p r = tt

  flush-each : (n : ℕ) (s : Seen) (call : Store) (r : Reply) → Each P (flush_sends n s call r)
  flush-each n s Flush Fine = flush-all P n s s.tail (λ a z i m. y.won m _ _) (λ as'. kills-each _)
  flush-each n s call r = tt

  bar-each : (s : Seen) (call : Store) (r : Reply) → Each P (bar_sends s call r)
  bar-each s (Names op) Fine = by (bar_of op)
    where
      to : (l : Option Launched) → Each P (kill_to l)
      to None = tt
      to (Some l) = (y.plain _ refl, tt)

      by : (m : Option Attempt) → Each P (bar_kill s m)
      by None = tt
      by (Some a) = to (find_launched s.launched a)
  bar-each s call r = tt

  step-each : (cfg : Config) (s s' : Seen) (x : Master_step) → ((m : ℕ) (b : Bool) → s'.phase ≡ Finished b → is_finished s.phase ≡ false → P (to_node m (Outcome b))) → Each P (step_sends cfg s s' x)
  step-each cfg s s' (Came p) f = if_cases (Each P) (is_running s.phase) _ _ (λ t. replies-each s s' p) (λ t. tt)
  step-each cfg s s' (Launches l) f = (y.plain _ refl, tt)
  step-each cfg s s' (Expires n) f = kills-each _
  step-each cfg s s' (Asks call r) f = Each-append P (won_by_recovery cfg.nodes s.phase r) _ (recovery-each cfg.nodes s.phase r)
      (Each-append P (flush_sends cfg.nodes s call r) _ (flush-each cfg.nodes s call r) (Each-append P (bar_sends s call r) _ (bar-each s call r) (outcome-each cfg.nodes s.phase s'.phase f)))

  -- when an outcome is told
  abbrev pub OutcomeSaid : Config → World → Option Master_act → Type 0
  OutcomeSaid cfg w o = (a : Master_act) → o ≡ Some a → (m : ℕ) (b : Bool) → (next_seen cfg a.who (seen_by cfg w a.who) a.step).phase ≡ Finished b →
      is_finished (seen_by cfg w a.who).phase ≡ false → P (to_node m (Outcome b))

  master-each : (cfg : Config) (w : World) (o : Option Master_act) → OutcomeSaid cfg w o → Each P (master_sends cfg w o)
  master-each cfg w None f = tt
  master-each cfg w (Some a) f = step-each cfg (seen_by cfg w a.who) (next_seen cfg a.who (seen_by cfg w a.who) a.step) a.step (f a refl)

  piece-each : (c : ContainerId) (a : Attempt) (r o : ℕ) (b : Option (List ℕ)) → Each P (piece_of c a r o b)
  piece-each c a r o None = (y.plain _ refl, tt)
  piece-each c a r o (Some block) = if_cases (Each P) (nat_le o (length block)) _ _ (λ t. (y.plain _ refl, tt)) (λ t. (y.plain _ refl, tt))

  node-each : (cfg : Config) (w : World) (n : ℕ) (p : Packet) → Each P (node_replies cfg w n p)
  node-each cfg w n (Packet.Launch c a i) = if_cases (Each P) (not (is_known (w.node_past n) c) && not (nat_eq i (incarnation_of (w.node_past n)))) _ _ (λ t. (y.plain _ refl, tt)) (λ t. tt)
  node-each cfg w n (Packet.Kill c) = (y.plain _ refl, tt)
  node-each cfg w n (Packet.Fetch c a r i o) = if_cases (Each P) (nat_eq i (incarnation_of (w.node_past n))) _ _ (λ t. piece-each c a r o _) (λ t. (y.plain _ refl, tt))
  node-each cfg w n _ = tt

  nodes-each : (cfg : Config) (w : World) (o : Option Envelope) → Each P (node_sends cfg w o)
  nodes-each cfg w None = tt
  nodes-each cfg w (Some e) = to e.to e.body
    where
      to : (a : Address) (p : Packet) → Each P (node_sends cfg w (Some (record { to = a; body = p })))
      to (Master k) p = tt
      to (Container c) p = tt
      to (Node n) p = node-each cfg w n p

  ended-each : (b : Bool) (c : ContainerId) → Each P (said_ended b c)
  ended-each true c = (y.plain _ refl, tt)
  ended-each false c = tt

  own-each : (cfg : Config) (w : World) (e : Event) (o : Option Container_act) → Each P (own_end cfg w e o)
  own-each cfg w e None = tt
  own-each cfg w e (Some a) = ended-each _ _

  masters-each : (f : ℕ → Bool) (k n i : ℕ) → Each P (to_masters f k (NodeUp n i))
  unfolding to_masters
  masters-each f zero n i = tt
  masters-each f (suc k) n i = Each-append P (to_masters f k (NodeUp n i)) _ (masters-each f k n i) (if_cases (Each P) (f (suc k)) _ _ (λ t. (y.plain _ refl, tt)) (λ t. tt))

  abbrev pub DoneSaid : Config → World → Event → Type 0
  DoneSaid cfg w e = (c : ContainerId) (f : Weather) (p : Place) → e ≡ ContainerStep c f → w.place c ≡ Some p →
      wish (length cfg.splits) p.attempt (w.container_past c) ≡ To_report → P (to_app c.app (Done p.attempt (part_length p.attempt (computed (w.container_past c)))))

  -- when a container asks its master
  abbrev pub AsksSaid : Config → World → Event → Type 0
  AsksSaid cfg w e = (c : ContainerId) (f : Weather) (p : Place) → e ≡ ContainerStep c f → w.place c ≡ Some p →
      (wish (length cfg.splits) p.attempt (w.container_past c) ≡ Wish.To_pend → P (to_app c.app (Pending p.attempt)))
      × (wish (length cfg.splits) p.attempt (w.container_past c) ≡ Wish.To_poll → P (to_app c.app (Poll p.attempt)))
      × ((m : ℕ) → wish (length cfg.splits) p.attempt (w.container_past c) ≡ Wish.To_ask_where m → P (to_app c.app (Where c m)))

  wished-each : (cfg : Config) (w : World) (c : ContainerId) (f : Weather) → DoneSaid cfg w (ContainerStep c f) → AsksSaid cfg w (ContainerStep c f) → Each P (some_packet (op_of cfg w c) (packet_of cfg w c))
  unfolding wished_op wished_packet
  wished-each cfg w c f d a = by (w.place c) refl
    where
      wishes : (p : Place) (v : Wish) → w.place c ≡ Some p → wish (length cfg.splits) p.attempt (w.container_past c) ≡ v → Each P (some_packet (wished_op c.app p.attempt (computed (w.container_past c)) v) (wished_packet c p.attempt (computed (w.container_past c)) v))
      wishes p To_report e q = (d c f p refl e q, tt)
      wishes p Wish.To_fail e q = (y.plain _ refl, tt)
      wishes p (Wish.To_ask_where m) e q = ((a c f p refl e).2 m q, tt)
      wishes p (Wish.To_fetch m b n i got) e q = (y.plain _ refl, tt)
      wishes p (Wish.To_say_lost m b) e q = (y.plain _ refl, tt)
      wishes p Wish.To_pend e q = ((a c f p refl e).0 q, tt)
      wishes p Wish.To_poll e q = ((a c f p refl e).1 q, tt)
      wishes p _ e q = tt

      by : (o : Option Place) → w.place c ≡ o → Each P (some_packet (op_at cfg c o (w.container_past c)) (packet_at cfg c o (w.container_past c)))
      by None q = tt
      by (Some p) q = wishes p _ q refl

  pub sent-every : (cfg : Config) (w : World) (e : Event) → OutcomeSaid cfg w (master_act cfg w e) → DoneSaid cfg w e → AsksSaid cfg w e → Each P (sent cfg w e)
  unfolding sent
  sent-every cfg w (Start k kept) f d a = tt
  sent-every cfg w (Crash k kept) f d a = tt
  sent-every cfg w (Duty k g) f d a = master-each cfg w (master_act cfg w (Duty k g)) f
  sent-every cfg w (LaunchOn k t m) f d a = master-each cfg w (master_act cfg w (LaunchOn k t m)) f
  sent-every cfg w (Expire k m) f d a = master-each cfg w (master_act cfg w (Expire k m)) f
  sent-every cfg w (Deliver i) f d a = Each-append P (master_sends cfg w (master_act cfg w (Deliver i))) _ (master-each cfg w (master_act cfg w (Deliver i)) f)
      (Each-append P (node_sends cfg w (slice_get w.bag i)) _ (nodes-each cfg w _) (own-each cfg w (Deliver i) _))
  sent-every cfg w (ContainerStep c g) f d a = Each-append P (some_packet (op_of cfg w c) (packet_of cfg w c)) _ (wished-each cfg w c g d a) (own-each cfg w (ContainerStep c g) _)
  sent-every cfg w (Compute c b) f d a = tt
  sent-every cfg w (Die c) f d a = (y.plain _ refl, tt)
  sent-every cfg w (NodeRestart m) f d a = masters-each w.is_master w.fence m _

pub quiets : (P : Envelope → Type 0) → Sayings P → Quiets P
quiets P y = record { plain = λ v t. y.plain v (quiet-plain v.body t); won = y.won }

pub sent-each : (P : Envelope → Type 0) (y : Sayings P) (cfg : Config) (w : World) (e : Event) → OutcomeSaid P (quiets P y) cfg w (master_act cfg w e) → DoneSaid P (quiets P y) cfg w e → Each P (sent cfg w e)
sent-each P y cfg w e f d = sent-every P (quiets P y) cfg w e f d (λ c g p q u. (λ z. y.plain _ refl, λ z. y.plain _ refl, λ m z. y.plain _ refl))
