-- Who is told of a winner, and that it is the recorded one.
use Rattle.std.proofs.Common.{ℕ, zero, suc, ◌≤◌, ◌<◌, ◌≡◌, refl, ◌∙◌, ap, subst, Bool, true, false, ◌&&◌, ◌||◌, not, List, [], ◌∷◌, ◌++◌, Option, Some, None, if◌then◌else◌, nat_eq, nat_le, ◌⊎◌, inl, inr, arith, slice_get, length}
use Rattle.std.proofs.lemmas.Bool.{false≢true, cases_lt}
use Rattle.mr_world_model.specs.Ids.{Attempt, ContainerId, TaskId, is_reduce}
use Rattle.mr_world_model.specs.Content.{Op, bar_of}
use Rattle.mr_world_model.specs.Records.{Record, History, winner_in, AttemptStarted, MapSucceeded, AttemptFailed, JobUnsuccessful, ReduceSucceeded, records_below, as_written, bytes_kept}
use Rattle.mr_world_model.specs.Packets.{Config, Packet, Store, Reply, Names, Flush, Fine, Sealed, Envelope, Master, Container, Node, Address, Won, Outcome, NodeUp}
use Rattle.mr_world_model.specs.Pasts.{is_known, incarnation_of, wished_packet, Wish, Place, Step}
use Rattle.mr_world_model.specs.Hearing.{Seen, Phase, Opening, Setting_up, Running, Committing, Failing, Finished, Stopped, Recovering, Move_from, Todo_winner, Launched, Placed, in_task_order, live_on, find_launched, is_running, may_accept, has, stands, find_container}
use Rattle.mr_world_model.specs.Duties.{Came, seen, next_seen, is_fine, success_of, all_rivals}
use Rattle.mr_world_model.specs.World.{World, Event, Start, Crash, Duty, LaunchOn, Deliver, ContainerStep, Compute, Die, NodeRestart, Expire, Weather, Calm, Container_act, master_act, duty_act, came_act, duty, seen_by, reply_of, own_reply, reply_under, call_of, is_applied, op_of, packet_of, packet_at, opening_world}
use Rattle.mr_world_model.specs.Sending.{bar_sends, bar_kill, kill_to, sent, master_sends, won_by_recovery, flush_sends, flush_each, outcome_of, wins, to_all, to_node, kills_of, replies, answer_to, ack_to, ready, is_failing, node_sends, node_replies, piece_of, own_end, said_ended, some_packet, to_masters, if_ours}
use Rattle.mr_world_model.specs.Effect.{effect, not_now}
use Rattle.mr_world_model.specs.Claims.{In, Limits, records, winner, NodesAreToldTheWinner, world_of}
use Rattle.mr_world_model.proofs.Basic.{if_cases, Extends, Extends-refl, Extends-trans, winner-extends, along}
use Rattle.mr_world_model.proofs.Lists.{Each, Each-append, Each-In, winner_in-only, winner-none-append}
use Rattle.mr_world_model.proofs.Grows.{records_extend, duty_master, opening_aged, one_more, applied_newest}
use Rattle.mr_world_model.proofs.Sound.{one_accepted}
use Rattle.mr_world_model.proofs.Phases.{PhaseFits}
use Rattle.mr_world_model.proofs.Told.{Honest, honest, Stores, below_same, fine-applied, called_at, opening-steady}

-- what a packet says of a winner is so
abbrev pub Tells : World → Envelope → Type 0
Tells w e = (t : TaskId) (a : Attempt) → e.body ≡ Won t a → winner w t ≡ Some a

-- a packet that tells no winner
abbrev Silent : Envelope → Type 0
Silent e = (t : TaskId) (a : Attempt) → e.body ≡ Won t a → ⊥

silent-tells : (w : World) (es : List Envelope) → Each Silent es → Each (Tells w) es
silent-tells w [] s = tt
silent-tells w (e ∷ es) s = (λ t a q. absurd (s.0 t a q), silent-tells w es s.1)

answer-silent : (l : Option Launched) (b : Bool) → Each Silent (answer_to l b)
answer-silent None b = tt
answer-silent (Some l) b = (λ t a q. cc, tt)

ack-silent : (l : Option Launched) (a : Attempt) → Each Silent (ack_to l a)
ack-silent None a = tt
ack-silent (Some l) a = (λ t a q. cc, tt)

kills-silent : (ls : List Launched) → Each Silent (kills_of ls)
kills-silent [] = tt
kills-silent (l ∷ ls) = (λ t a q. cc, kills-silent ls)

bar-silent : (s : Seen) (call : Store) (r : Reply) → Each Silent (bar_sends s call r)
bar-silent s (Names op) Fine = by (bar_of op)
  where
    to : (l : Option Launched) → Each Silent (kill_to l)
    to None = tt
    to (Some l) = (λ t a q. cc, tt)

    by : (m : Option Attempt) → Each Silent (bar_kill s m)
    by None = tt
    by (Some a) = to (find_launched s.launched a)
bar-silent s call r = tt

ready-silent : (c : ContainerId) (m : ℕ) (rs : List Attempt) (p : Option Placed) → Each Silent (ready c m rs p)
ready-silent c m rs None = tt
ready-silent c m rs (Some p) = if_cases (Each Silent) (has rs p.attempt) _ _ (λ t. (λ t a q. cc, tt)) (λ t. tt)

replies-silent : (s s' : Seen) (p : Packet) → Each Silent (replies s s' p)
replies-silent s s' (Packet.Pending a) = answer-silent _ _
replies-silent s s' (Packet.Poll a) = answer-silent _ _
replies-silent s s' (Packet.Done a z) = if_cases (Each Silent) (may_accept s a || has s.accepted a) _ _ (λ t. ack-silent _ a) (λ t. tt)
replies-silent s s' (Packet.Failed a) = if_cases (Each Silent) (is_failing s'.phase) _ _ (λ t. kills-silent _) (λ t. tt)
replies-silent s s' (Packet.Ended c) = if_cases (Each Silent) (is_failing s'.phase) _ _ (λ t. kills-silent _) (λ t. tt)
replies-silent s s' (Packet.Where c m) = ready-silent c m s.recorded (if_ours (find_container s.launched c) (stands s.standing m))
replies-silent s s' _ = tt

all-silent : (n : ℕ) (b : Bool) → Each Silent (to_all n (Outcome b))
unfolding to_all
all-silent zero b = tt
all-silent (suc n) b = Each-append Silent (to_all n (Outcome b)) _ (all-silent n b) (λ t a q. cc, tt)

outcome-silent : (n : ℕ) (p q : Phase) → Each Silent (outcome_of n p q)
outcome-silent n (Finished b) q = tt
outcome-silent n (Opening i) (Finished b) = all-silent n b
outcome-silent n Setting_up (Finished b) = all-silent n b
outcome-silent n (Recovering ws at) (Finished b) = all-silent n b
outcome-silent n Running (Finished b) = all-silent n b
outcome-silent n (Committing at) (Finished b) = all-silent n b
outcome-silent n (Failing f) (Finished b) = all-silent n b
outcome-silent n Stopped (Finished b) = all-silent n b
outcome-silent n p _ = tt

piece-silent : (c : ContainerId) (a : Attempt) (r o : ℕ) (b : Option (List ℕ)) → Each Silent (piece_of c a r o b)
piece-silent c a r o None = (λ t a q. cc, tt)
piece-silent c a r o (Some block) = if_cases (Each Silent) (nat_le o (length block)) _ _ (λ t. (λ t a q. cc, tt)) (λ t. (λ t a q. cc, tt))

node-silent : (cfg : Config) (w : World) (n : ℕ) (p : Packet) → Each Silent (node_replies cfg w n p)
node-silent cfg w n (Packet.Launch c a i) = if_cases (Each Silent) (not (is_known (w.node_past n) c) && not (nat_eq i (incarnation_of (w.node_past n)))) _ _ (λ t. (λ t a q. cc, tt)) (λ t. tt)
node-silent cfg w n (Packet.Kill c) = (λ t a q. cc, tt)
node-silent cfg w n (Packet.Fetch c a r i o) = if_cases (Each Silent) (nat_eq i (incarnation_of (w.node_past n))) _ _ (λ t. piece-silent c a r o _) (λ t. (λ t a q. cc, tt))
node-silent cfg w n _ = tt

node_sends-silent : (cfg : Config) (w : World) (o : Option Envelope) → Each Silent (node_sends cfg w o)
node_sends-silent cfg w None = tt
node_sends-silent cfg w (Some e) = to e.to e.body
  where
    to : (a : Address) (p : Packet) → Each Silent (node_sends cfg w (Some (record { to = a; body = p })))
    to (Master k) p = tt
    to (Container c) p = tt
    to (Node n) p = node-silent cfg w n p

ended-silent : (b : Bool) (c : ContainerId) → Each Silent (said_ended b c)
ended-silent true c = (λ t a q. cc, tt)
ended-silent false c = tt

own-silent : (cfg : Config) (w : World) (e : Event) (o : Option Container_act) → Each Silent (own_end cfg w e o)
own-silent cfg w e None = tt
own-silent cfg w e (Some a) = ended-silent _ _

masters-silent : (f : ℕ → Bool) (k n i : ℕ) → Each Silent (to_masters f k (NodeUp n i))
unfolding to_masters
masters-silent f zero n i = tt
masters-silent f (suc k) n i = Each-append Silent (to_masters f k (NodeUp n i)) _ (masters-silent f k n i) (if_cases (Each Silent) (f (suc k)) _ _ (λ t. (λ t a q. cc, tt)) (λ t. tt))

wished-silent : (c : ContainerId) (a : Attempt) (bs : List ℕ) (x : Wish) (e : Envelope) → wished_packet c a bs x ≡ Some e → Silent e
unfolding wished_packet
wished-silent c a bs (Wish.To_ask_where m) e q t b r = cc
wished-silent c a bs (Wish.To_fetch m d n i got) e q t b r = cc
wished-silent c a bs (Wish.To_say_lost m d) e q t b r = cc
wished-silent c a bs Wish.To_pend e q t b r = cc
wished-silent c a bs Wish.To_poll e q t b r = cc
wished-silent c a bs Wish.To_report e q t b r = cc
wished-silent c a bs Wish.To_fail e q t b r = cc
wished-silent c a bs _ e q t b r = cc

packet-silent : (cfg : Config) (c : ContainerId) (p : Option Place) (h : List Step) (e : Envelope) → packet_at cfg c p h ≡ Some e → Silent e
packet-silent cfg c None h e q = cc
packet-silent cfg c (Some p) h e q = wished-silent c p.attempt _ _ e q

some-silent : (o : Option Op) (p : Option Envelope) → ((e : Envelope) → p ≡ Some e → Silent e) → Each Silent (some_packet o p)
some-silent (Some op) p f = tt
some-silent None None f = tt
some-silent None (Some e) f = (f e refl, tt)

below_extends : (h : History) (k f : ℕ) → k ≤ f → Extends (records_below h k) (records_below h f)
unfolding records_below
below_extends h k zero l = let e : k ≡ zero = omega arith in rw e (Extends-refl _)
below_extends h k (suc f) l = by (cases_lt f k) (below_extends h k f)
  where
    by : (f < k) ⊎ (k ≤ f) → (k ≤ f → Extends (records_below h k) (records_below h f)) → Extends (records_below h k) (records_below h (suc f))
    by (inl m) g = let e : k ≡ suc f = omega arith in rw e (Extends-refl _)
    by (inr m) g = Extends-trans (g m) (one_more h f)

pub all-each : (P : Envelope → Type 0) (n : ℕ) (p : Packet) → ((m : ℕ) → P (to_node m p)) → Each P (to_all n p)
unfolding to_all
all-each P zero p f = tt
all-each P (suc n) p f = Each-append P (to_all n p) _ (all-each P n p f) (f n, tt)

won-tells : (u : World) (n : ℕ) (t : TaskId) (a : Attempt) → winner u t ≡ Some a → Tells u (to_node n (Won t a))
won-tells u n t a e s b q = let x : t ≡ s = cc in let y : a ≡ b = cc in
    subst (λ z. winner u s ≡ Some z) y (subst (λ z. winner u z ≡ Some a) x e)

-- the winner that a recovering master tells
recovered-tells : (cfg : Config) (u : World) (R : List Record) (p : Phase) (ws : List Todo_winner) (r : Reply) → Extends R (records u) →
    PhaseFits R cfg.job cfg.reduces ws p → Each (Tells u) (won_by_recovery cfg.nodes p r)
recovered-tells cfg u R (Recovering (x ∷ todo) (Move_from j)) ws Fine g o =
    all-each (Tells u) cfg.nodes _ (λ n. won-tells u n x.task x.attempt (winner-extends x.task x.attempt g o.1.0.0))
recovered-tells cfg u R p ws r g o = tt

-- after a flush that was answered, each success of the tail is the winner
flush-winner : (cfg : Config) (w : World) (k : ℕ) (f : Weather) → Honest cfg w → not_now cfg w (Duty k f) ≡ None → duty cfg w k ≡ Some Flush →
    is_fine (reply_under f (reply_of w k Flush)) ≡ true → (a : Attempt) (z : Option ℕ) → In (ReduceSucceeded a z) (seen_by cfg w k).tail → winner (effect cfg w (Duty k f)) a.task ≡ Some a
unfolding call_of records_below
flush-winner cfg w k f h n d fine a z i =
    subst (λ x. winner_in (records_below (effect cfg w (Duty k f)).history (suc x)) a.task ≡ Some a) newest
    (rw (segment, winner-none-append _ _ a.task none) (winner_in-only _ a (bytes_kept stored.0 z) stored.1 only))
  where
    old : k ≤ w.fence
    old = h.is_aged.masters_started k (duty_master cfg w k f n)

    ok : (is_applied w k f ≡ true) × (is_fine (own_reply w k Flush) ≡ true) × (f ≡ Calm)
    ok = fine-applied w k f Flush fine

    newest : k ≡ w.fence
    newest = let up = applied_newest w k f ok.0 in let down = old in omega arith

    unsealed : (w.history k).is_sealed ≡ false
    unsealed = open_if (w.history k).is_sealed ok.1
      where
        open_if : (b : Bool) → is_fine (if b then Sealed else Fine) ≡ true → b ≡ false
        open_if true e = absurd (false≢true e)
        open_if false e = refl

    segment : ((effect cfg w (Duty k f)).history k).stable ≡ (w.history k).stable ++ (w.history k).tail
    segment = rw (d, called_at w k f Flush ok.0, unsealed) refl

    accepted : In a (seen_by cfg w k).accepted × (is_reduce a ≡ true)
    accepted = (h.steady k old).tails a z i

    none : winner_in (records_below (effect cfg w (Duty k f)).history k) a.task ≡ None
    none = rw (below_same cfg w (Duty k f) h.is_aged n k old) ((h.steady k old).accepts a accepted.0 accepted.1)

    stored : (v : ℕ) × Stores (w.history k) (as_written v (ReduceSucceeded a z))
    stored = h.tailed k unsealed (ReduceSucceeded a z) i

    only : (b : Attempt) (y : Option ℕ) → Stores (w.history k) (ReduceSucceeded b y) → b.task ≡ a.task → b ≡ a
    only b y j e = let q = h.held k b y j in one_accepted _ (seen_by cfg w k) (h.steady k old) a b accepted.0 q.0 accepted.1 q.1 e

pub wins-each : (P : Envelope → Type 0) (n : ℕ) (rs : List Record) → ((a : Attempt) (z : Option ℕ) → In (ReduceSucceeded a z) rs → (m : ℕ) → P (to_node m (Won a.task a))) → Each P (wins n rs)
wins-each P n [] f = tt
wins-each P n (ReduceSucceeded a z ∷ rs) f = Each-append P (to_all n (Won a.task a)) _ (all-each P n _ (f a z (inl refl))) (wins-each P n rs (λ b y i. f b y (inr i)))
wins-each P n (AttemptStarted a m ∷ rs) f = wins-each P n rs (λ b y i. f b y (inr i))
wins-each P n (MapSucceeded a m i ∷ rs) f = wins-each P n rs (λ b y i. f b y (inr i))
wins-each P n (AttemptFailed a ∷ rs) f = wins-each P n rs (λ b y i. f b y (inr i))
wins-each P n (JobUnsuccessful ∷ rs) f = wins-each P n rs (λ b y i. f b y (inr i))

pub flush-all : (P : Envelope → Type 0) (n : ℕ) (s : Seen) (rs : List Record) → ((a : Attempt) (z : Option ℕ) → In (ReduceSucceeded a z) rs → (m : ℕ) → P (to_node m (Won a.task a))) → ((as' : List Attempt) → Each P (kills_of (all_rivals s as'))) → Each P (flush_each n s rs)
flush-all P n s [] f k = tt
flush-all P n s (r ∷ rs) f k = Each-append P (wins n (r ∷ []) ++ kills_of (all_rivals s (success_of r))) _
    (Each-append P (wins n (r ∷ [])) _ (wins-each P n (r ∷ []) (λ a z i m. f a z (first a z i) m)) (k (success_of r))) (flush-all P n s rs (λ a z i m. f a z (inr i) m) k)
  where
    first : (a : Attempt) (z : Option ℕ) → In (ReduceSucceeded a z) (r ∷ []) → In (ReduceSucceeded a z) (r ∷ rs)
    first a z (inl e) = inl e
    first a z (inr i) = absurd i

flush-tells : (cfg : Config) (u : World) (s : Seen) (call : Store) (r : Reply) →
    (call ≡ Flush → is_fine r ≡ true → (a : Attempt) (z : Option ℕ) → In (ReduceSucceeded a z) s.tail → winner u a.task ≡ Some a) → Each (Tells u) (flush_sends cfg.nodes s call r)
flush-tells cfg u s Flush Fine f = flush-all (Tells u) cfg.nodes s s.tail (λ a z i m. won-tells u m a.task a (f refl refl a z i)) (λ as'. silent-tells u _ (kills-silent _))
flush-tells cfg u s call r f = tt

duty-tells : (cfg : Config) (w : World) (k : ℕ) (f : Weather) (o : Option Store) → duty cfg w k ≡ o → Honest cfg w → not_now cfg w (Duty k f) ≡ None →
    Each (Tells (effect cfg w (Duty k f))) (master_sends cfg w (duty_act w k f o))
duty-tells cfg w k f None d h n = tt
duty-tells cfg w k f (Some call) d h n =
    Each-append (Tells u) (won_by_recovery cfg.nodes s.phase r) _
    (recovered-tells cfg u _ s.phase s.winners r (Extends-trans (below_extends w.history k (suc w.fence) (omega (arith, old))) (records_extend cfg w (Duty k f) h.is_aged n)) (h.fits k old))
    (Each-append (Tells u) (flush_sends cfg.nodes s call r) _
    (flush-tells cfg u s call r (λ c g a z i. flush-winner cfg w k f h n (d ∙ ap Some c) (subst (λ x. is_fine (reply_under f (reply_of w k x)) ≡ true) c g) a z i))
    (Each-append (Tells u) (bar_sends s call r) _ (silent-tells u _ (bar-silent s call r)) (silent-tells u _ (outcome-silent cfg.nodes _ _))))
  where
    u : World
    u = effect cfg w (Duty k f)

    s : Seen
    s = seen_by cfg w k

    r : Reply
    r = reply_under f (reply_of w k call)

    old : k ≤ w.fence
    old = h.is_aged.masters_started k (duty_master cfg w k f n)

came-tells : (cfg : Config) (w : World) (o : Option Envelope) → Each Silent (master_sends cfg w (came_act o))
came-tells cfg w None = tt
came-tells cfg w (Some v) = to v.to v.body
  where
    to : (a : Address) (p : Packet) → Each Silent (master_sends cfg w (came_act (Some (record { to = a; body = p }))))
    to (Master k) p = if_cases (Each Silent) (is_running (seen_by cfg w k).phase) _ _ (λ t. replies-silent (seen_by cfg w k) (next_seen cfg k (seen_by cfg w k) (Came p)) p) (λ t. tt)
    to (Container c) p = tt
    to (Node n) p = tt

-- what an event sends tells no other winner than the recorded one
sent-tells : (cfg : Config) (w : World) (e : Event) → Honest cfg w → not_now cfg w e ≡ None → Each (Tells (effect cfg w e)) (sent cfg w e)
unfolding sent master_act
sent-tells cfg w (Start k kept) h n = tt
sent-tells cfg w (Crash k kept) h n = tt
sent-tells cfg w (Duty k f) h n = duty-tells cfg w k f (duty cfg w k) refl h n
sent-tells cfg w (LaunchOn k t m) h n = (λ t a q. cc, tt)
sent-tells cfg w (Deliver i) h n = silent-tells (effect cfg w (Deliver i)) _
    (Each-append Silent (master_sends cfg w (came_act (slice_get w.bag i))) _ (came-tells cfg w (slice_get w.bag i))
    (Each-append Silent (node_sends cfg w (slice_get w.bag i)) _ (node_sends-silent cfg w _) (own-silent cfg w (Deliver i) _)))
sent-tells cfg w (ContainerStep c f) h n = silent-tells (effect cfg w (ContainerStep c f)) _
    (Each-append Silent (some_packet (op_of cfg w c) (packet_of cfg w c)) _ (some-silent _ _ (λ e q. packet-silent cfg c (w.place c) _ e q)) (own-silent cfg w (ContainerStep c f) _))
sent-tells cfg w (Compute c b) h n = tt
sent-tells cfg w (Expire k m) h n = silent-tells (effect cfg w (Expire k m)) _ (kills-silent (in_task_order (live_on (seen_by cfg w k) false m (seen_by cfg w k).launched)))
sent-tells cfg w (Die c) h n = (λ t a q. cc, tt)
sent-tells cfg w (NodeRestart m) h n = silent-tells (effect cfg w (NodeRestart m)) _ (masters-silent w.is_master w.fence m _)

-- the whole invariant, and each moment
pub record Truthful (cfg : Config) (w : World) : Type 0 where
  pub is_honest : Honest cfg w
  pub tells : Each (Tells w) w.bag

still-tells : (w u : World) → Extends (records w) (records u) → (es : List Envelope) → Each (Tells w) es → Each (Tells u) es
still-tells w u g [] o = tt
still-tells w u g (e ∷ es) o = (λ t a q. winner-extends t a g (o.0 t a q), still-tells w u g es o.1)

pub truthful : (cfg : Config) (w : World) (e : Event) → Truthful cfg w → not_now cfg w e ≡ None → Truthful cfg (effect cfg w e)
truthful cfg w e t n = record {
  is_honest = honest cfg w e t.is_honest n;
  tells = Each-append (Tells (effect cfg w e)) w.bag _ (still-tells w (effect cfg w e) (records_extend cfg w e t.is_honest.is_aged n) w.bag t.tells) (sent-tells cfg w e t.is_honest n);
}

pub opening-truthful : (cfg : Config) → Truthful cfg opening_world
unfolding seen
opening-truthful cfg = record {
  is_honest = record {
    is_aged = opening_aged;
    unborn = λ k l. refl;
    steady = λ k l. opening-steady _;
    fits = λ k l. tt;
    held = λ k a z i. absurd i;
    tailed = λ k u a i. absurd i;
  };
  tells = tt;
}

pub told_the_same : (cfg : Config) (within : Limits) → NodesAreToldTheWinner cfg within
told_the_same cfg within es t a p =
    Each-In (Tells (world_of cfg within es)) (world_of cfg within es).bag
    (along (Truthful cfg) cfg within (λ w e. truthful cfg w e) opening_world es (opening-truthful cfg)).tells p.0 p.1 t a p.2
