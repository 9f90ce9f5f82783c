-- What an event sends fits the world after it.
use Rattle.std.proofs.Common.{ℕ, zero, suc, ◌≤◌, ◌≡◌, refl, sym, ◌∙◌, ap, subst, Bool, true, false, ◌&&◌, ◌||◌, not, List, [], ◌∷◌, ◌++◌, Option, Some, None, if◌then◌else◌, nat_eq, nat_le, ◌⊎◌, inl, inr, arith, length, slice_get}
use Rattle.std.proofs.lemmas.Bool.{and_parts, false≢true, eq-eqb}
use Rattle.mr_world_model.specs.Ids.{Attempt, ContainerId, attempt_eq, bool_eq, is_reduce, task_eq}
use Rattle.mr_world_model.specs.Records.{Record, AttemptStarted, MapSucceeded, ReduceSucceeded, AttemptFailed, JobUnsuccessful}
use Rattle.mr_world_model.specs.Packets.{Config, Packet, Envelope, Address, Master, Container, Node, Kill, Failed, NodeUp, Answer, Won, Outcome, Store, Reply, Names, Flush, Fine}
use Rattle.mr_world_model.specs.Content.{Op, bar_of}
use Rattle.mr_world_model.specs.Pasts.{Place, incarnation_of, is_known, Wish, wish, wished_op, wished_packet, To_fail, on_shelf, Got, Sent, computed}
use Rattle.mr_world_model.proofs.Nexts.{next_wish, wish-step}
use Rattle.mr_world_model.specs.Hearing.{Seen, Phase, Recovering, Move_from, Finished, Opening, Setting_up, Running, Committing, Failing, Stopped, Launched, Placed, in_task_order, in_place, task_before, live_on, find_launched, named_in, is_named, is_attempt, is_live, has, may_accept, stands, is_running, find_container}
use Rattle.mr_world_model.specs.Duties.{Master_step, Came, Launches, Expires, Asks, seen, next_seen, rivals, all_rivals}
use Rattle.mr_world_model.specs.World.{World, Event, Start, Crash, Duty, LaunchOn, Deliver, ContainerStep, Compute, Die, NodeRestart, Expire, Weather, Master_act, Container_act, master_act, container_act, got_act, step_act, ends, seen_by, op_of, packet_of, packet_at, op_at, opening_world, kills, is_over_by, block_there}
use Rattle.mr_world_model.specs.Sending.{bar_sends, bar_kill, kill_to, to_node, to_app, to_all, to_masters, sent, kills_of, live_of, master_sends, step_sends, won_by_recovery, flush_sends, outcome_of, wins, replies, answer_to, ack_to, ready, is_failing, node_sends, node_replies, piece_of, own_end, said_ended, some_packet, if_ours}
use Rattle.mr_world_model.specs.Effect.{effect, not_now, node_past_after, addressee}
use Rattle.mr_world_model.specs.Claims.{In, Limits, OneContainerWasToldYes, world_of}
use Rattle.mr_world_model.proofs.Basic.{along, if_cases, unless_parts}
use Rattle.mr_world_model.proofs.Lists.{In-parts, Each, Each-append, attempt_eq-true}
use Rattle.mr_world_model.proofs.Closed.{container_eq-refl}
use Rattle.mr_world_model.proofs.Won.{all-each, flush-all}
use Rattle.mr_world_model.proofs.Cluster.{Cluster, one_yes, PacketFits, EnvelopeFits, IsLaunched, launched_as, launched_after, packets_after, distinct_after, places_after, alive_after, over_after, ended-fits, killed-fits, gone_now, slice_get-In, incarnation_after, step-fits, StepFits}

live-In : (s : Seen) (ls : List Launched) (l : Launched) → In l (live_of s ls) → In l ls
live-In s [] l i = i
live-In s (m ∷ ls) l i = by (is_live s m.attempt) i (live-In s ls l)
  where
    by : (t : Bool) → In l (if t then m ∷ live_of s ls else live_of s ls) → (In l (live_of s ls) → In l ls) → In l (m ∷ ls)
    by true (inl e) f = inl e
    by true (inr j) f = inr (f j)
    by false j f = inr (f j)

place-In : (l m : Launched) (ls : List Launched) → In m (in_place l ls) → (l ≡ m) ⊎ In m ls
place-In l m [] (inl e) = inl e
place-In l m [] (inr i) = absurd i
place-In l m (x ∷ ls) i = by (task_before l.attempt x.attempt) i (place-In l m ls)
  where
    rest : (l ≡ m) ⊎ In m ls → (l ≡ m) ⊎ In m (x ∷ ls)
    rest (inl e) = inl e
    rest (inr j) = inr (inr j)

    by : (t : Bool) → In m (if t then l ∷ x ∷ ls else x ∷ in_place l ls) → (In m (in_place l ls) → (l ≡ m) ⊎ In m ls) → (l ≡ m) ⊎ In m (x ∷ ls)
    by true (inl e) f = inl e
    by true (inr j) f = inr j
    by false (inl e) f = inr (inl e)
    by false (inr j) f = rest (f j)

order-In : (ls : List Launched) (m : Launched) → In m (in_task_order ls) → In m ls
order-In [] m i = i
order-In (l ∷ ls) m i = by (place-In l m (in_task_order ls) i) (order-In ls m)
  where
    by : (l ≡ m) ⊎ In m (in_task_order ls) → (In m (in_task_order ls) → In m ls) → In m (l ∷ ls)
    by (inl e) f = inl e
    by (inr j) f = inr (f j)

on-In : (s : Seen) (r : Bool) (n : ℕ) (ls : List Launched) (l : Launched) → In l (live_on s r n ls) → In l ls
on-In s r n [] l i = i
on-In s r n (m ∷ ls) l i = by (nat_eq m.node n && (bool_eq (is_reduce m.attempt) r && is_live s m.attempt)) i (on-In s r n ls l)
  where
    by : (t : Bool) → In l (if t then m ∷ live_on s r n ls else live_on s r n ls) → (In l (live_on s r n ls) → In l ls) → In l (m ∷ ls)
    by true (inl e) f = inl e
    by true (inr j) f = inr (f j)
    by false j f = inr (f j)

rivals-In : (s : Seen) (a : Attempt) (ls : List Launched) (l : Launched) → In l (rivals s a ls) → In l ls
rivals-In s a [] l i = i
rivals-In s a (m ∷ ls) l i = by (is_live s m.attempt && (not (attempt_eq a m.attempt) && task_eq a.task m.attempt.task)) i (rivals-In s a ls l)
  where
    last : In l (rivals s a ls) ⊎ In l (m ∷ []) → (In l (rivals s a ls) → In l ls) → In l (m ∷ ls)
    last (inl j) f = inr (f j)
    last (inr (inl e)) f = inl e
    last (inr (inr j)) f = absurd j

    by : (t : Bool) → In l (if t then rivals s a ls ++ m ∷ [] else rivals s a ls) → (In l (rivals s a ls) → In l ls) → In l (m ∷ ls)
    by true j f = last (In-parts l (rivals s a ls) _ j) f
    by false j f = inr (f j)

all_rivals-In : (s : Seen) (as' : List Attempt) (l : Launched) → In l (all_rivals s as') → In l s.launched
all_rivals-In s [] l i = absurd i
all_rivals-In s (a ∷ as') l i = by (In-parts l (rivals s a s.launched) _ i) (all_rivals-In s as' l)
  where
    by : In l (rivals s a s.launched) ⊎ In l (all_rivals s as') → (In l (all_rivals s as') → In l s.launched) → In l s.launched
    by (inl j) f = rivals-In s a s.launched l j
    by (inr j) f = f j

found-In : (ls : List Launched) (a : Attempt) (l : Launched) → find_launched ls a ≡ Some l → In l ls × (l.attempt ≡ a)
found-In [] a l e = cc
found-In (m ∷ ls) a l e = by (attempt_eq a m.attempt) refl e (found-In ls a l)
  where
    by : (t : Bool) → attempt_eq a m.attempt ≡ t → (if t then Some m else find_launched ls a) ≡ Some l → (find_launched ls a ≡ Some l → In l ls × (l.attempt ≡ a)) → In l (m ∷ ls) × (l.attempt ≡ a)
    by true q e f = let g : m ≡ l = cc in (inl g, ap (λ (x : Launched). x.attempt) (sym g) ∙ sym (attempt_eq-true a m.attempt q))
    by false q e f = let r = f e in (inr r.0, r.1)

-- kills go to launched containers
kills-fit : (cfg : Config) (u : World) (k : ℕ) (ls : List Launched) → ((l : Launched) → In l ls → IsLaunched cfg u k l × (l.container.app ≡ k)) → Each (EnvelopeFits cfg u) (kills_of ls)
kills-fit cfg u k [] f = tt
kills-fit cfg u k (l ∷ ls) f = let o = f l (inl refl) in
    ((l.attempt, l.incarnation, subst (λ z. IsLaunched cfg u z l) (sym o.1) o.0), kills-fit cfg u k ls (λ m i. f m (inr i)))

wins-fit : (cfg : Config) (u : World) (n : ℕ) (rs : List Record) → Each (EnvelopeFits cfg u) (wins n rs)
wins-fit cfg u n [] = tt
wins-fit cfg u n (ReduceSucceeded a z ∷ rs) = Each-append (EnvelopeFits cfg u) (to_all n (Won a.task a)) _ (all-each (EnvelopeFits cfg u) n _ (λ m. tt)) (wins-fit cfg u n rs)
wins-fit cfg u n (AttemptStarted a m ∷ rs) = wins-fit cfg u n rs
wins-fit cfg u n (MapSucceeded a m i ∷ rs) = wins-fit cfg u n rs
wins-fit cfg u n (AttemptFailed a ∷ rs) = wins-fit cfg u n rs
wins-fit cfg u n (JobUnsuccessful ∷ rs) = wins-fit cfg u n rs

recovery-fit : (cfg : Config) (u : World) (n : ℕ) (p : Phase) (r : Reply) → Each (EnvelopeFits cfg u) (won_by_recovery n p r)
recovery-fit cfg u n (Recovering (w ∷ ws) (Move_from j)) Fine = all-each (EnvelopeFits cfg u) n _ (λ m. tt)
recovery-fit cfg u n p r = tt

outcome-fit : (cfg : Config) (u : World) (n : ℕ) (p q : Phase) → Each (EnvelopeFits cfg u) (outcome_of n p q)
outcome-fit cfg u n (Finished b) q = tt
outcome-fit cfg u n (Opening i) (Finished b) = all-each (EnvelopeFits cfg u) n (Outcome b) (λ m. tt)
outcome-fit cfg u n Setting_up (Finished b) = all-each (EnvelopeFits cfg u) n (Outcome b) (λ m. tt)
outcome-fit cfg u n (Recovering ws at) (Finished b) = all-each (EnvelopeFits cfg u) n (Outcome b) (λ m. tt)
outcome-fit cfg u n Running (Finished b) = all-each (EnvelopeFits cfg u) n (Outcome b) (λ m. tt)
outcome-fit cfg u n (Committing at) (Finished b) = all-each (EnvelopeFits cfg u) n (Outcome b) (λ m. tt)
outcome-fit cfg u n (Failing f) (Finished b) = all-each (EnvelopeFits cfg u) n (Outcome b) (λ m. tt)
outcome-fit cfg u n Stopped (Finished b) = all-each (EnvelopeFits cfg u) n (Outcome b) (λ m. tt)
outcome-fit cfg u n p _ = tt

flush-fit : (cfg : Config) (u : World) (k n : ℕ) (s : Seen) (call : Store) (r : Reply) → ((l : Launched) → In l s.launched → IsLaunched cfg u k l × (l.container.app ≡ k)) → Each (EnvelopeFits cfg u) (flush_sends n s call r)
flush-fit cfg u k n s Flush Fine f = flush-all (EnvelopeFits cfg u) n s s.tail (λ a z i m. tt) (λ as'. kills-fit cfg u k _ (λ l i. f l (all_rivals-In s as' l i)))
flush-fit cfg u k n s call r f = tt

-- a yes is for the one named
answer-fit : (cfg : Config) (u : World) (k : ℕ) (s' : Seen) (a : Attempt) (l : Option Launched) → seen_by cfg u k ≡ s' →
    ((m : Launched) → l ≡ Some m → IsLaunched cfg u k m × (m.container.app ≡ k) × (m.attempt ≡ a)) → Each (EnvelopeFits cfg u) (answer_to l (is_named s' a))
answer-fit cfg u k s' a None e f = tt
answer-fit cfg u k s' a (Some m) e f = (by (is_named s' a) refl, tt)
  where
    fits : IsLaunched cfg u k m × (m.container.app ≡ k) × (m.attempt ≡ a) → is_named s' a ≡ true → PacketFits cfg u (Container m.container) (Answer m.attempt true)
    fits o t = (
      m,
      subst (λ z. IsLaunched cfg u z m) (sym o.1) o.0,
      refl,
      refl,
      inr
          (subst (λ z. named_in (seen_by cfg u z).asked (seen_by cfg u z).ended m.attempt.task ≡ Some m.attempt) (sym o.1)
          (subst (λ (z : Seen). named_in z.asked z.ended m.attempt.task ≡ Some m.attempt) (sym e)
          (subst (λ z. named_in s'.asked s'.ended z.task ≡ Some z) (sym o.2) (named (named_in s'.asked s'.ended a.task) (and_parts (is_reduce a) (is_attempt (named_in s'.asked s'.ended a.task) a) t).1)))),
      subst (λ z. (is_reduce z) ≡ true) (sym o.2) (and_parts (is_reduce a) (is_attempt (named_in s'.asked s'.ended a.task) a) t).0,
    )
      where
        named : (n : Option Attempt) → is_attempt n a ≡ true → n ≡ Some a
        named None t = absurd (false≢true t)
        named (Some b) t = ap Some (sym (attempt_eq-true a b t))

    by : (t : Bool) → is_named s' a ≡ t → PacketFits cfg u (Container m.container) (Answer m.attempt t)
    by true t = fits (f m refl) t
    by false t = tt

replies-fit : (cfg : Config) (u : World) (k : ℕ) (s s' : Seen) (p : Packet) → seen_by cfg u k ≡ s' →
    ((l : Launched) → In l s.launched → IsLaunched cfg u k l × (l.container.app ≡ k)) → Each (EnvelopeFits cfg u) (replies s s' p)
replies-fit cfg u k s s' (Packet.Pending a) e f = answer-fit cfg u k s' a _ e (λ m q. let o = found-In s.launched a m q in let r = f m o.0 in (r.0, r.1, o.1))
replies-fit cfg u k s s' (Packet.Poll a) e f = answer-fit cfg u k s' a _ e (λ m q. let o = found-In s.launched a m q in let r = f m o.0 in (r.0, r.1, o.1))
replies-fit cfg u k s s' (Packet.Done a z) e f = if_cases (Each (EnvelopeFits cfg u)) (may_accept s a || has s.accepted a) _ _ (λ t. ack (find_launched s.launched a)) (λ t. tt)
  where
    ack : (l : Option Launched) → Each (EnvelopeFits cfg u) (ack_to l a)
    ack None = tt
    ack (Some l) = (tt, tt)
replies-fit cfg u k s s' (Packet.Failed a) e f = if_cases (Each (EnvelopeFits cfg u)) (is_failing s'.phase) _ _ (λ t. kills-fit cfg u k _ (λ l i. f l (live-In s' s.launched l (order-In _ l i)))) (λ t. tt)
replies-fit cfg u k s s' (Packet.Ended c) e f = if_cases (Each (EnvelopeFits cfg u)) (is_failing s'.phase) _ _ (λ t. kills-fit cfg u k _ (λ l i. f l (live-In s' s.launched l (order-In _ l i)))) (λ t. tt)
replies-fit cfg u k s s' (Packet.Where c m) e f = put (if_ours (find_container s.launched c) (stands s.standing m))
  where
    put : (p : Option Placed) → Each (EnvelopeFits cfg u) (ready c m s.recorded p)
    put None = tt
    put (Some p) = if_cases (Each (EnvelopeFits cfg u)) (has s.recorded p.attempt) _ _ (λ t. (tt, tt)) (λ t. tt)
replies-fit cfg u k s s' _ e f = tt

-- the kill of an attempt that was barred
bar-fit : (cfg : Config) (u : World) (k : ℕ) (s : Seen) (call : Store) (r : Reply) → ((l : Launched) → In l s.launched → IsLaunched cfg u k l × (l.container.app ≡ k)) → Each (EnvelopeFits cfg u) (bar_sends s call r)
bar-fit cfg u k s (Names op) Fine f = by (bar_of op)
  where
    to : (a : Attempt) (l : Option Launched) → find_launched s.launched a ≡ l → Each (EnvelopeFits cfg u) (kill_to l)
    to a None e = tt
    to a (Some l) e = kills-fit cfg u k (l ∷ []) (λ m i. f m (one m i))
      where
        one : (m : Launched) → In m (l ∷ []) → In m s.launched
        one m (inl q) = subst (λ z. In z s.launched) q (found-In s.launched a l e).0
        one m (inr i) = absurd i

    by : (m : Option Attempt) → Each (EnvelopeFits cfg u) (bar_kill s m)
    by None = tt
    by (Some a) = to a (find_launched s.launched a) refl
bar-fit cfg u k s call r f = tt

-- what a master's step sends
step-fit : (cfg : Config) (u : World) (k : ℕ) (s : Seen) (x : Master_step) → seen_by cfg u k ≡ next_seen cfg k s x →
    ((l : Launched) → In l s.launched → IsLaunched cfg u k l × (l.container.app ≡ k)) → ((l : Launched) → x ≡ Launches l → IsLaunched cfg u l.container.app l) →
    Each (EnvelopeFits cfg u) (step_sends cfg s (next_seen cfg k s x) x)
step-fit cfg u k s (Came p) e f g = if_cases (Each (EnvelopeFits cfg u)) (is_running s.phase) _ _ (λ t. replies-fit cfg u k s (next_seen cfg k s (Came p)) p e f) (λ t. tt)
step-fit cfg u k s (Launches l) e f g = (g l refl, tt)
step-fit cfg u k s (Expires n) e f g = kills-fit cfg u k _ (λ l i. f l (on-In s false n s.launched l (order-In _ l i)))
step-fit cfg u k s (Asks call r) e f g = Each-append (EnvelopeFits cfg u) (won_by_recovery cfg.nodes s.phase r) _ (recovery-fit cfg u cfg.nodes s.phase r)
    (Each-append (EnvelopeFits cfg u) (flush_sends cfg.nodes s call r) _ (flush-fit cfg u k cfg.nodes s call r f) (Each-append (EnvelopeFits cfg u) (bar_sends s call r) _ (bar-fit cfg u k s call r f) (outcome-fit cfg u cfg.nodes _ _)))

-- The events

seen-own : (cfg : Config) (w : World) (e : Event) (a : Master_act) → master_act cfg w e ≡ Some a → seen_by cfg (effect cfg w e) a.who ≡ next_seen cfg a.who (seen_by cfg w a.who) a.step
unfolding seen
seen-own cfg w e a q = rw (q, eq-eqb a.who a.who refl) refl

launches-In : (cfg : Config) (k : ℕ) (s : Seen) (l : Launched) → In l (next_seen cfg k s (Launches l)).launched
unfolding next_seen
launches-In cfg k s l = inl refl

own-app : (cfg : Config) (w : World) (e : Event) (a : Master_act) → master_act cfg w e ≡ Some a → (l : Launched) → a.step ≡ Launches l → a.who ≡ l.container.app
own-app cfg w e a q l r = let n = subst (StepFits cfg w a.who) r (step-fits cfg w e a q) in ap (λ (x : Launched). x.container.app) n.2

sends-fit : (cfg : Config) (w : World) (e : Event) → Cluster cfg w → Each (EnvelopeFits cfg (effect cfg w e)) (master_sends cfg w (master_act cfg w e))
sends-fit cfg w e h = by (master_act cfg w e) refl
  where
    by : (o : Option Master_act) → master_act cfg w e ≡ o → Each (EnvelopeFits cfg (effect cfg w e)) (master_sends cfg w o)
    by None q = tt
    by (Some a) q = step-fit cfg (effect cfg w e) a.who (seen_by cfg w a.who) a.step (seen-own cfg w e a q)
        (λ l i. (launched_after cfg w e a.who l i, (h.distinct a.who).apps l i))
        (λ l r. subst (λ z. IsLaunched cfg (effect cfg w e) z l) (own-app cfg w e a q l r)
        (subst (λ (z : Seen). In l z.launched) (sym (seen-own cfg w e a q)) (subst (λ x. In l (next_seen cfg a.who (seen_by cfg w a.who) x).launched) (sym r) (launches-In cfg a.who (seen_by cfg w a.who) l))))

-- a container's own end
own-end-fit : (cfg : Config) (w : World) (e : Event) (o : Option Container_act) → Cluster cfg w →
    ((a : Container_act) → o ≡ Some a → (w.is_alive a.who ≡ true) × (is_over_by cfg w a ≡ true → ends cfg w e a.who ≡ true)) → Each (EnvelopeFits cfg (effect cfg w e)) (own_end cfg w e o)
own-end-fit cfg w e None h f = tt
own-end-fit cfg w e (Some a) h f = by (is_over_by cfg w a) refl
  where
    by : (t : Bool) → is_over_by cfg w a ≡ t → Each (EnvelopeFits cfg (effect cfg w e)) (said_ended t a.who)
    by true q = let r = f a refl in (ended-fits cfg w e h a.who r.0 (r.1 q), tt)
    by false q = tt

-- what a node answers
node-fit : (cfg : Config) (w : World) (e : Event) → Cluster cfg w → (n : ℕ) (p : Packet) → In (to_node n p) w.bag →
    ((c : ContainerId) → p ≡ Kill c → (ends cfg w e c ≡ true) × (is_known (node_past_after w e n) c ≡ true)) → Each (EnvelopeFits cfg (effect cfg w e)) (node_replies cfg w n p)
node-fit cfg w e h n (Packet.Launch c a i) j f = if_cases (Each (EnvelopeFits cfg (effect cfg w e))) (not (is_known (w.node_past n) c) && not (nat_eq i (incarnation_of (w.node_past n)))) _ _
    (λ t. (incarnation_after w e n, tt)) (λ t. tt)
node-fit cfg w e h n (Packet.Kill c) j f = let r = f c refl in (killed-fits cfg w e h n c j r.0 r.1, tt)
node-fit cfg w e h n (Packet.Fetch c a r i off) j f = if_cases (Each (EnvelopeFits cfg (effect cfg w e))) (nat_eq i (incarnation_of (w.node_past n))) _ _ (λ t. piece (block_there cfg.reduces (on_shelf (w.node_past n) a) r)) (λ t. (tt, tt))
  where
    piece : (o : Option (List ℕ)) → Each (EnvelopeFits cfg (effect cfg w e)) (piece_of c a r off o)
    piece None = (tt, tt)
    piece (Some block) = if_cases (Each (EnvelopeFits cfg (effect cfg w e))) (nat_le off (length block)) _ _ (λ t. (tt, tt)) (λ t. (tt, tt))
node-fit cfg w e h n _ j f = tt

kill-ends : (cfg : Config) (w : World) (i n : ℕ) (c : ContainerId) → slice_get w.bag i ≡ Some (to_node n (Kill c)) → (ends cfg w (Deliver i) c ≡ true) × (is_known (node_past_after w (Deliver i) n) c ≡ true)
unfolding ends node_past_after is_known
kill-ends cfg w i n c q = (rw (q, container_eq-refl c) refl, rw (q, eq-eqb n n refl, container_eq-refl c) refl)

node-deliver : (cfg : Config) (w : World) (i : ℕ) → Cluster cfg w → Each (EnvelopeFits cfg (effect cfg w (Deliver i))) (node_sends cfg w (slice_get w.bag i))
node-deliver cfg w i h = by (slice_get w.bag i) refl
  where
    by : (o : Option Envelope) → slice_get w.bag i ≡ o → Each (EnvelopeFits cfg (effect cfg w (Deliver i))) (node_sends cfg w o)
    by None q = tt
    by (Some v) q = to v.to v.body q
      where
        to : (x : Address) (p : Packet) → slice_get w.bag i ≡ Some (record { to = x; body = p }) → Each (EnvelopeFits cfg (effect cfg w (Deliver i))) (node_sends cfg w (Some (record { to = x; body = p })))
        to (Master k) p q = tt
        to (Container c) p q = tt
        to (Node n) p q = node-fit cfg w (Deliver i) h n p (slice_get-In w.bag i _ q) (λ c r. kill-ends cfg w i n c (q ∙ ap (λ z. Some (to_node n z)) r))

pub got-alive : (cfg : Config) (w : World) (o : Option Envelope) → addressee w o ≡ None → (a : Container_act) → got_act o ≡ Some a → w.is_alive a.who ≡ true
got-alive cfg w None n a q = cc
got-alive cfg w (Some v) n a q = to v.to v.body n q
  where
    to : (x : Address) (p : Packet) → addressee w (Some (record { to = x; body = p })) ≡ None → got_act (Some (record { to = x; body = p })) ≡ Some a → w.is_alive a.who ≡ true
    to (Master k) p n q = cc
    to (Container c) p n q = let f : record { who = c; step = Got p } ≡ a = cc in subst (λ (z : Container_act). w.is_alive z.who ≡ true) f (unless_parts _ _ _ n).0
    to (Node m) p n q = cc

deliver-over : (cfg : Config) (w : World) (i : ℕ) (a : Container_act) → container_act cfg w (Deliver i) ≡ Some a → is_over_by cfg w a ≡ true → ends cfg w (Deliver i) a.who ≡ true
unfolding ends
deliver-over cfg w i a q t = rw (q, container_eq-refl a.who, t) (or (kills w (slice_get w.bag i) a.who))
  where
    or : (b : Bool) → (b || true) ≡ true
    or true = refl
    or false = refl

step-over : (cfg : Config) (w : World) (c : ContainerId) (f : Weather) (a : Container_act) → container_act cfg w (ContainerStep c f) ≡ Some a → is_over_by cfg w a ≡ true → ends cfg w (ContainerStep c f) a.who ≡ true
unfolding ends
step-over cfg w c f a q t = rw (q, container_eq-refl a.who, t) refl

pub deliver-alive : (cfg : Config) (w : World) (i : ℕ) (a : Container_act) → container_act cfg w (Deliver i) ≡ Some a → addressee w (slice_get w.bag i) ≡ None → w.is_alive a.who ≡ true
unfolding container_act
deliver-alive cfg w i a q n = got-alive cfg w (slice_get w.bag i) n a q

step-who : (w : World) (c : ContainerId) (f : Weather) (o : Option Op) (p : Option Envelope) (a : Container_act) → step_act w c f o p ≡ Some a → a.who ≡ c
step-who w c f (Some op) p a q = cc
step-who w c f None (Some e) a q = cc
step-who w c f None None a q = cc

pub step-is : (cfg : Config) (w : World) (c : ContainerId) (f : Weather) (a : Container_act) → container_act cfg w (ContainerStep c f) ≡ Some a → a.who ≡ c
unfolding container_act
step-is cfg w c f a q = step-who w c f (op_of cfg w c) (packet_of cfg w c) a q

masters-fit : (cfg : Config) (u : World) (g : ℕ → Bool) (k n i : ℕ) → i ≤ incarnation_of (u.node_past n) → Each (EnvelopeFits cfg u) (to_masters g k (NodeUp n i))
unfolding to_masters
masters-fit cfg u g zero n i l = tt
masters-fit cfg u g (suc k) n i l = Each-append (EnvelopeFits cfg u) (to_masters g k (NodeUp n i)) _ (masters-fit cfg u g k n i l) (if_cases (Each (EnvelopeFits cfg u)) (g (suc k)) _ _ (λ t. (l, tt)) (λ t. tt))

restart-incarnation : (w : World) (n : ℕ) → suc (incarnation_of (w.node_past n)) ≤ incarnation_of (node_past_after w (NodeRestart n) n)
unfolding node_past_after incarnation_of
restart-incarnation w n = rw (eq-eqb n n refl) (omega arith)

-- what a container sends: its one failure ends it
fail-ends : (cfg : Config) (w : World) (c : ContainerId) (f : Weather) (p : Place) → w.place c ≡ Some p → wish (length cfg.splits) p.attempt (w.container_past c) ≡ To_fail → ends cfg w (ContainerStep c f) c ≡ true
unfolding ends container_act next_wish wished_op wished_packet
fail-ends cfg w c f p e v = rw (e, v, container_eq-refl c, e, wish-step (length cfg.splits) p.attempt (w.container_past c) (Sent (Failed p.attempt)), v) refl

wished-fit : (cfg : Config) (w : World) (c : ContainerId) (f : Weather) → Cluster cfg w → w.is_alive c ≡ true → Each (EnvelopeFits cfg (effect cfg w (ContainerStep c f))) (some_packet (op_of cfg w c) (packet_of cfg w c))
unfolding wished_op wished_packet
wished-fit cfg w c f h a = by (w.place c) refl
  where
    u : World
    u = effect cfg w (ContainerStep c f)

    failed : (p : Place) → w.place c ≡ Some p → wish (length cfg.splits) p.attempt (w.container_past c) ≡ To_fail → EnvelopeFits cfg u (to_app c.app (Failed p.attempt))
    failed p e v = let g = gone_now cfg w (ContainerStep c f) h c a (fail-ends cfg w c f p e v) in let same : g.0 ≡ p = cc (g.1, e) in
        (launched_as c g.0.attempt g.0.node g.0.incarnation, g.2, ap (λ (z : Place). z.attempt) same, g.3)

    wishes : (p : Place) (v : Wish) → w.place c ≡ Some p → wish (length cfg.splits) p.attempt (w.container_past c) ≡ v → Each (EnvelopeFits cfg u) (some_packet (wished_op c.app p.attempt (computed (w.container_past c)) v) (wished_packet c p.attempt (computed (w.container_past c)) v))
    wishes p To_fail e q = (failed p e q, tt)
    wishes p (Wish.To_ask_where m) e q = (tt, tt)
    wishes p (Wish.To_fetch m b n i got) e q = (tt, tt)
    wishes p (Wish.To_say_lost m b) e q = (tt, tt)
    wishes p Wish.To_pend e q = (tt, tt)
    wishes p Wish.To_poll e q = (tt, tt)
    wishes p Wish.To_report e q = (tt, tt)
    wishes p _ e q = tt

    by : (o : Option Place) → w.place c ≡ o → Each (EnvelopeFits cfg u) (some_packet (op_at cfg c o (w.container_past c)) (packet_at cfg c o (w.container_past c)))
    by None q = tt
    by (Some p) q = wishes p _ q refl

die-ends : (cfg : Config) (w : World) (c : ContainerId) → ends cfg w (Die c) c ≡ true
unfolding ends
die-ends cfg w c = container_eq-refl c

pub sent-fits : (cfg : Config) (w : World) (e : Event) → Cluster cfg w → not_now cfg w e ≡ None → Each (EnvelopeFits cfg (effect cfg w e)) (sent cfg w e)
unfolding sent not_now
sent-fits cfg w (Start k kept) h n = tt
sent-fits cfg w (Crash k kept) h n = tt
sent-fits cfg w (Duty k f) h n = sends-fit cfg w (Duty k f) h
sent-fits cfg w (LaunchOn k t m) h n = sends-fit cfg w (LaunchOn k t m) h
sent-fits cfg w (Expire k m) h n = sends-fit cfg w (Expire k m) h
sent-fits cfg w (Deliver i) h n = Each-append (EnvelopeFits cfg (effect cfg w (Deliver i))) (master_sends cfg w (master_act cfg w (Deliver i))) _ (sends-fit cfg w (Deliver i) h)
    (Each-append (EnvelopeFits cfg (effect cfg w (Deliver i))) (node_sends cfg w (slice_get w.bag i)) _ (node-deliver cfg w i h)
    (own-end-fit cfg w (Deliver i) (container_act cfg w (Deliver i)) h (λ a q. (alive i a q n, deliver-over cfg w i a q))))
  where
    alive : (i : ℕ) (a : Container_act) → container_act cfg w (Deliver i) ≡ Some a → addressee w (slice_get w.bag i) ≡ None → w.is_alive a.who ≡ true
    alive i a q n = deliver-alive cfg w i a q n
sent-fits cfg w (ContainerStep c f) h n = Each-append (EnvelopeFits cfg (effect cfg w (ContainerStep c f))) (some_packet (op_of cfg w c) (packet_of cfg w c)) _
    (wished-fit cfg w c f h (unless_parts _ _ _ n).0)
    (own-end-fit cfg w (ContainerStep c f) (container_act cfg w (ContainerStep c f)) h
    (λ a q. (subst (λ z. w.is_alive z ≡ true) (sym (step-is cfg w c f a q)) (unless_parts _ _ _ n).0, step-over cfg w c f a q)))
sent-fits cfg w (Compute c b) h n = tt
sent-fits cfg w (Die c) h n = (ended-fits cfg w (Die c) h c (unless_parts _ _ _ n).0 (die-ends cfg w c), tt)
sent-fits cfg w (NodeRestart m) h n = masters-fit cfg (effect cfg w (NodeRestart m)) w.is_master w.fence m _ (restart-incarnation w m)

-- each event keeps it
pub cluster : (cfg : Config) (w : World) (e : Event) → Cluster cfg w → not_now cfg w e ≡ None → Cluster cfg (effect cfg w e)
cluster cfg w e h n = record {
  distinct = distinct_after cfg w e h;
  packets = Each-append (EnvelopeFits cfg (effect cfg w e)) w.bag _ (packets_after cfg w e h w.bag h.packets) (sent-fits cfg w e h n);
  places = places_after cfg w e h;
  alive = alive_after cfg w e h;
  over = over_after cfg w e h;
}

pub opening-cluster : (cfg : Config) → Cluster cfg opening_world
unfolding seen
opening-cluster cfg = record {
  distinct = λ k. record { apps = λ l i. absurd i; numbers = λ l i. absurd i; counts = λ l i. absurd i; containers = λ l m i. absurd i; attempts = λ l m i. absurd i };
  packets = tt;
  places = λ c p e. cc;
  alive = λ c e. absurd (false≢true e);
  over = λ k a r e. absurd (false≢true e);
}

-- over every list of events: of one master's containers for one reduce, at most one that lives was sent a yes
pub one_yes_always : (cfg : Config) (within : Limits) → OneContainerWasToldYes cfg within
one_yes_always cfg within es = one_yes cfg (world_of cfg within es) (along (Cluster cfg) cfg within (cluster cfg) opening_world es (opening-cluster cfg))
