-- What lies on shelves and what packets carry, over a faithful list: a shelf has the definition's outputs, a piece is of the definition's block.
use Rattle.std.proofs.Common.{ℕ, zero, suc, ◌≤◌, ◌<◌, ◌≡◌, refl, sym, ◌∙◌, ap, subst, Bool, true, false, ◌&&◌, ◌||◌, not, List, [], ◌∷◌, Option, Some, None, if◌then◌else◌, nat_eq, nat_le, arith, slice_get, length}
use Rattle.std.specs.Option.{option_map, option_and_then}
use Rattle.std.proofs.lemmas.Option.{slice_get_within}
use Rattle.std.proofs.lemmas.Bool.{and_parts, eqb-true, not-true}
use Rattle.mr_world_model.specs.Ids.{Attempt, ContainerId, attempt_eq, is_reduce}
use Rattle.mr_mapside.specs.Cutting.{cut, first_block}
use Rattle.mr_world_model.specs.Content.{bar_of}
use Rattle.mr_world_model.specs.Packets.{Config, Packet, Store, Names, Reply, Flush, Fine, Envelope, Master, Container, Node, Address, Outcome, NodeUp}
use Rattle.mr_world_model.specs.Pasts.{is_known, incarnation_of, on_shelf, wished_packet, wished_op, Wish, Place, computed, Node_step, Shelved}
use Rattle.mr_world_model.specs.Hearing.{Seen, Phase, Opening, Setting_up, Running, Committing, Failing, Finished, Stopped, Recovering, Move_from, Launched, Placed, find_launched, is_running, may_accept, has, stands, find_container}
use Rattle.mr_world_model.specs.Duties.{Master_step, Came, Launches, Expires, Asks, next_seen}
use Rattle.mr_world_model.specs.World.{World, Event, Start, Crash, Duty, LaunchOn, Deliver, ContainerStep, Compute, Die, NodeRestart, Expire, Master_act, Container_act, master_act, seen_by, op_of, packet_of, packet_at, op_at, block_there, block_at}
use Rattle.mr_world_model.specs.Sending.{bar_sends, bar_kill, kill_to, sent, master_sends, step_sends, won_by_recovery, flush_sends, outcome_of, kills_of, replies, answer_to, ack_to, ready, is_failing, node_sends, node_replies, piece_of, own_end, said_ended, some_packet, to_masters, if_ours}
use Rattle.mr_world_model.specs.Effect.{node_past_after, got_at_node, shelved, effect}
use Rattle.mr_world_model.specs.Sequential.{Job, JobLaws, most_output}
use Rattle.mr_world_model.specs.Claims.{In}
use Rattle.mr_world_model.proofs.Basic.{if_cases}
use Rattle.mr_world_model.proofs.Lists.{Each, Each-append, Each-In, attempt_eq-true}
use Rattle.mr_world_model.proofs.Cluster.{Cluster, slice_get-In}
use Rattle.mr_world_model.proofs.Reports.{place_kept}
use Rattle.mr_world_model.proofs.Won.{all-each, flush-all}
use Rattle.mr_world_model.proofs.Fetching.{IsBlock, IsPiece, Arrives}

-- the definition's output of map m
pub record IsOutput (job : Job) (cfg : Config) (m : ℕ) (bytes : List ℕ) : Type 0 where
  pub split : List ℕ
  pub of_map : slice_get cfg.splits m ≡ Some split
  pub is : job.output cfg.reduces m split ≡ Some bytes
  pub short : length bytes ≤ most_output

abbrev pub ShelfFits : Job → Config → List Node_step → Type 0
ShelfFits job cfg h = (a : Attempt) (bytes : List ℕ) → on_shelf h a ≡ Some bytes → IsOutput job cfg a.task.number bytes

pub nothing-fits : (job : Job) (cfg : Config) → ShelfFits job cfg []
unfolding on_shelf
nothing-fits job cfg a bytes e = cc

-- what a map's container hands in
abbrev pub HandsIn : Job → Config → World → Event → Type 0
HandsIn job cfg w e = (c : ContainerId) (bytes : List ℕ) (p : Place) → e ≡ Compute c bytes → w.place c ≡ Some p → is_reduce p.attempt ≡ false → IsOutput job cfg p.attempt.task.number bytes

put-fits : (job : Job) (cfg : Config) (h : List Node_step) (b : Attempt) (bytes : List ℕ) → IsOutput job cfg b.task.number bytes → ShelfFits job cfg h → ShelfFits job cfg (Shelved b bytes ∷ h)
unfolding on_shelf
put-fits job cfg h b bytes o f a x = by (attempt_eq a b) refl
  where
    by : (t : Bool) → attempt_eq a b ≡ t → (if t then Some bytes else on_shelf h a) ≡ Some x → IsOutput job cfg a.task.number x
    by true t e = let y : bytes ≡ x = cc in subst (λ z. IsOutput job cfg a.task.number z) y (subst (λ (z : Attempt). IsOutput job cfg z.task.number bytes) (sym (attempt_eq-true a b t)) o)
    by false t e = f a x e

pub shelf_after : (job : Job) (cfg : Config) (w : World) (e : Event) (n : ℕ) → HandsIn job cfg w e → ShelfFits job cfg (w.node_past n) → ShelfFits job cfg (node_past_after w e n)
unfolding node_past_after on_shelf
shelf_after job cfg w (Deliver i) n d f = got (slice_get w.bag i)
  where
    got : (o : Option Envelope) → ShelfFits job cfg (got_at_node o n (w.node_past n))
    got None = f
    got (Some v) = to v.to v.body
      where
        to : (x : Address) (p : Packet) → ShelfFits job cfg (got_at_node (Some (record { to = x; body = p })) n (w.node_past n))
        to (Master m) p = f
        to (Container c) p = f
        to (Node m) p = if_cases (ShelfFits job cfg) (nat_eq n m) _ _ (λ t. f) (λ t. f)
shelf_after job cfg w (Compute c b) n d f = put (w.place c) refl
  where
    put : (o : Option Place) → w.place c ≡ o → ShelfFits job cfg (shelved o b n (w.node_past n))
    put None q = f
    put (Some p) q = if_cases (ShelfFits job cfg) (not (is_reduce p.attempt) && nat_eq n p.node) _ _
        (λ t. put-fits job cfg (w.node_past n) p.attempt b (d c b p refl q (not-true _ (and_parts _ _ t).0)) f) (λ t. f)
shelf_after job cfg w (NodeRestart m) n d f = if_cases (ShelfFits job cfg) (nat_eq n m) _ _ (λ t a x e. cc) (λ t. f)
shelf_after job cfg w (Start j kept) n d f = f
shelf_after job cfg w (Crash j kept) n d f = f
shelf_after job cfg w (Duty j g) n d f = f
shelf_after job cfg w (LaunchOn j t m) n d f = f
shelf_after job cfg w (ContainerStep c g) n d f = f
shelf_after job cfg w (Die c) n d f = f
shelf_after job cfg w (Expire j m) n d f = f

-- so many blocks are cut
cut-many : (count : ℕ) (bytes : List ℕ) (blocks : List (List ℕ)) → cut count bytes ≡ Some blocks → length blocks ≡ count
cut-many zero [] blocks e = let f : [] ≡ blocks = cc in rw (← f) refl
cut-many zero (b ∷ bytes) blocks e = cc
cut-many (suc count) bytes blocks e = by (first_block bytes) e (λ rest. cut-many count rest)
  where
    by : (o : Option (List ℕ × List ℕ)) → option_and_then (λ found. option_map (λ blocks. found.0 ∷ blocks) (cut count found.1)) o ≡ Some blocks →
        ((rest : List ℕ) (more : List (List ℕ)) → cut count rest ≡ Some more → length more ≡ count) → length blocks ≡ suc count
    by None e f = cc
    by (Some found) e f = at (cut count found.1) refl e
      where
        at : (o : Option (List (List ℕ))) → cut count found.1 ≡ o → option_map (λ blocks. found.0 ∷ blocks) o ≡ Some blocks → length blocks ≡ suc count
        at None q e = cc
        at (Some more) q e = let g : found.0 ∷ more ≡ blocks = cc in let l = f found.1 more q in rw (← g) (ap suc l)

-- the block that is found on a shelf is the definition's
there-block : (job : Job) (cfg : Config) → JobLaws job cfg → (m r : ℕ) (o : Option (List ℕ)) (block : List ℕ) → ((bytes : List ℕ) → o ≡ Some bytes → IsOutput job cfg m bytes) →
    block_there cfg.reduces o r ≡ Some block → IsBlock job cfg m r block
there-block job cfg laws m r None block f e = cc
there-block job cfg laws m r (Some bytes) block f e = by (f bytes refl)
  where
    by : IsOutput job cfg m bytes → IsBlock job cfg m r block
    by x = at (laws.output_is_its_blocks m x.split bytes x.is x.short)
      where
        at : ((blocks : List (List ℕ)) × (cut cfg.reduces bytes ≡ Some blocks) × ((r : ℕ) → r < cfg.reduces → job.block cfg.reduces r m x.split ≡ slice_get blocks r)) → IsBlock job cfg m r block
        at y =
            let g : slice_get y.0 r ≡ Some block = subst (λ z. block_at z r ≡ Some block) y.1 e in
            let s = slice_get_within y.0 r block g in let n = cut-many cfg.reduces bytes y.0 y.1 in
            record { split = x.split; of_map = x.of_map; is = y.2 r (omega arith) ∙ g }

-- What is sent

-- a container runs an attempt of reduce r
abbrev pub IsFor : World → ContainerId → ℕ → Type 0
IsFor w c r = (p : Place) × (w.place c ≡ Some p) × (p.attempt.task.number ≡ r)

-- what is so once a packet was sent
abbrev pub BodyFits : Job → Config → World → Address → Packet → Type 0
BodyFits job cfg w x (Packet.Piece a r o total bytes) = IsPiece job cfg a r o total bytes × ((c : ContainerId) → x ≡ Container c → IsFor w c r)
BodyFits job cfg w x (Packet.MapReady m a n i) = a.task.number ≡ m
BodyFits job cfg w x (Packet.Fetch c a r i o) = IsFor w c r
BodyFits job cfg w x _ = Unit {0}

abbrev pub EnvelopeCarries : Job → Config → World → Envelope → Type 0
EnvelopeCarries job cfg w v = BodyFits job cfg w v.to v.body

for_after : (cfg : Config) (w : World) (e : Event) → Cluster cfg w → (c : ContainerId) (r : ℕ) → IsFor w c r → IsFor (effect cfg w e) c r
for_after cfg w e h c r o = (o.0, place_kept cfg w e h c o.0 o.1, o.2)

body_after : (job : Job) (cfg : Config) (w : World) (e : Event) → Cluster cfg w → (x : Address) (p : Packet) → BodyFits job cfg w x p → BodyFits job cfg (effect cfg w e) x p
body_after job cfg w e h x (Packet.Piece a r o total bytes) f = (f.0, λ c q. for_after cfg w e h c r (f.1 c q))
body_after job cfg w e h x (Packet.MapReady m a n i) f = f
body_after job cfg w e h x (Packet.Fetch c a r i o) f = for_after cfg w e h c r f
body_after job cfg w e h x _ f = tt

pub bag_after : (job : Job) (cfg : Config) (w : World) (e : Event) → Cluster cfg w → (vs : List Envelope) → Each (EnvelopeCarries job cfg w) vs → Each (EnvelopeCarries job cfg (effect cfg w e)) vs
bag_after job cfg w e h [] o = tt
bag_after job cfg w e h (v ∷ vs) o = (body_after job cfg w e h v.to v.body o.0, bag_after job cfg w e h vs o.1)

-- what comes to a container that runs p
pub arrives : (job : Job) (cfg : Config) (w : World) (c : ContainerId) (p : Place) → w.place c ≡ Some p → (b : Packet) → BodyFits job cfg w (Container c) b → Arrives job cfg p.attempt b
arrives job cfg w c p q (Packet.Piece a r o total bytes) f = (f.0, by (f.1 c refl))
  where
    by : IsFor w c r → r ≡ p.attempt.task.number
    by x = let s : x.0 ≡ p = cc (x.1, q) in sym x.2 ∙ ap (λ (z : Place). z.attempt.task.number) s
arrives job cfg w c p q (Packet.MapReady m a n i) f = f
arrives job cfg w c p q _ f = tt

-- u is the world after
module _ (job : Job) (cfg : Config) (u : World) where
  answer-carries : (l : Option Launched) (b : Bool) → Each (EnvelopeCarries job cfg u) (answer_to l b)
  answer-carries None b = tt
  answer-carries (Some l) b = (tt, tt)

  ack-carries : (l : Option Launched) (a : Attempt) → Each (EnvelopeCarries job cfg u) (ack_to l a)
  ack-carries None a = tt
  ack-carries (Some l) a = (tt, tt)

  kills-carry : (ls : List Launched) → Each (EnvelopeCarries job cfg u) (kills_of ls)
  kills-carry [] = tt
  kills-carry (l ∷ ls) = (tt, kills-carry ls)

  stands-of : (ps : List Placed) (m : ℕ) (p : Placed) → stands ps m ≡ Some p → p.attempt.task.number ≡ m
  stands-of [] m p e = cc
  stands-of (q ∷ ps) m p e = by (nat_eq q.attempt.task.number m) refl e (stands-of ps m p)
    where
      by : (t : Bool) → nat_eq q.attempt.task.number m ≡ t → (if t then Some q else stands ps m) ≡ Some p → (stands ps m ≡ Some p → p.attempt.task.number ≡ m) → p.attempt.task.number ≡ m
      by true t e f = let g : q ≡ p = cc in subst (λ (z : Placed). z.attempt.task.number ≡ m) g (eqb-true q.attempt.task.number m t)
      by false t e f = f e

  ready-carries : (c : ContainerId) (m : ℕ) (rs : List Attempt) (ps : List Placed) → Each (EnvelopeCarries job cfg u) (ready c m rs (stands ps m))
  ready-carries c m rs ps = by (stands ps m) refl
    where
      by : (o : Option Placed) → stands ps m ≡ o → Each (EnvelopeCarries job cfg u) (ready c m rs o)
      by None q = tt
      by (Some p) q = if_cases (Each (EnvelopeCarries job cfg u)) (has rs p.attempt) _ _ (λ t. (stands-of ps m p q, tt)) (λ t. tt)

  replies-carry : (s s' : Seen) (p : Packet) → Each (EnvelopeCarries job cfg u) (replies s s' p)
  replies-carry s s' (Packet.Pending a) = answer-carries _ _
  replies-carry s s' (Packet.Poll a) = answer-carries _ _
  replies-carry s s' (Packet.Done a z) = if_cases (Each (EnvelopeCarries job cfg u)) (may_accept s a || has s.accepted a) _ _ (λ t. ack-carries _ a) (λ t. tt)
  replies-carry s s' (Packet.Failed a) = if_cases (Each (EnvelopeCarries job cfg u)) (is_failing s'.phase) _ _ (λ t. kills-carry _) (λ t. tt)
  replies-carry s s' (Packet.Ended c) = if_cases (Each (EnvelopeCarries job cfg u)) (is_failing s'.phase) _ _ (λ t. kills-carry _) (λ t. tt)
  replies-carry s s' (Packet.Where c m) = ours (find_container s.launched c)
    where
      ours : (l : Option Launched) → Each (EnvelopeCarries job cfg u) (ready c m s.recorded (if_ours l (stands s.standing m)))
      ours None = tt
      ours (Some l) = ready-carries c m s.recorded s.standing
  replies-carry s s' _ = tt

  outcome-carries : (n : ℕ) (p q : Phase) → Each (EnvelopeCarries job cfg u) (outcome_of n p q)
  outcome-carries n (Finished b) q = tt
  outcome-carries n (Opening i) (Finished b) = all-each (EnvelopeCarries job cfg u) n (Outcome b) (λ m. tt)
  outcome-carries n Setting_up (Finished b) = all-each (EnvelopeCarries job cfg u) n (Outcome b) (λ m. tt)
  outcome-carries n (Recovering ws at) (Finished b) = all-each (EnvelopeCarries job cfg u) n (Outcome b) (λ m. tt)
  outcome-carries n Running (Finished b) = all-each (EnvelopeCarries job cfg u) n (Outcome b) (λ m. tt)
  outcome-carries n (Committing at) (Finished b) = all-each (EnvelopeCarries job cfg u) n (Outcome b) (λ m. tt)
  outcome-carries n (Failing g) (Finished b) = all-each (EnvelopeCarries job cfg u) n (Outcome b) (λ m. tt)
  outcome-carries n Stopped (Finished b) = all-each (EnvelopeCarries job cfg u) n (Outcome b) (λ m. tt)
  outcome-carries n p _ = tt

  recovery-carries : (n : ℕ) (p : Phase) (r : Reply) → Each (EnvelopeCarries job cfg u) (won_by_recovery n p r)
  recovery-carries n (Recovering (x ∷ todo) (Move_from j)) Fine = all-each (EnvelopeCarries job cfg u) n _ (λ m. tt)
  recovery-carries n p r = tt

  flush-carries : (n : ℕ) (s : Seen) (call : Store) (r : Reply) → Each (EnvelopeCarries job cfg u) (flush_sends n s call r)
  flush-carries n s Flush Fine = flush-all (EnvelopeCarries job cfg u) n s s.tail (λ a z i m. tt) (λ as'. kills-carry _)
  flush-carries n s call r = tt

  bar-carries : (s : Seen) (call : Store) (r : Reply) → Each (EnvelopeCarries job cfg u) (bar_sends s call r)
  bar-carries s (Names op) Fine = by (bar_of op)
    where
      to : (l : Option Launched) → Each (EnvelopeCarries job cfg u) (kill_to l)
      to None = tt
      to (Some l) = (tt, tt)

      by : (m : Option Attempt) → Each (EnvelopeCarries job cfg u) (bar_kill s m)
      by None = tt
      by (Some a) = to (find_launched s.launched a)
  bar-carries s call r = tt

  step-carries : (s s' : Seen) (x : Master_step) → Each (EnvelopeCarries job cfg u) (step_sends cfg s s' x)
  step-carries s s' (Came p) = if_cases (Each (EnvelopeCarries job cfg u)) (is_running s.phase) _ _ (λ t. replies-carry s s' p) (λ t. tt)
  step-carries s s' (Launches l) = (tt, tt)
  step-carries s s' (Expires n) = kills-carry _
  step-carries s s' (Asks call r) = Each-append (EnvelopeCarries job cfg u) (won_by_recovery cfg.nodes s.phase r) _ (recovery-carries cfg.nodes s.phase r)
      (Each-append (EnvelopeCarries job cfg u) (flush_sends cfg.nodes s call r) _ (flush-carries cfg.nodes s call r)
      (Each-append (EnvelopeCarries job cfg u) (bar_sends s call r) _ (bar-carries s call r) (outcome-carries cfg.nodes s.phase s'.phase)))

  master-carries : (w : World) (o : Option Master_act) → Each (EnvelopeCarries job cfg u) (master_sends cfg w o)
  master-carries w None = tt
  master-carries w (Some a) = step-carries (seen_by cfg w a.who) (next_seen cfg a.who (seen_by cfg w a.who) a.step) a.step

  -- a node's answer is a piece of the block on its shelf
  piece-carries : (c : ContainerId) (a : Attempt) (r o : ℕ) (b : Option (List ℕ)) → IsFor u c r → ((block : List ℕ) → b ≡ Some block → IsBlock job cfg a.task.number r block) → Each (EnvelopeCarries job cfg u) (piece_of c a r o b)
  piece-carries c a r o None own f = (tt, tt)
  piece-carries c a r o (Some block) own f = if_cases (Each (EnvelopeCarries job cfg u)) (nat_le o (length block)) _ _
      (λ t. ((record { block = block; is = f block refl; total_is = refl; bytes_are = refl }, λ d q. let s : c ≡ d = cc in subst (λ z. IsFor u z r) s own), tt)) (λ t. (tt, tt))

  node-carries : (w : World) (n : ℕ) (p : Packet) → JobLaws job cfg → ShelfFits job cfg (w.node_past n) → BodyFits job cfg u (Node n) p → Each (EnvelopeCarries job cfg u) (node_replies cfg w n p)
  node-carries w n (Packet.Launch c a i) laws f b = if_cases (Each (EnvelopeCarries job cfg u)) (not (is_known (w.node_past n) c) && not (nat_eq i (incarnation_of (w.node_past n)))) _ _ (λ t. (tt, tt)) (λ t. tt)
  node-carries w n (Packet.Kill c) laws f b = (tt, tt)
  node-carries w n (Packet.Fetch c a r i o) laws f b = if_cases (Each (EnvelopeCarries job cfg u)) (nat_eq i (incarnation_of (w.node_past n))) _ _
      (λ t. piece-carries c a r o _ b (λ block q. there-block job cfg laws a.task.number r (on_shelf (w.node_past n) a) block (f a) q)) (λ t. (tt, tt))
  node-carries w n _ laws f b = tt

  nodes-carry : (w : World) (o : Option Envelope) → JobLaws job cfg → ((n : ℕ) → ShelfFits job cfg (w.node_past n)) → ((v : Envelope) → o ≡ Some v → EnvelopeCarries job cfg u v) → Each (EnvelopeCarries job cfg u) (node_sends cfg w o)
  nodes-carry w None laws f b = tt
  nodes-carry w (Some e) laws f b = to e.to e.body (b e refl)
    where
      to : (a : Address) (p : Packet) → BodyFits job cfg u a p → Each (EnvelopeCarries job cfg u) (node_sends cfg w (Some (record { to = a; body = p })))
      to (Master k) p b = tt
      to (Container c) p b = tt
      to (Node n) p b = node-carries w n p laws (f n) b

  ended-carries : (b : Bool) (c : ContainerId) → Each (EnvelopeCarries job cfg u) (said_ended b c)
  ended-carries true c = (tt, tt)
  ended-carries false c = tt

  own-carries : (w : World) (e : Event) (o : Option Container_act) → Each (EnvelopeCarries job cfg u) (own_end cfg w e o)
  own-carries w e None = tt
  own-carries w e (Some a) = ended-carries _ _

  masters-carry : (f : ℕ → Bool) (k n i : ℕ) → Each (EnvelopeCarries job cfg u) (to_masters f k (NodeUp n i))
  unfolding to_masters
  masters-carry f zero n i = tt
  masters-carry f (suc k) n i = Each-append (EnvelopeCarries job cfg u) (to_masters f k (NodeUp n i)) _ (masters-carry f k n i) (if_cases (Each (EnvelopeCarries job cfg u)) (f (suc k)) _ _ (λ t. (tt, tt)) (λ t. tt))

  wished-carries : (w : World) (c : ContainerId) → ((p : Place) → w.place c ≡ Some p → u.place c ≡ Some p) → Each (EnvelopeCarries job cfg u) (some_packet (op_of cfg w c) (packet_of cfg w c))
  unfolding wished_op wished_packet
  wished-carries w c k = by (w.place c) refl
    where
      wishes : (p : Place) (v : Wish) → u.place c ≡ Some p → Each (EnvelopeCarries job cfg u) (some_packet (wished_op c.app p.attempt (computed (w.container_past c)) v) (wished_packet c p.attempt (computed (w.container_past c)) v))
      wishes p Wish.To_report q = (tt, tt)
      wishes p Wish.To_fail q = (tt, tt)
      wishes p (Wish.To_ask_where m) q = (tt, tt)
      wishes p (Wish.To_fetch m b n i got) q = ((p, q, refl), tt)
      wishes p (Wish.To_say_lost m b) q = (tt, tt)
      wishes p Wish.To_pend q = (tt, tt)
      wishes p Wish.To_poll q = (tt, tt)
      wishes p _ q = tt

      by : (o : Option Place) → w.place c ≡ o → Each (EnvelopeCarries job cfg u) (some_packet (op_at cfg c o (w.container_past c)) (packet_at cfg c o (w.container_past c)))
      by None q = tt
      by (Some p) q = wishes p _ (k p q)

  each-sent : (w : World) (e : Event) → JobLaws job cfg → ((n : ℕ) → ShelfFits job cfg (w.node_past n)) → ((v : Envelope) → In v w.bag → EnvelopeCarries job cfg u v) →
      ((c : ContainerId) (p : Place) → w.place c ≡ Some p → u.place c ≡ Some p) → Each (EnvelopeCarries job cfg u) (sent cfg w e)
  unfolding sent
  each-sent w (Start k kept) laws f b p = tt
  each-sent w (Crash k kept) laws f b p = tt
  each-sent w (Duty k g) laws f b p = master-carries w (master_act cfg w (Duty k g))
  each-sent w (LaunchOn k t m) laws f b p = master-carries w (master_act cfg w (LaunchOn k t m))
  each-sent w (Deliver i) laws f b p = Each-append (EnvelopeCarries job cfg u) (master_sends cfg w (master_act cfg w (Deliver i))) _ (master-carries w (master_act cfg w (Deliver i)))
      (Each-append (EnvelopeCarries job cfg u) (node_sends cfg w (slice_get w.bag i)) _ (nodes-carry w _ laws f (λ v q. b v (slice_get-In w.bag i v q))) (own-carries w (Deliver i) _))
  each-sent w (ContainerStep c g) laws f b p = Each-append (EnvelopeCarries job cfg u) (some_packet (op_of cfg w c) (packet_of cfg w c)) _ (wished-carries w c (p c)) (own-carries w (ContainerStep c g) _)
  each-sent w (Compute c x) laws f b p = tt
  each-sent w (Die c) laws f b p = (tt, tt)
  each-sent w (Expire k m) laws f b p = master-carries w (master_act cfg w (Expire k m))
  each-sent w (NodeRestart m) laws f b p = masters-carry w.is_master w.fence m _

pub sent-carries : (job : Job) (cfg : Config) (w : World) (e : Event) → JobLaws job cfg → Cluster cfg w → ((n : ℕ) → ShelfFits job cfg (w.node_past n)) → Each (EnvelopeCarries job cfg w) w.bag →
    Each (EnvelopeCarries job cfg (effect cfg w e)) (sent cfg w e)
sent-carries job cfg w e laws h f o = each-sent job cfg (effect cfg w e) w e laws f
    (λ v i. Each-In (EnvelopeCarries job cfg (effect cfg w e)) w.bag (bag_after job cfg w e h w.bag o) v i) (λ c p q. place_kept cfg w e h c p q)
