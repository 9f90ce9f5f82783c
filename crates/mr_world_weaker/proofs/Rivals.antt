-- Two attempts at the reduce of the smallest job: the first was told yes, and the second runs after the first was given up. What a world holds is told by a few
-- values that compute, and each event is a function of them.
use Rattle.std.proofs.Common.{ℕ, ◌≡◌, refl, sym, ◌∙◌, ap, subst, Bool, true, false, ◌&&◌, List, [], ◌∷◌, ◌++◌, Option, Some, None, slice_get, inl, inr, arith}
use Rattle.std.specs.FinMap as finite
use Rattle.mr_world_model.specs.Ids.{Attempt, ContainerId}
use Rattle.mr_world_model.specs.Content.{Content, Op}
use Rattle.mr_world_model.specs.Records.{Segment, appended, flushed, records_below}
use Rattle.mr_world_model.specs.Packets.{Packet, Launch, Envelope, Store, Names, Append_record, Flush, Read_history}
use Rattle.mr_world_model.specs.Pasts.{Place, Step, Got, Sent, Computed, Called, wish, computed, wished_op, wished_packet, Node_step, Node_got, is_known, incarnation_of}
use Rattle.mr_world_model.specs.Hearing.{Seen, Launched, is_running, has}
use Rattle.mr_world_model.specs.Duties.{Came, Expires, Launches, Asks, duty_of, seen, next_seen}
use Rattle.mr_world_model.specs.World.{World, Event, Duty, LaunchOn, Deliver, ContainerStep, Compute, Expire, Calm, seen_by, duty, reply_of, launch_of, call_of, master_act, container_act, obeyed, ends, names_left, segment_left, barred_left, is_over, op_of, packet_of, reply_to, is_stopped, caller_of, as_heard}
use Rattle.mr_world_model.specs.Effect.{not_now, happens, wants_compute, task_fault, node_past_after}
use Rattle.mr_world_model.specs.Sending.{sent, step_sends, to_app, to_node, to_container}
use Rattle.mr_world_model.specs.Claims.{In, world_of}
use Rattle.mr_world_model.proofs.Basic.{if_cases}
use Rattle.mr_world_model.proofs.Cluster.{Cluster, launched_as}
use Rattle.mr_world_model.proofs.Entries.{Lines, left_in, reply_in, left-in, reply-in}
use Rattle.mr_world_model.proofs.Found.{always}
use Rattle.mr_world_model.proofs.Small.{Small, Stands, a0, c0, call_reply, entries_left, free, p0, small, t0, taken}
use Rattle.mr_world_weaker.proofs.Prefix.{launch}

-- the second attempt, its container
abbrev pub a1 : Attempt
a1 = record { task = t0; number = 1 }

abbrev pub c1 : ContainerId
c1 = record { app = 1; number = 1 }

abbrev pub p1 : Place
p1 = record { attempt = a1; node = 0; incarnation = 1 }

-- what is kept of a world
pub record Both : Type 0 where
  pub entries : Lines
  pub barred : List Attempt
  pub seen : Seen
  pub bag : List Envelope
  pub first : List Step
  pub second : List Step
  pub place : Option Place  -- of the second
  pub alive : Bool  -- the second
  pub node : List Node_step

-- the first attempt's container lives, where it was launched
pub record Holds (w : World) (m : Both) : Type 0 where
  pub entries : finite.entries w.content ≡ m.entries
  pub fence : w.fence ≡ 1
  pub barred : w.barred ≡ m.barred
  pub unsealed : (w.history 1).is_sealed ≡ false
  pub older : (w.history 0).stable ≡ []
  pub master : w.is_master 1 ≡ true
  pub seen : seen_by small w 1 ≡ m.seen
  pub bag : w.bag ≡ m.bag
  pub first : w.container_past c0 ≡ m.first
  pub first_place : w.place c0 ≡ Some p0
  pub first_alive : w.is_alive c0 ≡ true
  pub second : w.container_past c1 ≡ m.second
  pub place : w.place c1 ≡ m.place
  pub alive : w.is_alive c1 ≡ m.alive
  pub node : w.node_past 0 ≡ m.node

pub and-true : (b : Bool) → (b && true) ≡ b
and-true true = refl
and-true false = refl

-- ---- before the second is launched

other : (a : Attempt) (n i : ℕ) → In (launched_as c1 a n i) (launch ∷ []) → ⊥
other a n i (inl e) = let q : 0 ≡ 1 = ap (λ (l : Launched). l.container.number) e in omega (arith, q)
other a n i (inr e) = absurd e

unplaced : (w : World) → Cluster small w → (seen_by small w 1).launched ≡ launch ∷ [] → w.place c1 ≡ None
unplaced w h l = by (w.place c1) refl
  where
    by : (o : Option Place) → w.place c1 ≡ o → w.place c1 ≡ None
    by None q = q
    by (Some p) q = absurd (other p.attempt p.node p.incarnation (subst (λ ls. In (launched_as c1 p.attempt p.node p.incarnation) ls) l (h.places c1 p q).0))

unborn : (w : World) → Cluster small w → w.place c1 ≡ None → w.is_alive c1 ≡ false
unborn w h n = by (w.is_alive c1) refl
  where
    by : (b : Bool) → w.is_alive c1 ≡ b → w.is_alive c1 ≡ false
    by false q = q
    by true q = let p = h.alive c1 q in let e : None ≡ Some p.0 = sym n ∙ p.1 in cc

abbrev pub alone : Small → Both
alone m = record { entries = m.entries; barred = []; seen = m.seen; bag = m.bag; first = m.past; second = []; place = None; alive = false; node = m.node }

pub begin : (es : List Event) (m : Small) → Stands (world_of small free es) m → m.seen.launched ≡ launch ∷ [] → m.place ≡ Some p0 → m.alive ≡ true → Holds (world_of small free es) (alone m)
begin es m h l p a = record {
  entries = h.entries;
  fence = h.fence;
  barred = h.barred;
  unsealed = h.unsealed;
  older = h.older;
  master = h.master;
  seen = h.seen;
  bag = h.bag;
  first = h.past;
  first_place = h.place ∙ p;
  first_alive = h.alive ∙ a;
  second = (always small free es).known.heard.unborn c1 none;
  place = none;
  alive = unborn (world_of small free es) (always small free es).known.cluster none;
  node = h.node;
}
  where
    none : (world_of small free es).place c1 ≡ None
    none = unplaced (world_of small free es) (always small free es).known.cluster (ap (λ (s : Seen). s.launched) h.seen ∙ l)

-- ---- a call of the master

abbrev pub called : Both → Store → Both
called m call = record m {
  entries = entries_left m.entries call;
  barred = barred_left m.barred call;
  seen = next_seen small 1 m.seen (Asks call (call_reply m.entries call));
  bag = m.bag ++ step_sends small m.seen (next_seen small 1 m.seen (Asks call (call_reply m.entries call))) (Asks call (call_reply m.entries call));
}

entries-left : (c : Content) (es : Lines) → finite.entries c ≡ es → (call : Store) → finite.entries (names_left c call) ≡ entries_left es call
entries-left c es e (Names o) = left-in c es e o
entries-left c es e (Append_record r) = e
entries-left c es e Flush = e
entries-left c es e Read_history = e

call-reply : (w : World) (m : Both) → Holds w m → (call : Store) → reply_of w 1 call ≡ call_reply m.entries call
unfolding reply_of records_below
call-reply w m h (Names o) = rw h.fence (reply-in w.content m.entries h.entries o)
call-reply w m h (Append_record r) = rw (h.fence, h.unsealed) refl
call-reply w m h Flush = rw (h.fence, h.unsealed) refl
call-reply w m h Read_history = rw (h.fence, h.older) refl

still-open : (s : Segment) (call : Store) → s.is_sealed ≡ false → (segment_left s call).is_sealed ≡ false
still-open s (Names o) e = e
still-open s (Append_record r) e = if_cases (λ (z : Segment). z.is_sealed ≡ false) s.is_sealed s (appended s r) (λ t. e) (λ t. e)
still-open s Flush e = if_cases (λ (z : Segment). z.is_sealed ≡ false) s.is_sealed s (flushed s) (λ t. e) (λ t. e)
still-open s Read_history e = e

pub on-duty : {w : World} {m : Both} → Holds w m → (call : Store) → duty_of small 1 m.seen m.seen.phase ≡ Some call → Holds (happens small free w (Duty 1 Calm)) (called m call)
unfolding not_now call_of master_act container_act obeyed ends sent seen node_past_after
on-duty {w} {m} h call q = rw (taken w (Duty 1 Calm) permitted) (record {
  entries = rw (d, h.fence) (entries-left w.content m.entries h.entries call);
  fence = h.fence;
  barred = rw (d, h.fence) (ap (λ bs. barred_left bs call) h.barred);
  unsealed = rw (d, h.fence) (still-open (w.history 1) call h.unsealed);
  older = rw (d, h.fence) h.older;
  master = h.master;
  seen = rw d (λ i. next_seen small 1 (h.seen i) (Asks call (call-reply w m h call i)));
  bag = rw d (λ i. h.bag i ++ step_sends small (h.seen i) (next_seen small 1 (h.seen i) (Asks call (call-reply w m h call i))) (Asks call (call-reply w m h call i)));
  first = h.first;
  first_place = h.first_place;
  first_alive = and-true _ ∙ h.first_alive;
  second = h.second;
  place = h.place;
  alive = and-true _ ∙ h.alive;
  node = h.node;
})
  where
    d : duty small w 1 ≡ Some call
    d = ap (λ (s : Seen). duty_of small 1 s s.phase) h.seen ∙ q

    permitted : not_now small w (Duty 1 Calm) ≡ None
    permitted = rw (h.master, d) refl

-- ---- the node is given up

abbrev pub gave_up : Both → Both
gave_up m = record m {
  seen = next_seen small 1 m.seen (Expires 0);
  bag = m.bag ++ step_sends small m.seen (next_seen small 1 m.seen (Expires 0)) (Expires 0);
}

pub on-expiry : {w : World} {m : Both} → Holds w m → is_running m.seen.phase ≡ true → Holds (happens small free w (Expire 1 0)) (gave_up m)
unfolding not_now call_of master_act container_act obeyed ends sent seen node_past_after
on-expiry {w} {m} h r = rw (taken w (Expire 1 0) permitted) (record {
  entries = h.entries;
  fence = h.fence;
  barred = h.barred;
  unsealed = h.unsealed;
  older = h.older;
  master = h.master;
  seen = λ i. next_seen small 1 (h.seen i) (Expires 0);
  bag = λ i. h.bag i ++ step_sends small (h.seen i) (next_seen small 1 (h.seen i) (Expires 0)) (Expires 0);
  first = h.first;
  first_place = h.first_place;
  first_alive = and-true _ ∙ h.first_alive;
  second = h.second;
  place = h.place;
  alive = and-true _ ∙ h.alive;
  node = h.node;
})
  where
    permitted : not_now small w (Expire 1 0) ≡ None
    permitted = rw (h.master, ap (λ (s : Seen). is_running s.phase) h.seen ∙ r) refl

-- ---- a launch of the reduce on the node, which obeys

abbrev pub launched : Both → Both
launched m = record m {
  seen = next_seen small 1 m.seen (Launches (launch_of 1 m.seen t0 0));
  bag = m.bag ++ step_sends small m.seen (next_seen small 1 m.seen (Launches (launch_of 1 m.seen t0 0))) (Launches (launch_of 1 m.seen t0 0));
}

pub on-launch : {w : World} {m : Both} → Holds w m → is_running m.seen.phase ≡ true → task_fault m.seen t0 ≡ None → Holds (happens small free w (LaunchOn 1 t0 0)) (launched m)
unfolding not_now call_of master_act container_act obeyed ends sent seen node_past_after
on-launch {w} {m} h r f = rw (taken w (LaunchOn 1 t0 0) permitted) (record {
  entries = h.entries;
  fence = h.fence;
  barred = h.barred;
  unsealed = h.unsealed;
  older = h.older;
  master = h.master;
  seen = λ i. next_seen small 1 (h.seen i) (Launches (launch_of 1 (h.seen i) t0 0));
  bag = λ i. h.bag i ++ step_sends small (h.seen i) (next_seen small 1 (h.seen i) (Launches (launch_of 1 (h.seen i) t0 0))) (Launches (launch_of 1 (h.seen i) t0 0));
  first = h.first;
  first_place = h.first_place;
  first_alive = and-true _ ∙ h.first_alive;
  second = h.second;
  place = h.place;
  alive = and-true _ ∙ h.alive;
  node = h.node;
})
  where
    permitted : not_now small w (LaunchOn 1 t0 0) ≡ None
    permitted = rw (h.master, ap (λ (s : Seen). is_running s.phase) h.seen ∙ r) (ap (λ s. task_fault s t0) h.seen ∙ f)

abbrev pub obeyed_by : Both → Both
obeyed_by m = record m { bag = m.bag ++ []; place = Some p1; alive = true; node = Node_got (Launch c1 a1 1) ∷ m.node }

pub on-obey : {w : World} {m : Both} → Holds w m → (i : ℕ) → slice_get m.bag i ≡ Some (to_node 0 (Launch c1 a1 1)) → m.node ≡ Node_got (Launch c0 a0 1) ∷ [] → Holds (happens small free w (Deliver i)) (obeyed_by m)
unfolding not_now call_of master_act container_act obeyed ends sent seen node_past_after is_known incarnation_of
on-obey {w} {m} h i q z = rw (taken w (Deliver i) permitted) (record {
  entries = h.entries;
  fence = h.fence;
  barred = h.barred;
  unsealed = h.unsealed;
  older = h.older;
  master = h.master;
  seen = rw g h.seen;
  bag = rw (g, n) (ap (λ b. b ++ []) h.bag);
  first = rw g h.first;
  first_place = rw (g, n) h.first_place;
  first_alive = rw (g, n) (and-true _ ∙ h.first_alive);
  second = rw g h.second;
  place = rw (g, n) refl;
  alive = rw (g, n) refl;
  node = rw g (ap (λ x. Node_got (Launch c1 a1 1) ∷ x) h.node);
})
  where
    g : slice_get w.bag i ≡ Some (to_node 0 (Launch c1 a1 1))
    g = ap (λ b. slice_get b i) h.bag ∙ q

    n : w.node_past 0 ≡ Node_got (Launch c0 a0 1) ∷ []
    n = h.node ∙ z

    permitted : not_now small w (Deliver i) ≡ None
    permitted = rw g refl

-- ---- a packet is delivered: to the master, to the second's container

abbrev pub heard_of : Both → Packet → Both
heard_of m p = record m {
  seen = next_seen small 1 m.seen (Came p);
  bag = m.bag ++ (step_sends small m.seen (next_seen small 1 m.seen (Came p)) (Came p) ++ []);
}

pub on-packet : {w : World} {m : Both} → Holds w m → (i : ℕ) (p : Packet) → slice_get m.bag i ≡ Some (to_app 1 p) → Holds (happens small free w (Deliver i)) (heard_of m p)
unfolding not_now call_of master_act container_act obeyed ends sent seen node_past_after
on-packet {w} {m} h i p q = rw (taken w (Deliver i) permitted) (record {
  entries = h.entries;
  fence = h.fence;
  barred = h.barred;
  unsealed = h.unsealed;
  older = h.older;
  master = h.master;
  seen = rw g (λ i. next_seen small 1 (h.seen i) (Came p));
  bag = rw g (λ i. h.bag i ++ (step_sends small (h.seen i) (next_seen small 1 (h.seen i) (Came p)) (Came p) ++ []));
  first = rw g h.first;
  first_place = rw g h.first_place;
  first_alive = rw g (and-true _ ∙ h.first_alive);
  second = rw g h.second;
  place = rw g h.place;
  alive = rw g (and-true _ ∙ h.alive);
  node = rw g h.node;
})
  where
    g : slice_get w.bag i ≡ Some (to_app 1 p)
    g = ap (λ b. slice_get b i) h.bag ∙ q

    permitted : not_now small w (Deliver i) ≡ None
    permitted = rw (g, h.master) refl

abbrev pub stepped : Both → Step → List Envelope → Both
stepped m x es = record m { second = x ∷ m.second; bag = m.bag ++ es }

pub on-got : {w : World} {m : Both} → Holds w m → (i : ℕ) (p : Packet) → slice_get m.bag i ≡ Some (to_container c1 p) → m.place ≡ Some p1 → m.alive ≡ true →
    is_over (wish 0 a1 (Got p ∷ m.second)) ≡ false → Holds (happens small free w (Deliver i)) (stepped m (Got p) [])
unfolding not_now call_of master_act container_act obeyed ends sent seen node_past_after
on-got {w} {m} h i p q z a o = rw (taken w (Deliver i) permitted) (record {
  entries = h.entries;
  fence = h.fence;
  barred = h.barred;
  unsealed = h.unsealed;
  older = h.older;
  master = h.master;
  seen = rw g h.seen;
  bag = rw (g, pl, over) (ap (λ b. b ++ []) h.bag);
  first = rw g h.first;
  first_place = rw g h.first_place;
  first_alive = rw g (and-true _ ∙ h.first_alive);
  second = rw g (ap (λ x. Got p ∷ x) h.second);
  place = rw g h.place;
  alive = rw (g, pl, over) (and-true _ ∙ h.alive);
  node = rw g h.node;
})
  where
    g : slice_get w.bag i ≡ Some (to_container c1 p)
    g = ap (λ b. slice_get b i) h.bag ∙ q

    pl : w.place c1 ≡ Some p1
    pl = h.place ∙ z

    over : is_over (wish 0 a1 (Got p ∷ w.container_past c1)) ≡ false
    over = ap (λ x. is_over (wish 0 a1 (Got p ∷ x))) h.second ∙ o

    permitted : not_now small w (Deliver i) ≡ None
    permitted = rw (g, h.alive ∙ a) refl

-- ---- a step of the second's container: a call, a packet, its result

abbrev pub called_by : Both → Op → Both
called_by m op = record (stepped m (Called op (as_heard (reply_in m.entries op))) []) { entries = left_in m.entries op; barred = barred_left m.barred (Names op) }

pub heard-second : {w : World} {m : Both} → Holds w m → has m.barred a1 ≡ false → has w.barred a1 ≡ false
heard-second h u = ap (λ bs. has bs a1) h.barred ∙ u

stopped : (w : World) → has w.barred a1 ≡ false → w.place c1 ≡ Some p1 → is_stopped w (caller_of w c1) ≡ false
stopped w u pl = rw (pl, u) refl

answered : (w : World) (m : Both) → Holds w m → has w.barred a1 ≡ false → (op : Op) → w.place c1 ≡ Some p1 → reply_to w (caller_of w c1) (Names op) ≡ reply_in m.entries op
unfolding reply_to
answered w m h u op pl = rw (stopped w u pl) (call-reply w m h (Names op))

call-act : (w : World) (m : Both) → Holds w m → has w.barred a1 ≡ false → (op : Op) → w.place c1 ≡ Some p1 → wished_op 1 a1 (computed (w.container_past c1)) (wish 0 a1 (w.container_past c1)) ≡ Some op →
    container_act small w (ContainerStep c1 Calm) ≡ Some (record { who = c1; step = Called op (as_heard (reply_in m.entries op)) })
unfolding container_act
call-act w m h u op pl wo = rw wo-at (ap (λ r. Some (record { who = c1; step = Called op (as_heard r) })) (answered w m h u op pl))
  where
    wo-at : op_of small w c1 ≡ Some op
    wo-at = rw (pl, wo) refl

call-made : (w : World) → has w.barred a1 ≡ false → (op : Op) → w.place c1 ≡ Some p1 → wished_op 1 a1 (computed (w.container_past c1)) (wish 0 a1 (w.container_past c1)) ≡ Some op →
    call_of small w (ContainerStep c1 Calm) ≡ Some (record { app = 1; call = Names op; fault = Calm })
unfolding call_of
call-made w u op pl wo = rw (pl, wo, u) refl

send-act : (w : World) (e : Envelope) → w.place c1 ≡ Some p1 → wished_op 1 a1 (computed (w.container_past c1)) (wish 0 a1 (w.container_past c1)) ≡ None →
    wished_packet c1 a1 (computed (w.container_past c1)) (wish 0 a1 (w.container_past c1)) ≡ Some e → container_act small w (ContainerStep c1 Calm) ≡ Some (record { who = c1; step = Sent e.body })
unfolding container_act
send-act w e pl wo wp = rw (pl, wo, wp) refl

send-made : (w : World) → has w.barred a1 ≡ false → w.place c1 ≡ Some p1 → wished_op 1 a1 (computed (w.container_past c1)) (wish 0 a1 (w.container_past c1)) ≡ None →
    call_of small w (ContainerStep c1 Calm) ≡ None
unfolding call_of
send-made w u pl wo = rw (pl, wo, u) refl

pub on-call : {w : World} {m : Both} → Holds w m → (op : Op) → wished_op 1 a1 (computed m.second) (wish 0 a1 m.second) ≡ Some op → wants_compute (wish 0 a1 m.second) ≡ false →
    m.place ≡ Some p1 → m.alive ≡ true → has m.barred a1 ≡ false → is_over (wish 0 a1 (Called op (as_heard (reply_in m.entries op)) ∷ m.second)) ≡ false →
    Holds (happens small free w (ContainerStep c1 Calm)) (called_by m op)
unfolding not_now master_act obeyed ends sent seen node_past_after
on-call {w} {m} h op q c z a u o = rw (taken w (ContainerStep c1 Calm) permitted) (record {
  entries = rw (made, h.fence) (left-in w.content m.entries h.entries op);
  fence = h.fence;
  barred = rw (made, h.fence) (ap (λ bs. barred_left bs (Names op)) h.barred);
  unsealed = rw (made, h.fence) h.unsealed;
  older = rw (made, h.fence) h.older;
  master = h.master;
  seen = h.seen;
  bag = rw (wo-at, act, pl, over) (ap (λ b. b ++ []) h.bag);
  first = rw act h.first;
  first_place = h.first_place;
  first_alive = rw act (and-true _ ∙ h.first_alive);
  second = rw act (ap (λ x. Called op (as_heard (reply_in m.entries op)) ∷ x) h.second);
  place = h.place;
  alive = rw (act, pl, over) (and-true _ ∙ h.alive);
  node = h.node;
})
  where
    pl : w.place c1 ≡ Some p1
    pl = h.place ∙ z

    wo : wished_op 1 a1 (computed (w.container_past c1)) (wish 0 a1 (w.container_past c1)) ≡ Some op
    wo = ap (λ x. wished_op 1 a1 (computed x) (wish 0 a1 x)) h.second ∙ q

    wo-at : op_of small w c1 ≡ Some op
    wo-at = rw (pl, wo) refl

    act : container_act small w (ContainerStep c1 Calm) ≡ Some (record { who = c1; step = Called op (as_heard (reply_in m.entries op)) })
    act = call-act w m h (heard-second h u) op pl wo

    made : call_of small w (ContainerStep c1 Calm) ≡ Some (record { app = 1; call = Names op; fault = Calm })
    made = call-made w (heard-second h u) op pl wo

    over : is_over (wish 0 a1 (Called op (as_heard (reply_in m.entries op)) ∷ w.container_past c1)) ≡ false
    over = ap (λ x. is_over (wish 0 a1 (Called op (as_heard (reply_in m.entries op)) ∷ x))) h.second ∙ o

    permitted : not_now small w (ContainerStep c1 Calm) ≡ None
    permitted = rw (h.alive ∙ a, pl, ap (λ x. wants_compute (wish 0 a1 x)) h.second ∙ c) refl

pub on-send : {w : World} {m : Both} → Holds w m → (e : Envelope) → wished_op 1 a1 (computed m.second) (wish 0 a1 m.second) ≡ None →
    wished_packet c1 a1 (computed m.second) (wish 0 a1 m.second) ≡ Some e → wants_compute (wish 0 a1 m.second) ≡ false →
    m.place ≡ Some p1 → m.alive ≡ true → has m.barred a1 ≡ false → is_over (wish 0 a1 (Sent e.body ∷ m.second)) ≡ false → Holds (happens small free w (ContainerStep c1 Calm)) (stepped m (Sent e.body) (e ∷ []))
unfolding not_now master_act obeyed ends sent seen node_past_after
on-send {w} {m} h e q s c z a u o = rw (taken w (ContainerStep c1 Calm) permitted) (record {
  entries = rw made h.entries;
  fence = h.fence;
  barred = rw made h.barred;
  unsealed = rw made h.unsealed;
  older = rw made h.older;
  master = h.master;
  seen = h.seen;
  bag = rw (wo-at, wp-at, act, pl, over) (ap (λ b. b ++ e ∷ []) h.bag);
  first = rw act h.first;
  first_place = h.first_place;
  first_alive = rw act (and-true _ ∙ h.first_alive);
  second = rw act (ap (λ x. Sent e.body ∷ x) h.second);
  place = h.place;
  alive = rw (act, pl, over) (and-true _ ∙ h.alive);
  node = h.node;
})
  where
    pl : w.place c1 ≡ Some p1
    pl = h.place ∙ z

    wo : wished_op 1 a1 (computed (w.container_past c1)) (wish 0 a1 (w.container_past c1)) ≡ None
    wo = ap (λ x. wished_op 1 a1 (computed x) (wish 0 a1 x)) h.second ∙ q

    wp : wished_packet c1 a1 (computed (w.container_past c1)) (wish 0 a1 (w.container_past c1)) ≡ Some e
    wp = ap (λ x. wished_packet c1 a1 (computed x) (wish 0 a1 x)) h.second ∙ s

    wo-at : op_of small w c1 ≡ None
    wo-at = rw (pl, wo) refl

    wp-at : packet_of small w c1 ≡ Some e
    wp-at = rw (pl, wp) refl

    act : container_act small w (ContainerStep c1 Calm) ≡ Some (record { who = c1; step = Sent e.body })
    act = send-act w e pl wo wp

    made : call_of small w (ContainerStep c1 Calm) ≡ None
    made = send-made w (heard-second h u) pl wo

    over : is_over (wish 0 a1 (Sent e.body ∷ w.container_past c1)) ≡ false
    over = ap (λ x. is_over (wish 0 a1 (Sent e.body ∷ x))) h.second ∙ o

    permitted : not_now small w (ContainerStep c1 Calm) ≡ None
    permitted = rw (h.alive ∙ a, pl, ap (λ x. wants_compute (wish 0 a1 x)) h.second ∙ c) refl

pub on-result : {w : World} {m : Both} → Holds w m → (bytes : List ℕ) → wants_compute (wish 0 a1 m.second) ≡ true → m.place ≡ Some p1 → m.alive ≡ true →
    Holds (happens small free w (Compute c1 bytes)) (stepped m (Computed bytes) [])
unfolding not_now call_of master_act container_act obeyed ends sent seen node_past_after
on-result {w} {m} h bytes c z a = rw (taken w (Compute c1 bytes) permitted) (record {
  entries = h.entries;
  fence = h.fence;
  barred = h.barred;
  unsealed = h.unsealed;
  older = h.older;
  master = h.master;
  seen = h.seen;
  bag = ap (λ b. b ++ []) h.bag;
  first = h.first;
  first_place = h.first_place;
  first_alive = and-true _ ∙ h.first_alive;
  second = ap (λ x. Computed bytes ∷ x) h.second;
  place = h.place;
  alive = and-true _ ∙ h.alive;
  node = rw pl h.node;
})
  where
    pl : w.place c1 ≡ Some p1
    pl = h.place ∙ z

    permitted : not_now small w (Compute c1 bytes) ≡ None
    permitted = rw (h.alive ∙ a, pl, ap (λ x. wants_compute (wish 0 a1 x)) h.second ∙ c) refl
