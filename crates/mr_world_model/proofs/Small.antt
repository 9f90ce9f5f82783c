-- One run of the smallest job, step by step: one reduce, no split, one node, and no event is refused for a limit. What a world of this run holds is told
-- by a few values that compute, and each event of it is a function of them.
use Rattle.std.proofs.Common.{ℕ, ◌≡◌, refl, ◌∙◌, ap, Bool, true, false, ◌&&◌, List, [], ◌∷◌, ◌++◌, Option, Some, None, slice_get}
use Rattle.std.specs.FinMap as finite
use Rattle.mr_world_model.specs.Ids.{Attempt, ContainerId, TaskId, reduce_of}
use Rattle.mr_world_model.specs.Content.{Content, Op}
use Rattle.mr_world_model.specs.Records.{Segment, appended, flushed, records_below}
use Rattle.mr_world_model.specs.Packets.{Config, Packet, Launch, Envelope, Store, Names, Append_record, Flush, Read_history, Reply, Fine, Records}
use Rattle.mr_world_model.specs.Pasts.{Place, Step, Got, Sent, Computed, Called, wish, computed, wished_op, wished_packet, Node_step, Node_got, is_known, incarnation_of}
use Rattle.mr_world_model.specs.Hearing.{Seen, is_running, has}
use Rattle.mr_world_model.specs.Duties.{Came, Launches, Asks, duty_of, seen, next_seen}
use Rattle.mr_world_model.specs.World.{World, Event, Duty, LaunchOn, Deliver, ContainerStep, Compute, Calm, seen_by, duty, reply_of, launch_of, call_of, master_act, container_act, obeyed, ends, names_left, segment_left, barred_left, is_over, op_of, packet_of, reply_to, is_stopped, caller_of, as_heard}
use Rattle.mr_world_model.specs.Effect.{effect, not_now, happens, wants_compute, task_fault, node_past_after}
use Rattle.mr_world_model.specs.Sending.{sent, step_sends, to_app, to_node, to_container}
use Rattle.mr_world_model.specs.Claims.{Limits}
use Rattle.mr_world_model.proofs.Basic.{if_cases}
use Rattle.mr_world_model.proofs.Entries.{Lines, left_in, reply_in, left-in, reply-in}

abbrev pub small : Config
small = record { job = record { start = 1; number = 1 }; splits = []; reduces = 1; nodes = 1; limit = 4; v2_from = 1 }

-- its reduce, the attempt, the container
abbrev pub t0 : TaskId
t0 = reduce_of small.job 0

abbrev pub a0 : Attempt
a0 = record { task = t0; number = 0 }

abbrev pub c0 : ContainerId
c0 = record { app = 1; number = 0 }

abbrev pub p0 : Place
p0 = record { attempt = a0; node = 0; incarnation = 1 }

abbrev pub free : Limits
free w e = true

-- what is kept of a world
pub record Small : Type 0 where
  pub entries : Lines
  pub seen : Seen
  pub bag : List Envelope
  pub past : List Step
  pub place : Option Place
  pub alive : Bool
  pub node : List Node_step

pub record Stands (w : World) (m : Small) : Type 0 where
  pub entries : finite.entries w.content ≡ m.entries
  pub fence : w.fence ≡ 1
  pub barred : w.barred ≡ []
  pub unsealed : (w.history 1).is_sealed ≡ false
  pub older : (w.history 0).stable ≡ []
  pub master : w.is_master 1 ≡ true
  pub seen : seen_by small w 1 ≡ m.seen
  pub bag : w.bag ≡ m.bag
  pub past : w.container_past c0 ≡ m.past
  pub place : w.place c0 ≡ m.place
  pub alive : w.is_alive c0 ≡ m.alive
  pub node : w.node_past 0 ≡ m.node

and-true : (b : Bool) → (b && true) ≡ b
and-true true = refl
and-true false = refl

pub taken : (w : World) (e : Event) → not_now small w e ≡ None → happens small free w e ≡ effect small w e
unfolding happens
taken w e n = rw n refl

-- ---- a call of the master

abbrev pub call_reply : Lines → Store → Reply
call_reply es (Names o) = reply_in es o
call_reply es (Append_record r) = Fine
call_reply es Flush = Fine
call_reply es Read_history = Records []

abbrev pub entries_left : Lines → Store → Lines
entries_left es (Names o) = left_in es o
entries_left es (Append_record r) = es
entries_left es Flush = es
entries_left es Read_history = es

abbrev pub called : Small → Store → Small
called m call = record m {
  entries = entries_left m.entries call;
  seen = next_seen small 1 m.seen (Asks call (call_reply m.entries call));
  bag = m.bag ++ step_sends small m.seen (next_seen small 1 m.seen (Asks call (call_reply m.entries call))) (Asks call (call_reply m.entries call));
}

entries-left : (c : Content) (es : Lines) → finite.entries c ≡ es → (call : Store) → finite.entries (names_left c call) ≡ entries_left es call
entries-left c es e (Names o) = left-in c es e o
entries-left c es e (Append_record r) = e
entries-left c es e Flush = e
entries-left c es e Read_history = e

call-reply : (w : World) (m : Small) → Stands w m → (call : Store) → reply_of w 1 call ≡ call_reply m.entries call
unfolding reply_of records_below
call-reply w m h (Names o) = rw h.fence (reply-in w.content m.entries h.entries o)
call-reply w m h (Append_record r) = rw (h.fence, h.unsealed) refl
call-reply w m h Flush = rw (h.fence, h.unsealed) refl
call-reply w m h Read_history = rw (h.fence, h.older) refl

still-open : (s : Segment) (call : Store) → s.is_sealed ≡ false → (segment_left s call).is_sealed ≡ false
still-open s (Names o) e = e
still-open s (Append_record r) e = if_cases (λ (z : Segment). z.is_sealed ≡ false) s.is_sealed s (appended s r) (λ t. e) (λ t. e)
still-open s Flush e = if_cases (λ (z : Segment). z.is_sealed ≡ false) s.is_sealed s (flushed s) (λ t. e) (λ t. e)
still-open s Read_history e = e

pub on-duty : {w : World} {m : Small} → Stands w m → (call : Store) → duty_of small 1 m.seen m.seen.phase ≡ Some call → barred_left [] call ≡ [] → Stands (happens small free w (Duty 1 Calm)) (called m call)
unfolding not_now call_of master_act container_act obeyed ends sent seen node_past_after
on-duty {w} {m} h call q b = rw (taken w (Duty 1 Calm) permitted) (record {
  entries = rw (d, h.fence) (entries-left w.content m.entries h.entries call);
  fence = h.fence;
  barred = rw (d, h.fence, h.barred) b;
  unsealed = rw (d, h.fence) (still-open (w.history 1) call h.unsealed);
  older = rw (d, h.fence) h.older;
  master = h.master;
  seen = rw d (λ i. next_seen small 1 (h.seen i) (Asks call (call-reply w m h call i)));
  bag = rw d (λ i. h.bag i ++ step_sends small (h.seen i) (next_seen small 1 (h.seen i) (Asks call (call-reply w m h call i))) (Asks call (call-reply w m h call i)));
  past = h.past;
  place = h.place;
  alive = and-true _ ∙ h.alive;
  node = h.node;
})
  where
    d : duty small w 1 ≡ Some call
    d = ap (λ (s : Seen). duty_of small 1 s s.phase) h.seen ∙ q

    permitted : not_now small w (Duty 1 Calm) ≡ None
    permitted = rw (h.master, d) refl

-- ---- a launch of the reduce on the node

abbrev pub launched : Small → Small
launched m = record m {
  seen = next_seen small 1 m.seen (Launches (launch_of 1 m.seen t0 0));
  bag = m.bag ++ step_sends small m.seen (next_seen small 1 m.seen (Launches (launch_of 1 m.seen t0 0))) (Launches (launch_of 1 m.seen t0 0));
}

pub on-launch : {w : World} {m : Small} → Stands w m → is_running m.seen.phase ≡ true → task_fault m.seen t0 ≡ None → Stands (happens small free w (LaunchOn 1 t0 0)) (launched m)
unfolding not_now call_of master_act container_act obeyed ends sent seen node_past_after
on-launch {w} {m} h r f = rw (taken w (LaunchOn 1 t0 0) permitted) (record {
  entries = h.entries;
  fence = h.fence;
  barred = h.barred;
  unsealed = h.unsealed;
  older = h.older;
  master = h.master;
  seen = λ i. next_seen small 1 (h.seen i) (Launches (launch_of 1 (h.seen i) t0 0));
  bag = λ i. h.bag i ++ step_sends small (h.seen i) (next_seen small 1 (h.seen i) (Launches (launch_of 1 (h.seen i) t0 0))) (Launches (launch_of 1 (h.seen i) t0 0));
  past = h.past;
  place = h.place;
  alive = and-true _ ∙ h.alive;
  node = h.node;
})
  where
    permitted : not_now small w (LaunchOn 1 t0 0) ≡ None
    permitted = rw (h.master, ap (λ (s : Seen). is_running s.phase) h.seen ∙ r) (ap (λ s. task_fault s t0) h.seen ∙ f)

-- ---- a packet is delivered: to the master, to the node, to the container

abbrev pub heard_of : Small → Packet → Small
heard_of m p = record m {
  seen = next_seen small 1 m.seen (Came p);
  bag = m.bag ++ (step_sends small m.seen (next_seen small 1 m.seen (Came p)) (Came p) ++ []);
}

pub on-packet : {w : World} {m : Small} → Stands w m → (i : ℕ) (p : Packet) → slice_get m.bag i ≡ Some (to_app 1 p) → Stands (happens small free w (Deliver i)) (heard_of m p)
unfolding not_now call_of master_act container_act obeyed ends sent seen node_past_after
on-packet {w} {m} h i p q = rw (taken w (Deliver i) permitted) (record {
  entries = h.entries;
  fence = h.fence;
  barred = h.barred;
  unsealed = h.unsealed;
  older = h.older;
  master = h.master;
  seen = rw g (λ i. next_seen small 1 (h.seen i) (Came p));
  bag = rw g (λ i. h.bag i ++ (step_sends small (h.seen i) (next_seen small 1 (h.seen i) (Came p)) (Came p) ++ []));
  past = rw g h.past;
  place = rw g h.place;
  alive = rw g (and-true _ ∙ h.alive);
  node = rw g h.node;
})
  where
    g : slice_get w.bag i ≡ Some (to_app 1 p)
    g = ap (λ b. slice_get b i) h.bag ∙ q

    permitted : not_now small w (Deliver i) ≡ None
    permitted = rw (g, h.master) refl

abbrev pub obeyed_by : Small → Small
obeyed_by m = record m { bag = m.bag ++ []; place = Some p0; alive = true; node = Node_got (Launch c0 a0 1) ∷ m.node }

pub on-obey : {w : World} {m : Small} → Stands w m → (i : ℕ) → slice_get m.bag i ≡ Some (to_node 0 (Launch c0 a0 1)) → m.node ≡ [] → Stands (happens small free w (Deliver i)) (obeyed_by m)
unfolding not_now call_of master_act container_act obeyed ends sent seen node_past_after is_known incarnation_of
on-obey {w} {m} h i q z = rw (taken w (Deliver i) permitted) (record {
  entries = h.entries;
  fence = h.fence;
  barred = h.barred;
  unsealed = h.unsealed;
  older = h.older;
  master = h.master;
  seen = rw g h.seen;
  bag = rw (g, n) (ap (λ b. b ++ []) h.bag);
  past = rw g h.past;
  place = rw (g, n) refl;
  alive = rw (g, n) refl;
  node = rw g (ap (λ x. Node_got (Launch c0 a0 1) ∷ x) h.node);
})
  where
    g : slice_get w.bag i ≡ Some (to_node 0 (Launch c0 a0 1))
    g = ap (λ b. slice_get b i) h.bag ∙ q

    n : w.node_past 0 ≡ []
    n = h.node ∙ z

    permitted : not_now small w (Deliver i) ≡ None
    permitted = rw g refl

abbrev pub stepped : Small → Step → List Envelope → Small
stepped m x es = record m { past = x ∷ m.past; bag = m.bag ++ es }

pub on-got : {w : World} {m : Small} → Stands w m → (i : ℕ) (p : Packet) → slice_get m.bag i ≡ Some (to_container c0 p) → m.place ≡ Some p0 → m.alive ≡ true →
    is_over (wish 0 a0 (Got p ∷ m.past)) ≡ false → Stands (happens small free w (Deliver i)) (stepped m (Got p) [])
unfolding not_now call_of master_act container_act obeyed ends sent seen node_past_after
on-got {w} {m} h i p q z a o = rw (taken w (Deliver i) permitted) (record {
  entries = h.entries;
  fence = h.fence;
  barred = h.barred;
  unsealed = h.unsealed;
  older = h.older;
  master = h.master;
  seen = rw g h.seen;
  bag = rw (g, pl, over) (ap (λ b. b ++ []) h.bag);
  past = rw g (ap (λ x. Got p ∷ x) h.past);
  place = rw g h.place;
  alive = rw (g, pl, over) (and-true _ ∙ h.alive);
  node = rw g h.node;
})
  where
    g : slice_get w.bag i ≡ Some (to_container c0 p)
    g = ap (λ b. slice_get b i) h.bag ∙ q

    pl : w.place c0 ≡ Some p0
    pl = h.place ∙ z

    over : is_over (wish 0 a0 (Got p ∷ w.container_past c0)) ≡ false
    over = ap (λ x. is_over (wish 0 a0 (Got p ∷ x))) h.past ∙ o

    permitted : not_now small w (Deliver i) ≡ None
    permitted = rw (g, h.alive ∙ a) refl

-- ---- a step of the container: a call, a packet, its result

abbrev pub called_by : Small → Op → Small
called_by m op = record (stepped m (Called op (as_heard (reply_in m.entries op))) []) { entries = left_in m.entries op }

heard-by : (w : World) (m : Small) → Stands w m → has w.barred a0 ≡ false
heard-by w m h = ap (λ b. has b a0) h.barred

stopped : (w : World) (m : Small) → Stands w m → w.place c0 ≡ Some p0 → is_stopped w (caller_of w c0) ≡ false
stopped w m h pl = rw (pl, heard-by w m h) refl

answered : (w : World) (m : Small) → Stands w m → (op : Op) → w.place c0 ≡ Some p0 → reply_to w (caller_of w c0) (Names op) ≡ reply_in m.entries op
unfolding reply_to
answered w m h op pl = rw (stopped w m h pl) (call-reply w m h (Names op))

call-act : (w : World) (m : Small) → Stands w m → (op : Op) → w.place c0 ≡ Some p0 → wished_op 1 a0 (computed (w.container_past c0)) (wish 0 a0 (w.container_past c0)) ≡ Some op →
    container_act small w (ContainerStep c0 Calm) ≡ Some (record { who = c0; step = Called op (as_heard (reply_in m.entries op)) })
unfolding container_act
call-act w m h op pl wo = rw wo-at (ap (λ r. Some (record { who = c0; step = Called op (as_heard r) })) (answered w m h op pl))
  where
    wo-at : op_of small w c0 ≡ Some op
    wo-at = rw (pl, wo) refl

call-made : (w : World) (m : Small) → Stands w m → (op : Op) → w.place c0 ≡ Some p0 → wished_op 1 a0 (computed (w.container_past c0)) (wish 0 a0 (w.container_past c0)) ≡ Some op →
    call_of small w (ContainerStep c0 Calm) ≡ Some (record { app = 1; call = Names op; fault = Calm })
unfolding call_of
call-made w m h op pl wo = rw (pl, wo, heard-by w m h) refl

send-act : (w : World) (e : Envelope) → w.place c0 ≡ Some p0 → wished_op 1 a0 (computed (w.container_past c0)) (wish 0 a0 (w.container_past c0)) ≡ None →
    wished_packet c0 a0 (computed (w.container_past c0)) (wish 0 a0 (w.container_past c0)) ≡ Some e → container_act small w (ContainerStep c0 Calm) ≡ Some (record { who = c0; step = Sent e.body })
unfolding container_act
send-act w e pl wo wp = rw (pl, wo, wp) refl

send-made : (w : World) (m : Small) → Stands w m → w.place c0 ≡ Some p0 → wished_op 1 a0 (computed (w.container_past c0)) (wish 0 a0 (w.container_past c0)) ≡ None →
    call_of small w (ContainerStep c0 Calm) ≡ None
unfolding call_of
send-made w m h pl wo = rw (pl, wo, heard-by w m h) refl

pub on-call : {w : World} {m : Small} → Stands w m → (op : Op) → wished_op 1 a0 (computed m.past) (wish 0 a0 m.past) ≡ Some op → wants_compute (wish 0 a0 m.past) ≡ false →
    m.place ≡ Some p0 → m.alive ≡ true → barred_left [] (Names op) ≡ [] → is_over (wish 0 a0 (Called op (as_heard (reply_in m.entries op)) ∷ m.past)) ≡ false →
    Stands (happens small free w (ContainerStep c0 Calm)) (called_by m op)
unfolding not_now master_act obeyed ends sent seen node_past_after
on-call {w} {m} h op q c z a b o = rw (taken w (ContainerStep c0 Calm) permitted) (record {
  entries = rw (made, h.fence) (left-in w.content m.entries h.entries op);
  fence = h.fence;
  barred = rw (made, h.fence, h.barred) b;
  unsealed = rw (made, h.fence) h.unsealed;
  older = rw (made, h.fence) h.older;
  master = h.master;
  seen = h.seen;
  bag = rw (wo-at, act, pl, over) (ap (λ b. b ++ []) h.bag);
  past = rw act (ap (λ x. Called op (as_heard (reply_in m.entries op)) ∷ x) h.past);
  place = h.place;
  alive = rw (act, pl, over) (and-true _ ∙ h.alive);
  node = h.node;
})
  where
    pl : w.place c0 ≡ Some p0
    pl = h.place ∙ z

    wo : wished_op 1 a0 (computed (w.container_past c0)) (wish 0 a0 (w.container_past c0)) ≡ Some op
    wo = ap (λ x. wished_op 1 a0 (computed x) (wish 0 a0 x)) h.past ∙ q

    wo-at : op_of small w c0 ≡ Some op
    wo-at = rw (pl, wo) refl

    act : container_act small w (ContainerStep c0 Calm) ≡ Some (record { who = c0; step = Called op (as_heard (reply_in m.entries op)) })
    act = call-act w m h op pl wo

    made : call_of small w (ContainerStep c0 Calm) ≡ Some (record { app = 1; call = Names op; fault = Calm })
    made = call-made w m h op pl wo

    over : is_over (wish 0 a0 (Called op (as_heard (reply_in m.entries op)) ∷ w.container_past c0)) ≡ false
    over = ap (λ x. is_over (wish 0 a0 (Called op (as_heard (reply_in m.entries op)) ∷ x))) h.past ∙ o

    permitted : not_now small w (ContainerStep c0 Calm) ≡ None
    permitted = rw (h.alive ∙ a, pl, ap (λ x. wants_compute (wish 0 a0 x)) h.past ∙ c) refl

pub on-send : {w : World} {m : Small} → Stands w m → (e : Envelope) → wished_op 1 a0 (computed m.past) (wish 0 a0 m.past) ≡ None →
    wished_packet c0 a0 (computed m.past) (wish 0 a0 m.past) ≡ Some e → wants_compute (wish 0 a0 m.past) ≡ false →
    m.place ≡ Some p0 → m.alive ≡ true → is_over (wish 0 a0 (Sent e.body ∷ m.past)) ≡ false → Stands (happens small free w (ContainerStep c0 Calm)) (stepped m (Sent e.body) (e ∷ []))
unfolding not_now master_act obeyed ends sent seen node_past_after
on-send {w} {m} h e q s c z a o = rw (taken w (ContainerStep c0 Calm) permitted) (record {
  entries = rw made h.entries;
  fence = h.fence;
  barred = rw made h.barred;
  unsealed = rw made h.unsealed;
  older = rw made h.older;
  master = h.master;
  seen = h.seen;
  bag = rw (wo-at, wp-at, act, pl, over) (ap (λ b. b ++ e ∷ []) h.bag);
  past = rw act (ap (λ x. Sent e.body ∷ x) h.past);
  place = h.place;
  alive = rw (act, pl, over) (and-true _ ∙ h.alive);
  node = h.node;
})
  where
    pl : w.place c0 ≡ Some p0
    pl = h.place ∙ z

    wo : wished_op 1 a0 (computed (w.container_past c0)) (wish 0 a0 (w.container_past c0)) ≡ None
    wo = ap (λ x. wished_op 1 a0 (computed x) (wish 0 a0 x)) h.past ∙ q

    wp : wished_packet c0 a0 (computed (w.container_past c0)) (wish 0 a0 (w.container_past c0)) ≡ Some e
    wp = ap (λ x. wished_packet c0 a0 (computed x) (wish 0 a0 x)) h.past ∙ s

    wo-at : op_of small w c0 ≡ None
    wo-at = rw (pl, wo) refl

    wp-at : packet_of small w c0 ≡ Some e
    wp-at = rw (pl, wp) refl

    act : container_act small w (ContainerStep c0 Calm) ≡ Some (record { who = c0; step = Sent e.body })
    act = send-act w e pl wo wp

    made : call_of small w (ContainerStep c0 Calm) ≡ None
    made = send-made w m h pl wo

    over : is_over (wish 0 a0 (Sent e.body ∷ w.container_past c0)) ≡ false
    over = ap (λ x. is_over (wish 0 a0 (Sent e.body ∷ x))) h.past ∙ o

    permitted : not_now small w (ContainerStep c0 Calm) ≡ None
    permitted = rw (h.alive ∙ a, pl, ap (λ x. wants_compute (wish 0 a0 x)) h.past ∙ c) refl

pub on-result : {w : World} {m : Small} → Stands w m → (bytes : List ℕ) → wants_compute (wish 0 a0 m.past) ≡ true → m.place ≡ Some p0 → m.alive ≡ true →
    Stands (happens small free w (Compute c0 bytes)) (stepped m (Computed bytes) [])
unfolding not_now call_of master_act container_act obeyed ends sent seen node_past_after
on-result {w} {m} h bytes c z a = rw (taken w (Compute c0 bytes) permitted) (record {
  entries = h.entries;
  fence = h.fence;
  barred = h.barred;
  unsealed = h.unsealed;
  older = h.older;
  master = h.master;
  seen = h.seen;
  bag = ap (λ b. b ++ []) h.bag;
  past = ap (λ x. Computed bytes ∷ x) h.past;
  place = h.place;
  alive = and-true _ ∙ h.alive;
  node = rw pl h.node;
})
  where
    pl : w.place c0 ≡ Some p0
    pl = h.place ∙ z

    permitted : not_now small w (Compute c0 bytes) ≡ None
    permitted = rw (h.alive ∙ a, pl, ap (λ x. wants_compute (wish 0 a0 x)) h.past ∙ c) refl
