-- One run of a job of one map and one reduce on one node, under a world's own limits. What a world of this run holds is told by a few values that compute, and each event
-- of it is a function of them. Here: what is kept, and what each event needs and leaves.
use Rattle.std.proofs.Common.{ℕ, zero, suc, ◌≡◌, ◌+◌, refl, sym, ◌∙◌, ap, arith, Bool, true, false, not, ◌&&◌, ◌||◌, nat_eq, nat_lt, nat_le, List, [], ◌∷◌, ◌++◌, length, length-append, Option, Some, None, slice_get}
use Rattle.std.specs.FinMap as finite
use Rattle.std.proofs.lemmas.Bool.{ne_eqb}
use Rattle.mr_history.specs.declared.segment.TheConstants.{MAX_SEGMENT_LEN}
use Rattle.mr_packet.specs.declared.bag.TheConstants.{MAX_PACKETS}
use Rattle.mr_world_model.specs.Ids.{Attempt, ContainerId, TaskId, map_of, reduce_of}
use Rattle.mr_world_model.specs.Content.{Content, Op, MkDirs, Create, Append, Close, Delete, Rename, ListDir, Exist, Read, Bar}
use Rattle.mr_world_model.specs.Records.{Segment, appended, flushed, records_below}
use Rattle.mr_world_model.specs.Packets.{Config, Packet, Envelope, Store, Names, Append_record, Flush, Read_history, Reply, Fine, Records}
use Rattle.mr_world_model.specs.Pasts.{Place, Step, Node_step}
use Rattle.mr_world_model.specs.Hearing.{Seen, is_running}
use Rattle.mr_world_model.specs.Duties.{Master_step, Came, Launches, Asks, duty_of, seen, next_seen}
use Rattle.mr_world_model.specs.World.{World, Event, Duty, LaunchOn, Deliver, Calm, seen_by, duty, reply_of, launch_of, call_of, master_act, container_act, obeyed, ends, names_left, segment_left, barred_left}
use Rattle.mr_world_model.specs.Effect.{effect, not_now, is_task, task_fault, node_past_after}
use Rattle.mr_world_model.specs.Sending.{sent, step_sends, to_app}
use Rattle.mr_world_model.proofs.Basic.{if_cases}
use Rattle.mr_world_model.proofs.Entries.{Lines, refusal_in, refusal-in, left_in, reply_in, left-in, reply-in}
use Rattle.mr_world.specs.mr_world_state.specs.declared.limits.TheConstants.{MAX_CONTAINERS}
use Rattle.mr_world.specs.Limits.{fits_own, fits_call, fits_store, fits_bag, launches_of, launches_in, launch_count, length_with, is_full}

-- the split "a" and a line feed, one reduce, one node
abbrev pub cfg : Config
cfg = record { job = record { start = 1; number = 1 }; splits = (97 ∷ 10 ∷ []) ∷ []; reduces = 1; nodes = 1; limit = 4; v2_from = 1 }

-- its map and its reduce: the task, the attempt, the container, where it runs
abbrev pub t0 : TaskId
t0 = map_of cfg.job 0

abbrev pub t1 : TaskId
t1 = reduce_of cfg.job 0

abbrev pub a0 : Attempt
a0 = record { task = t0; number = 0 }

abbrev pub a1 : Attempt
a1 = record { task = t1; number = 0 }

abbrev pub c0 : ContainerId
c0 = record { app = 1; number = 0 }

abbrev pub c1 : ContainerId
c1 = record { app = 1; number = 1 }

abbrev pub p0 : Place
p0 = record { attempt = a0; node = 0; incarnation = 1 }

abbrev pub p1 : Place
p1 = record { attempt = a1; node = 0; incarnation = 1 }

-- what is kept of a world
pub record Kept : Type 0 where
  pub entries : Lines
  pub segment : Segment
  pub launches : ℕ
  pub seen : Seen
  pub bag : List Envelope
  pub past0 : List Step
  pub past1 : List Step
  pub place0 : Option Place
  pub place1 : Option Place
  pub alive0 : Bool
  pub alive1 : Bool
  pub node : List Node_step

pub record Stands (w : World) (m : Kept) : Type 0 where
  pub entries : finite.entries w.content ≡ m.entries
  pub fence : w.fence ≡ 1
  pub barred : w.barred ≡ []
  pub segment : w.history 1 ≡ m.segment
  pub unsealed : (w.history 1).is_sealed ≡ false
  pub older : (w.history 0).stable ≡ []
  pub master : w.is_master 1 ≡ true
  pub launches : launches_in (w.master_past 1) ≡ m.launches
  pub others : (k : ℕ) → nat_eq k 1 ≡ false → w.master_past k ≡ []
  pub seen : seen_by cfg w 1 ≡ m.seen
  pub bag : w.bag ≡ m.bag
  pub past0 : w.container_past c0 ≡ m.past0
  pub past1 : w.container_past c1 ≡ m.past1
  pub place0 : w.place c0 ≡ m.place0
  pub place1 : w.place c1 ≡ m.place1
  pub alive0 : w.is_alive c0 ≡ m.alive0
  pub alive1 : w.is_alive c1 ≡ m.alive1
  pub node : w.node_past 0 ≡ m.node

-- an event is permitted, passes no limit of its own and none of its call, and leaves what is kept
pub record Leads (w : World) (e : Event) (n : Kept) : Type 0 where
  pub now : not_now cfg w e ≡ None
  pub own : fits_own w e ≡ true
  pub call : fits_call w (call_of cfg w e) ≡ true
  pub stands : Stands (effect cfg w e) n

pub fits-bag : (w : World) (e : Event) (n : Kept) → Stands (effect cfg w e) n → nat_le (length n.bag) MAX_PACKETS ≡ true → fits_bag cfg w e ≡ true
fits-bag w e n h q = ap (λ k. nat_le k MAX_PACKETS) (sym (length-append w.bag (sent cfg w e)) ∙ ap length h.bag) ∙ q

pub and-true : (b : Bool) → (b && true) ≡ b
and-true true = refl
and-true false = refl

-- ---- launches

launches-of : (pasts : ℕ → List Master_step) → ((k : ℕ) → nat_eq k 1 ≡ false → pasts k ≡ []) → (n : ℕ) → launches_of pasts (suc n) ≡ launches_in (pasts 1)
unfolding launches_of
launches-of pasts none zero = zero-plus (launches_in (pasts 1))
  where
    zero-plus : (k : ℕ) → 0 + k ≡ k
    zero-plus k = omega arith
launches-of pasts none (suc n) = rw (none (suc (suc n)) (not-one n), launches-of pasts none n) (plus-zero (launches_in (pasts 1)))
  where
    not-one : (n : ℕ) → nat_eq (suc (suc n)) 1 ≡ false
    not-one n = ne_eqb (suc (suc n)) 1 (λ e. omega (arith, e))

    plus-zero : (k : ℕ) → k + 0 ≡ k
    plus-zero k = omega arith

launch-count : (w : World) (m : Kept) → Stands w m → launch_count w ≡ m.launches
launch-count w m h = launches-of w.master_past h.others 999 ∙ h.launches

-- ---- a call of the master

abbrev pub call_reply : Lines → Store → Reply
call_reply es (Names o) = reply_in es o
call_reply es (Append_record r) = Fine
call_reply es Flush = Fine
call_reply es Read_history = Records []

abbrev pub entries_left : Lines → Store → Lines
entries_left es (Names o) = left_in es o
entries_left es (Append_record r) = es
entries_left es Flush = es
entries_left es Read_history = es

abbrev pub called : Kept → Store → Kept
called m call = record m {
  entries = entries_left m.entries call;
  segment = segment_left m.segment call;
  seen = next_seen cfg 1 m.seen (Asks call (call_reply m.entries call));
  bag = m.bag ++ step_sends cfg m.seen (next_seen cfg 1 m.seen (Asks call (call_reply m.entries call))) (Asks call (call_reply m.entries call));
}

entries-left : (c : Content) (es : Lines) → finite.entries c ≡ es → (call : Store) → finite.entries (names_left c call) ≡ entries_left es call
entries-left c es e (Names o) = left-in c es e o
entries-left c es e (Append_record r) = e
entries-left c es e Flush = e
entries-left c es e Read_history = e

pub call-reply : (w : World) (m : Kept) → Stands w m → (call : Store) → reply_of w 1 call ≡ call_reply m.entries call
unfolding reply_of records_below
call-reply w m h (Names o) = rw h.fence (reply-in w.content m.entries h.entries o)
call-reply w m h (Append_record r) = rw (h.fence, h.unsealed) refl
call-reply w m h Flush = rw (h.fence, h.unsealed) refl
call-reply w m h Read_history = rw (h.fence, h.older) refl

still-open : (s : Segment) (call : Store) → s.is_sealed ≡ false → (segment_left s call).is_sealed ≡ false
still-open s (Names o) e = e
still-open s (Append_record r) e = if_cases (λ (z : Segment). z.is_sealed ≡ false) s.is_sealed s (appended s r) (λ t. e) (λ t. e)
still-open s Flush e = if_cases (λ (z : Segment). z.is_sealed ≡ false) s.is_sealed s (flushed s) (λ t. e) (λ t. e)
still-open s Read_history e = e

-- a call finds room, by what is kept
abbrev pub is_bar : Op → Bool
is_bar (Bar a) = true
is_bar _ = false

abbrev pub has_room : Kept → Store → Bool
has_room m (Names op) = not (is_bar op || is_full (refusal_in m.entries op))
has_room m (Append_record r) = m.segment.is_sealed || nat_le (length_with m.segment r) MAX_SEGMENT_LEN
has_room m Flush = true
has_room m Read_history = true

fits-names : (w : World) (m : Kept) → Stands w m → (op : Op) → has_room m (Names op) ≡ true → fits_store w 1 (Names op) ≡ true
fits-names w m h (MkDirs p) q = ap (λ r. not (is_full r)) (refusal-in w.content m.entries h.entries (MkDirs p)) ∙ q
fits-names w m h (Create p b) q = ap (λ r. not (is_full r)) (refusal-in w.content m.entries h.entries (Create p b)) ∙ q
fits-names w m h (Append p bytes) q = ap (λ r. not (is_full r)) (refusal-in w.content m.entries h.entries (Append p bytes)) ∙ q
fits-names w m h (Close p) q = ap (λ r. not (is_full r)) (refusal-in w.content m.entries h.entries (Close p)) ∙ q
fits-names w m h (Delete p) q = ap (λ r. not (is_full r)) (refusal-in w.content m.entries h.entries (Delete p)) ∙ q
fits-names w m h (Rename p r) q = ap (λ r. not (is_full r)) (refusal-in w.content m.entries h.entries (Rename p r)) ∙ q
fits-names w m h (ListDir p) q = ap (λ r. not (is_full r)) (refusal-in w.content m.entries h.entries (ListDir p)) ∙ q
fits-names w m h (Exist p) q = ap (λ r. not (is_full r)) (refusal-in w.content m.entries h.entries (Exist p)) ∙ q
fits-names w m h (Read p) q = ap (λ r. not (is_full r)) (refusal-in w.content m.entries h.entries (Read p)) ∙ q
fits-names w m h (Bar a) q = cc

pub fits-store : (w : World) (m : Kept) → Stands w m → (call : Store) → has_room m call ≡ true → fits_store w 1 call ≡ true
fits-store w m h (Names op) q = fits-names w m h op q
fits-store w m h (Append_record r) q = ap (λ (s : Segment). s.is_sealed || nat_le (length_with s r) MAX_SEGMENT_LEN) h.segment ∙ q
fits-store w m h Flush q = refl
fits-store w m h Read_history q = refl

pub on-duty : {w : World} {m : Kept} → Stands w m → (call : Store) → duty_of cfg 1 m.seen m.seen.phase ≡ Some call → barred_left [] call ≡ [] → has_room m call ≡ true → Leads w (Duty 1 Calm) (called m call)
unfolding not_now call_of master_act container_act obeyed ends sent seen node_past_after
on-duty {w} {m} h call q b room = record {
  now = rw (h.master, d) refl;
  own = refl;
  call = rw (d, h.fence) (fits-store w m h call room);
  stands = record {
    entries = rw (d, h.fence) (entries-left w.content m.entries h.entries call);
    fence = h.fence;
    barred = rw (d, h.fence, h.barred) b;
    segment = rw (d, h.fence) (ap (λ s. segment_left s call) h.segment);
    unsealed = rw (d, h.fence) (still-open (w.history 1) call h.unsealed);
    older = rw (d, h.fence) h.older;
    master = h.master;
    launches = rw d h.launches;
    others = λ k e. rw (d, e) (h.others k e);
    seen = rw d (λ i. next_seen cfg 1 (h.seen i) (Asks call (call-reply w m h call i)));
    bag = rw d (λ i. h.bag i ++ step_sends cfg (h.seen i) (next_seen cfg 1 (h.seen i) (Asks call (call-reply w m h call i))) (Asks call (call-reply w m h call i)));
    past0 = h.past0;
    past1 = h.past1;
    place0 = h.place0;
    place1 = h.place1;
    alive0 = and-true _ ∙ h.alive0;
    alive1 = and-true _ ∙ h.alive1;
    node = h.node;
  };
}
  where
    d : duty cfg w 1 ≡ Some call
    d = ap (λ (s : Seen). duty_of cfg 1 s s.phase) h.seen ∙ q

-- ---- a launch of a task on the node

abbrev pub launched : Kept → TaskId → Kept
launched m t = record m {
  launches = suc m.launches;
  seen = next_seen cfg 1 m.seen (Launches (launch_of 1 m.seen t 0));
  bag = m.bag ++ step_sends cfg m.seen (next_seen cfg 1 m.seen (Launches (launch_of 1 m.seen t 0))) (Launches (launch_of 1 m.seen t 0));
}

pub on-launch : {w : World} {m : Kept} → Stands w m → (t : TaskId) → is_task cfg t ≡ true → is_running m.seen.phase ≡ true → task_fault m.seen t ≡ None → nat_lt m.launches MAX_CONTAINERS ≡ true → Leads w (LaunchOn 1 t 0) (launched m t)
unfolding not_now call_of master_act container_act obeyed ends sent seen node_past_after
on-launch {w} {m} h t it r f few = record {
  now = rw (h.master, ap (λ (s : Seen). is_running s.phase) h.seen ∙ r, it) (ap (λ s. task_fault s t) h.seen ∙ f);
  own = ap (λ n. nat_lt n MAX_CONTAINERS) (launch-count w m h) ∙ few;
  call = refl;
  stands = record {
    entries = h.entries;
    fence = h.fence;
    barred = h.barred;
    segment = h.segment;
    unsealed = h.unsealed;
    older = h.older;
    master = h.master;
    launches = ap suc h.launches;
    others = λ k e. rw e (h.others k e);
    seen = λ i. next_seen cfg 1 (h.seen i) (Launches (launch_of 1 (h.seen i) t 0));
    bag = λ i. h.bag i ++ step_sends cfg (h.seen i) (next_seen cfg 1 (h.seen i) (Launches (launch_of 1 (h.seen i) t 0))) (Launches (launch_of 1 (h.seen i) t 0));
    past0 = h.past0;
    past1 = h.past1;
    place0 = h.place0;
    place1 = h.place1;
    alive0 = and-true _ ∙ h.alive0;
    alive1 = and-true _ ∙ h.alive1;
    node = h.node;
  };
}

-- ---- a packet is delivered: to the master, to the node, to the container

abbrev pub heard_of : Kept → Packet → Kept
heard_of m p = record m {
  seen = next_seen cfg 1 m.seen (Came p);
  bag = m.bag ++ (step_sends cfg m.seen (next_seen cfg 1 m.seen (Came p)) (Came p) ++ []);
}

pub on-packet : {w : World} {m : Kept} → Stands w m → (i : ℕ) (p : Packet) → slice_get m.bag i ≡ Some (to_app 1 p) → Leads w (Deliver i) (heard_of m p)
unfolding not_now call_of master_act container_act obeyed ends sent seen node_past_after
on-packet {w} {m} h i p q = record {
  now = rw (g, h.master) refl;
  own = refl;
  call = refl;
  stands = record {
    entries = h.entries;
    fence = h.fence;
    barred = h.barred;
    segment = h.segment;
    unsealed = h.unsealed;
    older = h.older;
    master = h.master;
    launches = rw g h.launches;
    others = λ k e. rw (g, e) (h.others k e);
    seen = rw g (λ i. next_seen cfg 1 (h.seen i) (Came p));
    bag = rw g (λ i. h.bag i ++ (step_sends cfg (h.seen i) (next_seen cfg 1 (h.seen i) (Came p)) (Came p) ++ []));
    past0 = rw g h.past0;
    past1 = rw g h.past1;
    place0 = rw g h.place0;
    place1 = rw g h.place1;
    alive0 = rw g (and-true _ ∙ h.alive0);
    alive1 = rw g (and-true _ ∙ h.alive1);
    node = rw g h.node;
  };
}
  where
    g : slice_get w.bag i ≡ Some (to_app 1 p)
    g = ap (λ b. slice_get b i) h.bag ∙ q
