-- The node, the containers and what they do in that one run: what each of their events needs and leaves.
use Rattle.std.proofs.Common.{ℕ, ◌≡◌, ◌^◌, ◌+◌, refl, ◌∙◌, ap, true, false, nat_lt, nat_le, List, [], ◌∷◌, ◌++◌, length, Some, None, slice_get, is_some}
use Rattle.mr_mapside.specs.declared.TheConstants.{MAX_OUTPUT_LEN}
use Rattle.mr_mapside.specs.Cutting.{cut}
use Rattle.mr_world_model.specs.Ids.{Attempt, ContainerId}
use Rattle.mr_world_model.specs.Content.{Op}
use Rattle.mr_world_model.specs.Packets.{Packet, Launch, Fetch, Envelope, Names}
use Rattle.mr_world_model.specs.Pasts.{Step, Got, Sent, Computed, Called, wish, computed, wished_op, wished_packet, Node_step, Node_got, Shelved, is_known, incarnation_of, on_shelf}
use Rattle.mr_world_model.specs.Hearing.{has}
use Rattle.mr_world_model.specs.Duties.{seen}
use Rattle.mr_world_model.specs.World.{World, Deliver, ContainerStep, Compute, Calm, call_of, master_act, container_act, obeyed, ends, barred_left, is_over, op_of, packet_of, reply_to, is_stopped, caller_of, as_heard, block_there}
use Rattle.mr_world_model.specs.Effect.{not_now, wants_compute, node_past_after}
use Rattle.mr_world_model.specs.Sending.{sent, to_node, to_container, piece_of}
use Rattle.mr_world_model.proofs.Entries.{left_in, reply_in, left-in}
use Rattle.mr_world_laws.proofs.Success_parts.{cfg, t0, t1, a0, a1, c0, c1, p0, p1, Kept, Stands, Leads, and-true, has_room, call-reply, fits-store}

abbrev pub obeyed0 : Kept → Kept
obeyed0 m = record m { bag = m.bag ++ []; place0 = Some p0; alive0 = true; node = Node_got (Launch c0 a0 1) ∷ m.node }

pub on-obey0 : {w : World} {m : Kept} → Stands w m → (i : ℕ) → slice_get m.bag i ≡ Some (to_node 0 (Launch c0 a0 1)) → is_known m.node c0 ≡ false → incarnation_of m.node ≡ 1 → Leads w (Deliver i) (obeyed0 m)
unfolding not_now call_of master_act container_act obeyed ends sent seen node_past_after
on-obey0 {w} {m} h i q z y = record {
  now = rw g refl;
  own = refl;
  call = refl;
  stands = record {
    entries = h.entries;
    fence = h.fence;
    barred = h.barred;
    segment = h.segment;
    unsealed = h.unsealed;
    older = h.older;
    master = h.master;
    launches = rw g h.launches;
    others = λ k e. rw g (h.others k e);
    seen = rw g h.seen;
    bag = rw (g, n, j) (ap (λ b. b ++ []) h.bag);
    past0 = rw g h.past0;
    past1 = rw g h.past1;
    place0 = rw (g, n, j) refl;
    place1 = rw (g, n, j) h.place1;
    alive0 = rw (g, n, j) refl;
    alive1 = rw (g, n, j) (and-true _ ∙ h.alive1);
    node = rw g (ap (λ x. Node_got (Launch c0 a0 1) ∷ x) h.node);
  };
}
  where
    g : slice_get w.bag i ≡ Some (to_node 0 (Launch c0 a0 1))
    g = ap (λ b. slice_get b i) h.bag ∙ q

    n : is_known (w.node_past 0) c0 ≡ false
    n = ap (λ x. is_known x c0) h.node ∙ z

    j : incarnation_of (w.node_past 0) ≡ 1
    j = ap incarnation_of h.node ∙ y

abbrev pub obeyed1 : Kept → Kept
obeyed1 m = record m { bag = m.bag ++ []; place1 = Some p1; alive1 = true; node = Node_got (Launch c1 a1 1) ∷ m.node }

pub on-obey1 : {w : World} {m : Kept} → Stands w m → (i : ℕ) → slice_get m.bag i ≡ Some (to_node 0 (Launch c1 a1 1)) → is_known m.node c1 ≡ false → incarnation_of m.node ≡ 1 → Leads w (Deliver i) (obeyed1 m)
unfolding not_now call_of master_act container_act obeyed ends sent seen node_past_after
on-obey1 {w} {m} h i q z y = record {
  now = rw g refl;
  own = refl;
  call = refl;
  stands = record {
    entries = h.entries;
    fence = h.fence;
    barred = h.barred;
    segment = h.segment;
    unsealed = h.unsealed;
    older = h.older;
    master = h.master;
    launches = rw g h.launches;
    others = λ k e. rw g (h.others k e);
    seen = rw g h.seen;
    bag = rw (g, n, j) (ap (λ b. b ++ []) h.bag);
    past0 = rw g h.past0;
    past1 = rw g h.past1;
    place1 = rw (g, n, j) refl;
    place0 = rw (g, n, j) h.place0;
    alive1 = rw (g, n, j) refl;
    alive0 = rw (g, n, j) (and-true _ ∙ h.alive0);
    node = rw g (ap (λ x. Node_got (Launch c1 a1 1) ∷ x) h.node);
  };
}
  where
    g : slice_get w.bag i ≡ Some (to_node 0 (Launch c1 a1 1))
    g = ap (λ b. slice_get b i) h.bag ∙ q

    n : is_known (w.node_past 0) c1 ≡ false
    n = ap (λ x. is_known x c1) h.node ∙ z

    j : incarnation_of (w.node_past 0) ≡ 1
    j = ap incarnation_of h.node ∙ y

-- the node gives of what lies on its shelf
abbrev pub given_by : List Node_step → ContainerId → Attempt → ℕ → ℕ → List Envelope
given_by node c a r o = piece_of c a r o (block_there 1 (on_shelf node a) r)

abbrev pub fetched_by : Kept → ContainerId → Attempt → ℕ → ℕ → Kept
fetched_by m c a r o = record m { bag = m.bag ++ (given_by m.node c a r o ++ []); node = Node_got (Fetch c a r 1 o) ∷ m.node }

pub on-fetch : {w : World} {m : Kept} → Stands w m → (i : ℕ) (c : ContainerId) (a : Attempt) (r o : ℕ) → slice_get m.bag i ≡ Some (to_node 0 (Fetch c a r 1 o)) → incarnation_of m.node ≡ 1 → Leads w (Deliver i) (fetched_by m c a r o)
unfolding not_now call_of master_act container_act obeyed ends sent seen node_past_after
on-fetch {w} {m} h i c a r o q y = record {
  now = rw g refl;
  own = refl;
  call = refl;
  stands = record {
    entries = h.entries;
    fence = h.fence;
    barred = h.barred;
    segment = h.segment;
    unsealed = h.unsealed;
    older = h.older;
    master = h.master;
    launches = rw g h.launches;
    others = λ k e. rw g (h.others k e);
    seen = rw g h.seen;
    bag = rw (g, j) (λ i. h.bag i ++ (given_by (h.node i) c a r o ++ []));
    past0 = rw g h.past0;
    past1 = rw g h.past1;
    place0 = rw g h.place0;
    place1 = rw g h.place1;
    alive0 = rw g (and-true _ ∙ h.alive0);
    alive1 = rw g (and-true _ ∙ h.alive1);
    node = rw g (ap (λ x. Node_got (Fetch c a r 1 o) ∷ x) h.node);
  };
}
  where
    g : slice_get w.bag i ≡ Some (to_node 0 (Fetch c a r 1 o))
    g = ap (λ b. slice_get b i) h.bag ∙ q

    j : incarnation_of (w.node_past 0) ≡ 1
    j = ap incarnation_of h.node ∙ y

abbrev pub stepped0 : Kept → Step → List Envelope → Kept
stepped0 m x es = record m { past0 = x ∷ m.past0; bag = m.bag ++ es }

abbrev pub stepped1 : Kept → Step → List Envelope → Kept
stepped1 m x es = record m { past1 = x ∷ m.past1; bag = m.bag ++ es }

pub on-got : {w : World} {m : Kept} → Stands w m → (i : ℕ) (p : Packet) → slice_get m.bag i ≡ Some (to_container c1 p) → m.place1 ≡ Some p1 → m.alive1 ≡ true →
    is_over (wish 1 a1 (Got p ∷ m.past1)) ≡ false → Leads w (Deliver i) (stepped1 m (Got p) [])
unfolding not_now call_of master_act container_act obeyed ends sent seen node_past_after
on-got {w} {m} h i p q z a o = record {
  now = rw (g, h.alive1 ∙ a) refl;
  own = refl;
  call = refl;
  stands = record {
    entries = h.entries;
    fence = h.fence;
    barred = h.barred;
    segment = h.segment;
    unsealed = h.unsealed;
    older = h.older;
    master = h.master;
    launches = rw g h.launches;
    others = λ k e. rw g (h.others k e);
    seen = rw g h.seen;
    bag = rw (g, pl, over) (ap (λ b. b ++ []) h.bag);
    past0 = rw g h.past0;
    past1 = rw g (ap (λ x. Got p ∷ x) h.past1);
    place0 = rw g h.place0;
    place1 = rw g h.place1;
    alive0 = rw g (and-true _ ∙ h.alive0);
    alive1 = rw (g, pl, over) (and-true _ ∙ h.alive1);
    node = rw g h.node;
  };
}
  where
    g : slice_get w.bag i ≡ Some (to_container c1 p)
    g = ap (λ b. slice_get b i) h.bag ∙ q

    pl : w.place c1 ≡ Some p1
    pl = h.place1 ∙ z

    over : is_over (wish 1 a1 (Got p ∷ w.container_past c1)) ≡ false
    over = ap (λ x. is_over (wish 1 a1 (Got p ∷ x))) h.past1 ∙ o

-- ---- a step of a container: a call, a packet, its result

abbrev pub called_by : Kept → Op → Kept
called_by m op = record (stepped1 m (Called op (as_heard (reply_in m.entries op))) []) { entries = left_in m.entries op }

heard-by : (w : World) (m : Kept) (a : Attempt) → Stands w m → has w.barred a ≡ false
heard-by w m a h = ap (λ b. has b a) h.barred

answered : (w : World) (m : Kept) → Stands w m → (op : Op) → w.place c1 ≡ Some p1 → reply_to w (caller_of w c1) (Names op) ≡ reply_in m.entries op
unfolding reply_to
answered w m h op pl = rw stopped (call-reply w m h (Names op))
  where
    stopped : is_stopped w (caller_of w c1) ≡ false
    stopped = rw (pl, heard-by w m a1 h) refl

call-act : (w : World) (m : Kept) → Stands w m → (op : Op) → w.place c1 ≡ Some p1 → wished_op 1 a1 (computed (w.container_past c1)) (wish 1 a1 (w.container_past c1)) ≡ Some op →
    container_act cfg w (ContainerStep c1 Calm) ≡ Some (record { who = c1; step = Called op (as_heard (reply_in m.entries op)) })
unfolding container_act
call-act w m h op pl wo = rw wo-at (ap (λ r. Some (record { who = c1; step = Called op (as_heard r) })) (answered w m h op pl))
  where
    wo-at : op_of cfg w c1 ≡ Some op
    wo-at = rw (pl, wo) refl

call-made : (w : World) (m : Kept) → Stands w m → (op : Op) → w.place c1 ≡ Some p1 → wished_op 1 a1 (computed (w.container_past c1)) (wish 1 a1 (w.container_past c1)) ≡ Some op →
    call_of cfg w (ContainerStep c1 Calm) ≡ Some (record { app = 1; call = Names op; fault = Calm })
unfolding call_of
call-made w m h op pl wo = rw (pl, wo, heard-by w m a1 h) refl

pub on-call : {w : World} {m : Kept} → Stands w m → (op : Op) → wished_op 1 a1 (computed m.past1) (wish 1 a1 m.past1) ≡ Some op → wants_compute (wish 1 a1 m.past1) ≡ false →
    m.place1 ≡ Some p1 → m.alive1 ≡ true → barred_left [] (Names op) ≡ [] → is_over (wish 1 a1 (Called op (as_heard (reply_in m.entries op)) ∷ m.past1)) ≡ false → has_room m (Names op) ≡ true →
    Leads w (ContainerStep c1 Calm) (called_by m op)
unfolding not_now master_act obeyed ends sent seen node_past_after
on-call {w} {m} h op q c z a b o room = record {
  now = rw (h.alive1 ∙ a, pl, ap (λ x. wants_compute (wish 1 a1 x)) h.past1 ∙ c) refl;
  own = refl;
  call = rw (made, h.fence) (fits-store w m h (Names op) room);
  stands = record {
    entries = rw (made, h.fence) (left-in w.content m.entries h.entries op);
    fence = h.fence;
    barred = rw (made, h.fence, h.barred) b;
    segment = rw (made, h.fence) h.segment;
    unsealed = rw (made, h.fence) h.unsealed;
    older = rw (made, h.fence) h.older;
    master = h.master;
    launches = h.launches;
    others = h.others;
    seen = h.seen;
    bag = rw (wo-at, act, pl, over) (ap (λ b. b ++ []) h.bag);
    past0 = rw act h.past0;
    past1 = rw act (ap (λ x. Called op (as_heard (reply_in m.entries op)) ∷ x) h.past1);
    place0 = h.place0;
    place1 = h.place1;
    alive0 = rw act (and-true _ ∙ h.alive0);
    alive1 = rw (act, pl, over) (and-true _ ∙ h.alive1);
    node = h.node;
  };
}
  where
    pl : w.place c1 ≡ Some p1
    pl = h.place1 ∙ z

    wo : wished_op 1 a1 (computed (w.container_past c1)) (wish 1 a1 (w.container_past c1)) ≡ Some op
    wo = ap (λ x. wished_op 1 a1 (computed x) (wish 1 a1 x)) h.past1 ∙ q

    wo-at : op_of cfg w c1 ≡ Some op
    wo-at = rw (pl, wo) refl

    act : container_act cfg w (ContainerStep c1 Calm) ≡ Some (record { who = c1; step = Called op (as_heard (reply_in m.entries op)) })
    act = call-act w m h op pl wo

    made : call_of cfg w (ContainerStep c1 Calm) ≡ Some (record { app = 1; call = Names op; fault = Calm })
    made = call-made w m h op pl wo

    over : is_over (wish 1 a1 (Called op (as_heard (reply_in m.entries op)) ∷ w.container_past c1)) ≡ false
    over = ap (λ x. is_over (wish 1 a1 (Called op (as_heard (reply_in m.entries op)) ∷ x))) h.past1 ∙ o

send-act0 : (w : World) (e : Envelope) → w.place c0 ≡ Some p0 → wished_op 1 a0 (computed (w.container_past c0)) (wish 1 a0 (w.container_past c0)) ≡ None →
    wished_packet c0 a0 (computed (w.container_past c0)) (wish 1 a0 (w.container_past c0)) ≡ Some e → container_act cfg w (ContainerStep c0 Calm) ≡ Some (record { who = c0; step = Sent e.body })
unfolding container_act
send-act0 w e pl wo wp = rw (pl, wo, wp) refl

send-made0 : (w : World) (m : Kept) → Stands w m → w.place c0 ≡ Some p0 → wished_op 1 a0 (computed (w.container_past c0)) (wish 1 a0 (w.container_past c0)) ≡ None →
    call_of cfg w (ContainerStep c0 Calm) ≡ None
unfolding call_of
send-made0 w m h pl wo = rw (pl, wo, heard-by w m a0 h) refl

pub on-send0 : {w : World} {m : Kept} → Stands w m → (e : Envelope) → wished_op 1 a0 (computed m.past0) (wish 1 a0 m.past0) ≡ None →
    wished_packet c0 a0 (computed m.past0) (wish 1 a0 m.past0) ≡ Some e → wants_compute (wish 1 a0 m.past0) ≡ false →
    m.place0 ≡ Some p0 → m.alive0 ≡ true → is_over (wish 1 a0 (Sent e.body ∷ m.past0)) ≡ false → Leads w (ContainerStep c0 Calm) (stepped0 m (Sent e.body) (e ∷ []))
unfolding not_now master_act obeyed ends sent seen node_past_after
on-send0 {w} {m} h e q s c z a o = record {
  now = rw (h.alive0 ∙ a, pl, ap (λ x. wants_compute (wish 1 a0 x)) h.past0 ∙ c) refl;
  own = refl;
  call = rw made refl;
  stands = record {
    entries = rw made h.entries;
    fence = h.fence;
    barred = rw made h.barred;
    segment = rw made h.segment;
    unsealed = rw made h.unsealed;
    older = rw made h.older;
    master = h.master;
    launches = h.launches;
    others = h.others;
    seen = h.seen;
    bag = rw (wo-at, wp-at, act, pl, over) (ap (λ b. b ++ e ∷ []) h.bag);
    past0 = rw act (ap (λ x. Sent e.body ∷ x) h.past0);
    past1 = rw act h.past1;
    place0 = h.place0;
    place1 = h.place1;
    alive0 = rw (act, pl, over) (and-true _ ∙ h.alive0);
    alive1 = rw act (and-true _ ∙ h.alive1);
    node = h.node;
  };
}
  where
    pl : w.place c0 ≡ Some p0
    pl = h.place0 ∙ z

    wo : wished_op 1 a0 (computed (w.container_past c0)) (wish 1 a0 (w.container_past c0)) ≡ None
    wo = ap (λ x. wished_op 1 a0 (computed x) (wish 1 a0 x)) h.past0 ∙ q

    wp : wished_packet c0 a0 (computed (w.container_past c0)) (wish 1 a0 (w.container_past c0)) ≡ Some e
    wp = ap (λ x. wished_packet c0 a0 (computed x) (wish 1 a0 x)) h.past0 ∙ s

    wo-at : op_of cfg w c0 ≡ None
    wo-at = rw (pl, wo) refl

    wp-at : packet_of cfg w c0 ≡ Some e
    wp-at = rw (pl, wp) refl

    act : container_act cfg w (ContainerStep c0 Calm) ≡ Some (record { who = c0; step = Sent e.body })
    act = send-act0 w e pl wo wp

    made : call_of cfg w (ContainerStep c0 Calm) ≡ None
    made = send-made0 w m h pl wo

    over : is_over (wish 1 a0 (Sent e.body ∷ w.container_past c0)) ≡ false
    over = ap (λ x. is_over (wish 1 a0 (Sent e.body ∷ x))) h.past0 ∙ o

send-act1 : (w : World) (e : Envelope) → w.place c1 ≡ Some p1 → wished_op 1 a1 (computed (w.container_past c1)) (wish 1 a1 (w.container_past c1)) ≡ None →
    wished_packet c1 a1 (computed (w.container_past c1)) (wish 1 a1 (w.container_past c1)) ≡ Some e → container_act cfg w (ContainerStep c1 Calm) ≡ Some (record { who = c1; step = Sent e.body })
unfolding container_act
send-act1 w e pl wo wp = rw (pl, wo, wp) refl

send-made1 : (w : World) (m : Kept) → Stands w m → w.place c1 ≡ Some p1 → wished_op 1 a1 (computed (w.container_past c1)) (wish 1 a1 (w.container_past c1)) ≡ None →
    call_of cfg w (ContainerStep c1 Calm) ≡ None
unfolding call_of
send-made1 w m h pl wo = rw (pl, wo, heard-by w m a1 h) refl

pub on-send1 : {w : World} {m : Kept} → Stands w m → (e : Envelope) → wished_op 1 a1 (computed m.past1) (wish 1 a1 m.past1) ≡ None →
    wished_packet c1 a1 (computed m.past1) (wish 1 a1 m.past1) ≡ Some e → wants_compute (wish 1 a1 m.past1) ≡ false →
    m.place1 ≡ Some p1 → m.alive1 ≡ true → is_over (wish 1 a1 (Sent e.body ∷ m.past1)) ≡ false → Leads w (ContainerStep c1 Calm) (stepped1 m (Sent e.body) (e ∷ []))
unfolding not_now master_act obeyed ends sent seen node_past_after
on-send1 {w} {m} h e q s c z a o = record {
  now = rw (h.alive1 ∙ a, pl, ap (λ x. wants_compute (wish 1 a1 x)) h.past1 ∙ c) refl;
  own = refl;
  call = rw made refl;
  stands = record {
    entries = rw made h.entries;
    fence = h.fence;
    barred = rw made h.barred;
    segment = rw made h.segment;
    unsealed = rw made h.unsealed;
    older = rw made h.older;
    master = h.master;
    launches = h.launches;
    others = h.others;
    seen = h.seen;
    bag = rw (wo-at, wp-at, act, pl, over) (ap (λ b. b ++ e ∷ []) h.bag);
    past1 = rw act (ap (λ x. Sent e.body ∷ x) h.past1);
    past0 = rw act h.past0;
    place0 = h.place0;
    place1 = h.place1;
    alive1 = rw (act, pl, over) (and-true _ ∙ h.alive1);
    alive0 = rw act (and-true _ ∙ h.alive0);
    node = h.node;
  };
}
  where
    pl : w.place c1 ≡ Some p1
    pl = h.place1 ∙ z

    wo : wished_op 1 a1 (computed (w.container_past c1)) (wish 1 a1 (w.container_past c1)) ≡ None
    wo = ap (λ x. wished_op 1 a1 (computed x) (wish 1 a1 x)) h.past1 ∙ q

    wp : wished_packet c1 a1 (computed (w.container_past c1)) (wish 1 a1 (w.container_past c1)) ≡ Some e
    wp = ap (λ x. wished_packet c1 a1 (computed x) (wish 1 a1 x)) h.past1 ∙ s

    wo-at : op_of cfg w c1 ≡ None
    wo-at = rw (pl, wo) refl

    wp-at : packet_of cfg w c1 ≡ Some e
    wp-at = rw (pl, wp) refl

    act : container_act cfg w (ContainerStep c1 Calm) ≡ Some (record { who = c1; step = Sent e.body })
    act = send-act1 w e pl wo wp

    made : call_of cfg w (ContainerStep c1 Calm) ≡ None
    made = send-made1 w m h pl wo

    over : is_over (wish 1 a1 (Sent e.body ∷ w.container_past c1)) ≡ false
    over = ap (λ x. is_over (wish 1 a1 (Sent e.body ∷ x))) h.past1 ∙ o

abbrev pub worked0 : Kept → List ℕ → Kept
worked0 m bytes = record m { past0 = Computed bytes ∷ m.past0; bag = m.bag ++ []; node = Shelved a0 bytes ∷ m.node }

pub on-result0 : {w : World} {m : Kept} → Stands w m → (bytes : List ℕ) → wants_compute (wish 1 a0 m.past0) ≡ true → m.place0 ≡ Some p0 → m.alive0 ≡ true →
    is_some (cut 1 bytes) ≡ true → nat_le (length bytes) MAX_OUTPUT_LEN ≡ true → Leads w (Compute c0 bytes) (worked0 m bytes)
unfolding not_now call_of master_act container_act obeyed ends sent seen node_past_after
on-result0 {w} {m} h bytes c z a k l = record {
  now = rw (h.alive0 ∙ a, pl, ap (λ x. wants_compute (wish 1 a0 x)) h.past0 ∙ c, k) refl;
  own = rw pl l;
  call = refl;
  stands = record {
    entries = h.entries;
    fence = h.fence;
    barred = h.barred;
    segment = h.segment;
    unsealed = h.unsealed;
    older = h.older;
    master = h.master;
    launches = h.launches;
    others = h.others;
    seen = h.seen;
    bag = ap (λ b. b ++ []) h.bag;
    past0 = ap (λ x. Computed bytes ∷ x) h.past0;
    past1 = h.past1;
    place0 = h.place0;
    place1 = h.place1;
    alive0 = and-true _ ∙ h.alive0;
    alive1 = and-true _ ∙ h.alive1;
    node = rw pl (ap (λ x. Shelved a0 bytes ∷ x) h.node);
  };
}
  where
    pl : w.place c0 ≡ Some p0
    pl = h.place0 ∙ z

abbrev pub worked1 : Kept → List ℕ → Kept
worked1 m bytes = record m { past1 = Computed bytes ∷ m.past1; bag = m.bag ++ [] }

pub on-result1 : {w : World} {m : Kept} → Stands w m → (bytes : List ℕ) → wants_compute (wish 1 a1 m.past1) ≡ true → m.place1 ≡ Some p1 → m.alive1 ≡ true →
    nat_lt (length bytes) (2 ^ 32) ≡ true → Leads w (Compute c1 bytes) (worked1 m bytes)
unfolding not_now call_of master_act container_act obeyed ends sent seen node_past_after
on-result1 {w} {m} h bytes c z a l = record {
  now = rw (h.alive1 ∙ a, pl, ap (λ x. wants_compute (wish 1 a1 x)) h.past1 ∙ c) refl;
  own = rw pl l;
  call = refl;
  stands = record {
    entries = h.entries;
    fence = h.fence;
    barred = h.barred;
    segment = h.segment;
    unsealed = h.unsealed;
    older = h.older;
    master = h.master;
    launches = h.launches;
    others = h.others;
    seen = h.seen;
    bag = ap (λ b. b ++ []) h.bag;
    past1 = ap (λ x. Computed bytes ∷ x) h.past1;
    past0 = h.past0;
    place0 = h.place0;
    place1 = h.place1;
    alive0 = and-true _ ∙ h.alive0;
    alive1 = and-true _ ∙ h.alive1;
    node = rw pl h.node;
  };
}
  where
    pl : w.place c1 ≡ Some p1
    pl = h.place1 ∙ z
