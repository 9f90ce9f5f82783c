-- Two attempts at the reduce of the smallest job, the first of which was given up, in a world whose namespace lacks bars: who slips through, and what that does.
use Rattle.std.proofs.Common.{ℕ, ◌≡◌, refl, sym, ◌∙◌, ap, subst, Bool, true, false, ◌&&◌, ◌||◌, not, nat_lt, [], ◌∷◌, ◌++◌, Some, None, if◌then◌else◌}
use Rattle.std.specs.FinMap as finite
use Rattle.mr_world_model.specs.Content.{Op}
use Rattle.mr_world_model.specs.Packets.{Store, Names}
use Rattle.mr_world_model.specs.Pasts.{Called, wish, computed, wished_op}
use Rattle.mr_world_model.specs.Hearing.{has}
use Rattle.mr_world_model.specs.Duties.{duty_of, seen}
use Rattle.mr_world_model.specs.World.{World, Duty, ContainerStep, Calm, reply_of, call_of, master_act, container_act, obeyed, ends, barred_left, is_over, op_of, reply_to, caller_of, as_heard, has_option, attempt_of}
use Rattle.mr_world_model.specs.Effect.{not_now, wants_compute, node_past_after}
use Rattle.mr_world_model.specs.Sending.{sent}
use Rattle.mr_world_model.proofs.Entries.{Lines, left_in, reply_in, left-in, reply-in}
use Rattle.mr_world_model.proofs.Small.{a0, c0, free, p0, small}
use Rattle.mr_world_weaker.specs.Lacking.{Kind, caller_in, effect_as, slips, slips_in, unguarded, weak_happens}
use Rattle.mr_world_weaker.proofs.Borne.{none-slips}
use Rattle.mr_world_weaker.proofs.Rivals.{Both, Holds, a1, and-true, c1, called, heard-second, on-duty, p1}
use Rattle.mr_world_weaker.proofs.Slips.{happens-same}
use Rattle.mr_world_weaker.proofs.Two.{weak-taken}

-- ---- neither the master slips through, nor the second

pub master-stays : (kd : Kind) {w : World} {m : Both} → Holds w m → slips_in kd w (caller_in w (Duty 1 Calm)) ≡ false
master-stays kd {w} h = none-slips kd.fence kd.bars (nat_lt 1 w.fence) false (λ x. ap (λ k. nat_lt 1 k) h.fence) (λ x. refl)

pub second-stays : (kd : Kind) {w : World} {m : Both} → Holds w m → m.place ≡ Some p1 → has m.barred a1 ≡ false → slips_in kd w (caller_in w (ContainerStep c1 Calm)) ≡ false
second-stays kd {w} h z u = none-slips kd.fence kd.bars (nat_lt 1 w.fence) (has_option w.barred (attempt_of (w.place c1)))
    (λ x. ap (λ k. nat_lt 1 k) h.fence)
    (λ x. ap (λ o. has_option w.barred (attempt_of o)) (h.place ∙ z) ∙ heard-second h u)

pub weak-duty : (kd : Kind) {w : World} {m : Both} → Holds w m → (call : Store) → duty_of small 1 m.seen m.seen.phase ≡ Some call → Holds (weak_happens kd small free w (Duty 1 Calm)) (called m call)
weak-duty kd {w} {m} h call q = subst (λ u. Holds u (called m call)) (sym (happens-same kd small free w (Duty 1 Calm) (λ p l. master-stays kd h))) (on-duty h call q)

-- ---- a call of the first's container, which is barred, and slips through where bars turn nobody away

-- as it is answered
abbrev heard_anyway : World → World
heard_anyway w = record w { fence = 1; barred = [] }

slips-barred : (f low b h : Bool) → b ≡ false → h ≡ true → ((not f && low) || (not b && h)) ≡ true
slips-barred true true b h p q = rw (p, q) refl
slips-barred true false b h p q = rw (p, q) refl
slips-barred false true b h p q = refl
slips-barred false false b h p q = rw (p, q) refl

one-fence : (b : Bool) (k : ℕ) → k ≡ 1 → (if b then k else 1) ≡ 1
one-fence true k e = e
one-fence false k e = refl

weak-first : (kd : Kind) (w : World) → kd.bars ≡ false → w.fence ≡ 1 → has_option w.barred (attempt_of (w.place c0)) ≡ true → not_now small w (ContainerStep c0 Calm) ≡ None →
    weak_happens kd small free w (ContainerStep c0 Calm) ≡ effect_as small w (ContainerStep c0 Calm) (heard_anyway w)
weak-first kd w l f b n = made ∙ (ap (λ x. effect_as small w (ContainerStep c0 Calm) (if x then unguarded kd w (caller_of w c0) else w)) slipped
    ∙ (ap (λ x. effect_as small w (ContainerStep c0 Calm) (record w { fence = if kd.fence then w.fence else 1; barred = if x then w.barred else [] })) l
    ∙ ap (λ k. effect_as small w (ContainerStep c0 Calm) (record w { fence = k; barred = [] })) (one-fence kd.fence w.fence f)))
  where
    slipped : slips kd w (caller_of w c0) ≡ true
    slipped = slips-barred kd.fence (nat_lt 1 w.fence) kd.bars (has_option w.barred (attempt_of (w.place c0))) l b

    made : weak_happens kd small free w (ContainerStep c0 Calm) ≡ effect_as small w (ContainerStep c0 Calm) (if slips kd w (caller_of w c0) then unguarded kd w (caller_of w c0) else w)
    made = weak-taken kd w (ContainerStep c0 Calm) n

first-answered : (w : World) (es : Lines) → finite.entries w.content ≡ es → (op : Op) → w.place c0 ≡ Some p0 → reply_to (heard_anyway w) (caller_of w c0) (Names op) ≡ reply_in es op
unfolding reply_to reply_of
first-answered w es e op pl = rw pl (reply-in w.content es e op)

first-act : (w : World) (es : Lines) → finite.entries w.content ≡ es → (op : Op) → w.place c0 ≡ Some p0 → wished_op 1 a0 (computed (w.container_past c0)) (wish 0 a0 (w.container_past c0)) ≡ Some op →
    container_act small (heard_anyway w) (ContainerStep c0 Calm) ≡ Some (record { who = c0; step = Called op (as_heard (reply_in es op)) })
unfolding container_act
first-act w es e op pl wo = rw wo-at (ap (λ r. Some (record { who = c0; step = Called op (as_heard r) })) (first-answered w es e op pl))
  where
    wo-at : op_of small w c0 ≡ Some op
    wo-at = rw (pl, wo) refl

first-made : (w : World) (op : Op) → w.place c0 ≡ Some p0 → wished_op 1 a0 (computed (w.container_past c0)) (wish 0 a0 (w.container_past c0)) ≡ Some op →
    call_of small (heard_anyway w) (ContainerStep c0 Calm) ≡ Some (record { app = 1; call = Names op; fault = Calm })
unfolding call_of
first-made w op pl wo = rw (pl, wo) refl

abbrev pub called_first : Both → Op → Both
called_first m op = record m {
  entries = left_in m.entries op;
  barred = barred_left m.barred (Names op);
  bag = m.bag ++ [];
  first = Called op (as_heard (reply_in m.entries op)) ∷ m.first;
}

pub on-first : (kd : Kind) → kd.bars ≡ false → {w : World} {m : Both} → Holds w m → (op : Op) → wished_op 1 a0 (computed m.first) (wish 0 a0 m.first) ≡ Some op → wants_compute (wish 0 a0 m.first) ≡ false →
    has m.barred a0 ≡ true → is_over (wish 0 a0 (Called op (as_heard (reply_in m.entries op)) ∷ m.first)) ≡ false → Holds (weak_happens kd small free w (ContainerStep c0 Calm)) (called_first m op)
unfolding not_now master_act obeyed ends sent seen node_past_after
on-first kd l {w} {m} h op q c b o = rw (weak-first kd w l h.fence is-barred permitted) (record {
  entries = rw made (left-in w.content m.entries h.entries op);
  fence = h.fence;
  barred = rw made (ap (λ bs. barred_left bs (Names op)) h.barred);
  unsealed = rw made h.unsealed;
  older = rw made h.older;
  master = h.master;
  seen = h.seen;
  bag = rw (wo-at, act, h.first_place, over) (ap (λ b. b ++ []) h.bag);
  first = rw act (ap (λ x. Called op (as_heard (reply_in m.entries op)) ∷ x) h.first);
  first_place = h.first_place;
  first_alive = rw (act, h.first_place, over) (and-true _ ∙ h.first_alive);
  second = rw act h.second;
  place = h.place;
  alive = rw act (and-true _ ∙ h.alive);
  node = h.node;
})
  where
    wo : wished_op 1 a0 (computed (w.container_past c0)) (wish 0 a0 (w.container_past c0)) ≡ Some op
    wo = ap (λ x. wished_op 1 a0 (computed x) (wish 0 a0 x)) h.first ∙ q

    wo-at : op_of small w c0 ≡ Some op
    wo-at = rw (h.first_place, wo) refl

    act : container_act small (heard_anyway w) (ContainerStep c0 Calm) ≡ Some (record { who = c0; step = Called op (as_heard (reply_in m.entries op)) })
    act = first-act w m.entries h.entries op h.first_place wo

    made : call_of small (heard_anyway w) (ContainerStep c0 Calm) ≡ Some (record { app = 1; call = Names op; fault = Calm })
    made = first-made w op h.first_place wo

    over : is_over (wish 0 a0 (Called op (as_heard (reply_in m.entries op)) ∷ w.container_past c0)) ≡ false
    over = ap (λ x. is_over (wish 0 a0 (Called op (as_heard (reply_in m.entries op)) ∷ x))) h.first ∙ o

    is-barred : has_option w.barred (attempt_of (w.place c0)) ≡ true
    is-barred = ap (λ x. has_option w.barred (attempt_of x)) h.first_place ∙ (ap (λ bs. has bs a0) h.barred ∙ b)

    permitted : not_now small w (ContainerStep c0 Calm) ≡ None
    permitted = rw (h.first_alive, h.first_place, ap (λ x. wants_compute (wish 0 a0 x)) h.first ∙ c) refl
