-- Two masters of the smallest job that both live, where the namespace has no fence: what a world holds is told by a few values that compute, and each store
-- call of either is a function of them.
use Rattle.std.proofs.Common.{ℕ, ◌≡◌, ◌<◌, refl, sym, ◌∙◌, ap, subst, Bool, true, false, ◌&&◌, ◌||◌, not, nat_lt, List, [], ◌++◌, Some, None, if◌then◌else◌, arith}
use Rattle.std.specs.FinMap as finite
use Rattle.mr_world_model.specs.Content.{Op}
use Rattle.mr_world_model.specs.Packets.{Envelope, Names}
use Rattle.mr_world_model.specs.Hearing.{Seen}
use Rattle.mr_world_model.specs.Duties.{Asks, duty_of, next_seen, opening, seen}
use Rattle.mr_world_model.specs.World.{World, Event, Start, Duty, Calm, call_of, duty, master_act, reply_of, seen_by}
use Rattle.mr_world_model.specs.Effect.{effect, not_now}
use Rattle.mr_world_model.specs.Sending.{sent, step_sends}
use Rattle.mr_world_model.specs.Claims.{world_of}
use Rattle.mr_world_model.proofs.Entries.{Lines, left_in, reply_in, left-in, reply-in}
use Rattle.mr_world_model.proofs.Found.{always}
use Rattle.mr_world_model.proofs.Small.{Small, Stands, free, small, taken}
use Rattle.mr_world_model.proofs.Told.{new_seen}
use Rattle.mr_world_weaker.specs.Lacking.{Kind, AreBorne, answered_as, caller_in, effect_as, slips, unguarded, weak_effect, weak_happens, weak_world_of}
use Rattle.mr_world_weaker.proofs.Borne.{nobody-slips, none-slips}
use Rattle.mr_world_weaker.proofs.Slips.{happens-same, only-who-slips}

-- what is kept of a world
pub record Two : Type 0 where
  pub entries : Lines
  pub one : Seen
  pub two : Seen
  pub bag : List Envelope

pub record Holds (w : World) (m : Two) : Type 0 where
  pub entries : finite.entries w.content ≡ m.entries
  pub fence : w.fence ≡ 2
  pub first : w.is_master 1 ≡ true
  pub second : w.is_master 2 ≡ true
  pub one : seen_by small w 1 ≡ m.one
  pub two : seen_by small w 2 ≡ m.two
  pub bag : w.bag ≡ m.bag

-- ---- the second master starts

abbrev pub started : Small → Two
started m = record { entries = m.entries; one = m.seen; two = opening; bag = m.bag ++ [] }

weak-start : (kd : Kind) (w : World) → not_now small w (Start 2 0) ≡ None → weak_happens kd small free w (Start 2 0) ≡ effect small w (Start 2 0)
weak-start kd w n = happens-same kd small free w (Start 2 0) (λ p l. refl) ∙ taken w (Start 2 0) n

on-start : (kd : Kind) (w : World) (m : Small) → Stands w m → seen_by small (effect small w (Start 2 0)) 2 ≡ opening → Holds (weak_happens kd small free w (Start 2 0)) (started m)
unfolding not_now call_of master_act sent seen
on-start kd w m h o = rw (weak-start kd w permitted) (record {
  entries = h.entries;
  fence = refl;
  first = h.master;
  second = refl;
  one = h.seen;
  two = o;
  bag = ap (λ b. b ++ []) h.bag;
})
  where
    permitted : not_now small w (Start 2 0) ≡ None
    permitted = rw h.fence refl

-- behind events that each store bears, so that they lead to the cluster's own world
pub begin : (kd : Kind) (es : List Event) (m : Small) → AreBorne kd es → Stands (world_of small free es) m → Holds (weak_happens kd small free (weak_world_of kd small free es) (Start 2 0)) (started m)
unfolding not_now
begin kd es m b h = subst (λ w. Holds (weak_happens kd small free w (Start 2 0)) (started m)) (sym (only-who-slips kd small free es (nobody-slips kd small free es b)))
    (on-start kd (world_of small free es) m h (new_seen small (world_of small free es) (Start 2 0) (always small free es).known.honest permitted 2 below))
  where
    permitted : not_now small (world_of small free es) (Start 2 0) ≡ None
    permitted = rw h.fence refl

    below : (world_of small free es).fence < 2
    below = rw h.fence (omega arith)

-- ---- a call of the namespace by the second master, which is heard anyway

abbrev pub asked_two : Two → Op → Two
asked_two m op = record m {
  entries = left_in m.entries op;
  two = next_seen small 2 m.two (Asks (Names op) (reply_in m.entries op));
  bag = m.bag ++ step_sends small m.two (next_seen small 2 m.two (Asks (Names op) (reply_in m.entries op))) (Asks (Names op) (reply_in m.entries op));
}

weak-two : (kd : Kind) (w : World) → w.fence ≡ 2 → not_now small w (Duty 2 Calm) ≡ None → weak_happens kd small free w (Duty 2 Calm) ≡ effect small w (Duty 2 Calm)
weak-two kd w f n = happens-same kd small free w (Duty 2 Calm) (λ p l. none-slips kd.fence kd.bars (nat_lt 2 w.fence) false (λ x. ap (λ z. nat_lt 2 z) f) (λ x. refl)) ∙ taken w (Duty 2 Calm) n

reply-at : (w : World) (k : ℕ) (m : Two) → finite.entries w.content ≡ m.entries → nat_lt k w.fence ≡ false → (op : Op) → reply_of w k (Names op) ≡ reply_in m.entries op
unfolding reply_of
reply-at w k m e l op = rw l (reply-in w.content m.entries e op)

pub on-two : (kd : Kind) {w : World} {m : Two} → Holds w m → (op : Op) → duty_of small 2 m.two m.two.phase ≡ Some (Names op) → Holds (weak_happens kd small free w (Duty 2 Calm)) (asked_two m op)
unfolding not_now call_of master_act sent seen
on-two kd {w} {m} h op q = rw (weak-two kd w h.fence permitted) (record {
  entries = rw (d, h.fence) (left-in w.content m.entries h.entries op);
  fence = h.fence;
  first = h.first;
  second = h.second;
  one = rw d h.one;
  two = rw d (λ i. next_seen small 2 (h.two i) (Asks (Names op) (r i)));
  bag = rw d (λ i. h.bag i ++ step_sends small (h.two i) (next_seen small 2 (h.two i) (Asks (Names op) (r i))) (Asks (Names op) (r i)));
})
  where
    d : duty small w 2 ≡ Some (Names op)
    d = ap (λ (s : Seen). duty_of small 2 s s.phase) h.two ∙ q

    r : reply_of w 2 (Names op) ≡ reply_in m.entries op
    r = reply-at w 2 m h.entries (ap (λ f. nat_lt 2 f) h.fence) op

    permitted : not_now small w (Duty 2 Calm) ≡ None
    permitted = rw (h.second, d) refl

-- ---- a call of the namespace by the first master, which slips through

abbrev pub asked_one : Two → Op → Two
asked_one m op = record m {
  entries = left_in m.entries op;
  one = next_seen small 1 m.one (Asks (Names op) (reply_in m.entries op));
  bag = m.bag ++ step_sends small m.one (next_seen small 1 m.one (Asks (Names op) (reply_in m.entries op))) (Asks (Names op) (reply_in m.entries op));
}

abbrev unfenced : Kind → World → World
unfenced kd w = record (unguarded kd w (record { app = 1; attempt = None })) { fence = 1 }

pub weak-taken : (kd : Kind) (w : World) (e : Event) → not_now small w e ≡ None → weak_happens kd small free w e ≡ effect_as small w e (answered_as kd w (caller_in w e))
unfolding weak_happens weak_effect
weak-taken kd w e n = rw n refl

slips-late : (f low other : Bool) → f ≡ false → low ≡ true → ((not f && low) || other) ≡ true
slips-late f low other p q = rw (p, q) refl

weak-one : (kd : Kind) (w : World) → kd.fence ≡ false → w.fence ≡ 2 → not_now small w (Duty 1 Calm) ≡ None → weak_happens kd small free w (Duty 1 Calm) ≡ effect_as small w (Duty 1 Calm) (unfenced kd w)
weak-one kd w l f n = made ∙ (ap (λ b. effect_as small w (Duty 1 Calm) (if b then unguarded kd w (record { app = 1; attempt = None }) else w)) slipped
    ∙ ap (λ b. effect_as small w (Duty 1 Calm) (record (unguarded kd w (record { app = 1; attempt = None })) { fence = if b then w.fence else 1 })) l)
  where
    slipped : slips kd w (record { app = 1; attempt = None }) ≡ true
    slipped = slips-late kd.fence (nat_lt 1 w.fence) (not kd.bars && false) l (ap (λ z. nat_lt 1 z) f)

    made : weak_happens kd small free w (Duty 1 Calm) ≡ effect_as small w (Duty 1 Calm) (if slips kd w (record { app = 1; attempt = None }) then unguarded kd w (record { app = 1; attempt = None }) else w)
    made = weak-taken kd w (Duty 1 Calm) n

pub on-one : (kd : Kind) → kd.fence ≡ false → {w : World} {m : Two} → Holds w m → (op : Op) → duty_of small 1 m.one m.one.phase ≡ Some (Names op) → Holds (weak_happens kd small free w (Duty 1 Calm)) (asked_one m op)
unfolding not_now call_of master_act sent seen
on-one kd l {w} {m} h op q = rw (weak-one kd w l h.fence permitted) (record {
  entries = rw d (left-in w.content m.entries h.entries op);
  fence = h.fence;
  first = h.first;
  second = h.second;
  one = rw d (λ i. next_seen small 1 (h.one i) (Asks (Names op) (r i)));
  two = rw d h.two;
  bag = rw d (λ i. h.bag i ++ step_sends small (h.one i) (next_seen small 1 (h.one i) (Asks (Names op) (r i))) (Asks (Names op) (r i)));
})
  where
    d : duty small w 1 ≡ Some (Names op)
    d = ap (λ (s : Seen). duty_of small 1 s s.phase) h.one ∙ q

    r : reply_of (unfenced kd w) 1 (Names op) ≡ reply_in m.entries op
    r = reply-at (unfenced kd w) 1 m h.entries refl op

    permitted : not_now small w (Duty 1 Calm) ≡ None
    permitted = rw (h.first, d) refl
