-- Over events that a store bears nobody slips through.
use Rattle.std.proofs.Common.{ℕ, ◌≤◌, ◌≡◌, refl, sym, ◌∙◌, ap, subst, Bool, true, false, ◌&&◌, ◌||◌, not, List, [], ◌∷◌, Option, Some, None, nat_lt, arith}
use Rattle.std.proofs.lemmas.Bool.{false≢true, ltb-false, ltb-true}
use Rattle.mr_world_model.specs.Ids.{Attempt, ContainerId}
use Rattle.mr_world_model.specs.Packets.{Config, Caller}
use Rattle.mr_world_model.specs.World.{World, Event, Start, Crash, Duty, LaunchOn, Deliver, ContainerStep, Compute, Die, NodeRestart, Expire, caller_of, has_option, opening_world}
use Rattle.mr_world_model.specs.Effect.{effect, fence_after, happens, not_now, NoContainer, NoMaster}
use Rattle.mr_world_model.specs.Claims.{Limits}
use Rattle.mr_world_model.proofs.Basic.{taken_or_not, unless_parts}
use Rattle.mr_world_model.proofs.Cluster.{launched_as}
use Rattle.mr_world_model.proofs.Numbers.{Numbers, numbers, opening-numbers}
use Rattle.mr_world_weaker.specs.Lacking.{Kind, NobodySlips, AreBorne, is_borne, caller_in, slips, slips_in}
use Rattle.mr_world_weaker.specs.Weaker.{NobodySlipsOverTheseEvents}
use Rattle.mr_world_weaker.proofs.Bars_due.{Unbarred, gives_up, opening-unbarred, unbarred}

-- what is known of the cluster's world over events that a store of a kind bears
record Known (kd : Kind) (cfg : Config) (w : World) : Type 0 where
  numbers : Numbers cfg w
  first : kd.fence ≡ false → w.fence ≤ 1
  unbarred : kd.bars ≡ false → Unbarred cfg w

pub not-below : (k f : ℕ) → f ≤ k → nat_lt k f ≡ false
not-below k f l = by (nat_lt k f) refl
  where
    by : (b : Bool) → nat_lt k f ≡ b → nat_lt k f ≡ false
    by false q = q
    by true q = let u = ltb-true k f q in absurd (omega (arith, u, l))

pub none-slips : (f b low barred : Bool) → (f ≡ false → low ≡ false) → (b ≡ false → barred ≡ false) → ((not f && low) || (not b && barred)) ≡ false
none-slips true true low barred p q = refl
none-slips true false low barred p q = q refl
none-slips false true low barred p q = rw (p refl) refl
none-slips false false low barred p q = rw (p refl, q refl) refl

pub has-none : (bs : List Attempt) (a : Option Attempt) → bs ≡ [] → has_option bs a ≡ false
has-none bs None e = refl
has-none bs (Some a) e = rw e refl

caller-stays : (kd : Kind) (cfg : Config) (w : World) → Known kd cfg w → (c : Caller) → 1 ≤ c.app → slips kd w c ≡ false
caller-stays kd cfg w h c one = none-slips kd.fence kd.bars (nat_lt c.app w.fence) (has_option w.barred c.attempt)
    (λ f. let l = h.first f in not-below c.app w.fence (omega (arith, l, one)))
    (λ b. has-none w.barred c.attempt (h.unbarred b).none)

container-started : (kd : Kind) (cfg : Config) (w : World) → Known kd cfg w → (c : ContainerId) → w.is_alive c ≡ true → 1 ≤ c.app
container-started kd cfg w h c a =
    let p = h.numbers.clusters.alive c a in
    let l = (h.numbers.clusters.places c p.0 p.1).0 in
    (h.numbers.ranged c.app (launched_as c (p.0).attempt (p.0).node (p.0).incarnation) l).0

stays : (kd : Kind) (cfg : Config) (w : World) → Known kd cfg w → (e : Event) → not_now cfg w e ≡ None → slips_in kd w (caller_in w e) ≡ false
unfolding not_now
stays kd cfg w h (Duty k f) n = caller-stays kd cfg w h (record { app = k; attempt = None }) (h.numbers.positive k (unless_parts (w.is_master k) NoMaster _ n).0)
stays kd cfg w h (ContainerStep c f) n = caller-stays kd cfg w h (caller_of w c) (container-started kd cfg w h c (unless_parts (w.is_alive c) NoContainer _ n).0)
stays kd cfg w h (Start k kept) n = refl
stays kd cfg w h (Crash k kept) n = refl
stays kd cfg w h (LaunchOn k t m) n = refl
stays kd cfg w h (Deliver i) n = refl
stays kd cfg w h (Compute c b) n = refl
stays kd cfg w h (Die c) n = refl
stays kd cfg w h (NodeRestart m) n = refl
stays kd cfg w h (Expire k m) n = refl

not-above : (k : ℕ) → not (nat_lt 1 k) ≡ true → k ≤ 1
not-above k n = by (nat_lt 1 k) refl
  where
    by : (b : Bool) → nat_lt 1 k ≡ b → k ≤ 1
    by true q = absurd (false≢true (ap not (sym q) ∙ n))
    by false q = ltb-false 1 k q

fence-first : (kd : Kind) (w : World) (e : Event) → is_borne kd e ≡ true → kd.fence ≡ false → w.fence ≤ 1 → fence_after w e ≤ 1
fence-first kd w (Start k kept) b f l = not-above k (subst (λ z. (z || not (nat_lt 1 k)) ≡ true) f b)
fence-first kd w (Crash k kept) b f l = l
fence-first kd w (Duty k g) b f l = l
fence-first kd w (LaunchOn k t m) b f l = l
fence-first kd w (Deliver i) b f l = l
fence-first kd w (ContainerStep c g) b f l = l
fence-first kd w (Compute c x) b f l = l
fence-first kd w (Die c) b f l = l
fence-first kd w (NodeRestart m) b f l = l
fence-first kd w (Expire k m) b f l = l

none-given-up : (kd : Kind) (e : Event) → is_borne kd e ≡ true → kd.bars ≡ false → gives_up e ≡ false
none-given-up kd (Expire k m) b f = absurd (false≢true (sym f ∙ b))
none-given-up kd (Start k kept) b f = refl
none-given-up kd (Crash k kept) b f = refl
none-given-up kd (Duty k g) b f = refl
none-given-up kd (LaunchOn k t m) b f = refl
none-given-up kd (Deliver i) b f = refl
none-given-up kd (ContainerStep c g) b f = refl
none-given-up kd (Compute c x) b f = refl
none-given-up kd (Die c) b f = refl
none-given-up kd (NodeRestart m) b f = refl

kept : (kd : Kind) (cfg : Config) (w : World) (e : Event) → is_borne kd e ≡ true → Known kd cfg w → not_now cfg w e ≡ None → Known kd cfg (effect cfg w e)
kept kd cfg w e b h n = record {
  numbers = numbers cfg w e h.numbers n;
  first = λ f. fence-first kd w e b f (h.first f);
  unbarred = λ f. unbarred cfg w e (none-given-up kd e b f) (h.unbarred f);
}

over : (kd : Kind) (cfg : Config) (within : Limits) (w : World) (es : List Event) → Known kd cfg w → AreBorne kd es → NobodySlips kd cfg within w es
over kd cfg within w [] h b = tt
over kd cfg within w (e ∷ es) h b = (λ n l. stays kd cfg w h e n, over kd cfg within (happens cfg within w e) es (taken_or_not (Known kd cfg) cfg within w e h (kept kd cfg w e b.0 h)) b.1)

opening : (kd : Kind) (cfg : Config) → Known kd cfg opening_world
opening kd cfg = record { numbers = opening-numbers cfg; first = λ f. omega arith; unbarred = λ b. opening-unbarred cfg }

pub nobody-slips : NobodySlipsOverTheseEvents
nobody-slips kd cfg within es b = over kd cfg within opening_world es (opening kd cfg) b
