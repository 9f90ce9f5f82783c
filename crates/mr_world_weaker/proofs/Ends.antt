-- Where who is superseded, or given up, has ended before, nobody slips through.
use Rattle.std.proofs.Common.{ℕ, ◌≤◌, ◌≡◌, refl, sym, ◌∙◌, ap, subst, Bool, true, false, ◌||◌, List, [], ◌∷◌, ◌++◌, Option, Some, None, if◌then◌else◌, nat_eq, nat_lt, ◌⊎◌, inl, inr, arith}
use Rattle.std.proofs.lemmas.Bool.{and_parts, false≢true, eqb-true}
use Rattle.mr_world_model.specs.Ids.{Attempt, ContainerId, attempt_eq, container_eq}
use Rattle.mr_world_model.specs.Content.{Op, Bar, bar_of}
use Rattle.mr_world_model.specs.Packets.{Config, Store, Names, Append_record, Flush, Read_history}
use Rattle.mr_world_model.specs.Pasts.{Place}
use Rattle.mr_world_model.specs.Hearing.{has}
use Rattle.mr_world_model.specs.World.{World, Event, Start, Crash, Duty, LaunchOn, Deliver, ContainerStep, Compute, Die, NodeRestart, Expire, Obeyed, Weather, attempt_of, call_of, caller_of, duty, duty_made, has_option, is_applied, is_stopped, obeyed, op_made, op_of, opening_world, unless_stopped, with_bar}
use Rattle.mr_world_model.specs.Effect.{barred_after, effect, fence_after, happens, is_master_after, is_obeyed, not_now, with_place, NoContainer, NoMaster}
use Rattle.mr_world_model.specs.Claims.{Limits}
use Rattle.mr_world_model.proofs.Basic.{if_cases, or_parts, taken_or_not, unless_parts}
use Rattle.mr_world_model.proofs.Lists.{attempt_eq-true}
use Rattle.mr_world_model.proofs.Closed.{container_eq-true}
use Rattle.mr_world_weaker.specs.Lacking.{Kind, NobodySlips, AllEndFirst, EndsFirst, caller_in, slips_in}
use Rattle.mr_world_weaker.specs.Weaker.{NobodySlipsWhoEndsFirst}
use Rattle.mr_world_weaker.proofs.Bars_due.{op-none}
use Rattle.mr_world_weaker.proofs.Borne.{none-slips, not-below}

-- whoever lives is of the newest generation, and no attempt is barred whose container lives
record Ended (kd : Kind) (w : World) : Type 0 where
  masters : kd.fence ≡ false → (k : ℕ) → w.is_master k ≡ true → w.fence ≤ k
  containers : kd.fence ≡ false → (c : ContainerId) → w.is_alive c ≡ true → w.fence ≤ c.app
  attempts : kd.bars ≡ false → (c : ContainerId) (p : Place) → w.place c ≡ Some p → w.is_alive c ≡ true → has w.barred p.attempt ≡ false

-- Nobody slips through now

of-place : (kd : Kind) (w : World) → Ended kd w → kd.bars ≡ false → (c : ContainerId) → w.is_alive c ≡ true → (p : Option Place) → w.place c ≡ p → has_option w.barred (attempt_of p) ≡ false
of-place kd w h b c a None q = refl
of-place kd w h b c a (Some p) q = h.attempts b c p q a

stays : (kd : Kind) (cfg : Config) (w : World) → Ended kd w → (e : Event) → not_now cfg w e ≡ None → slips_in kd w (caller_in w e) ≡ false
unfolding not_now
stays kd cfg w h (Duty k f) n =
    none-slips kd.fence kd.bars (nat_lt k w.fence) false (λ f. not-below k w.fence (h.masters f k (unless_parts (w.is_master k) NoMaster _ n).0)) (λ b. refl)
stays kd cfg w h (ContainerStep c f) n =
    let a = (unless_parts (w.is_alive c) NoContainer _ n).0 in
    none-slips kd.fence kd.bars (nat_lt c.app w.fence) (has_option w.barred (attempt_of (w.place c))) (λ f. not-below c.app w.fence (h.containers f c a)) (λ b. of-place kd w h b c a (w.place c) refl)
stays kd cfg w h (Start k kept) n = refl
stays kd cfg w h (Crash k kept) n = refl
stays kd cfg w h (LaunchOn k t m) n = refl
stays kd cfg w h (Deliver i) n = refl
stays kd cfg w h (Compute c b) n = refl
stays kd cfg w h (Die c) n = refl
stays kd cfg w h (NodeRestart m) n = refl
stays kd cfg w h (Expire k m) n = refl

-- What an event leaves of it: of masters

masters-after : (kd : Kind) (cfg : Config) (w : World) (e : Event) → Ended kd w → EndsFirst kd cfg w e → kd.fence ≡ false → (k : ℕ) → is_master_after w e k ≡ true → fence_after w e ≤ k
masters-after kd cfg w (Start j kept) h o f k m = by (or_parts (nat_eq k j) (w.is_master k) m)
  where
    by : (nat_eq k j ≡ true) ⊎ (w.is_master k ≡ true) → j ≤ k
    by (inl q) = let r = eqb-true k j q in omega (arith, r)
    by (inr q) = absurd (false≢true (sym ((o f).0 k) ∙ q))
masters-after kd cfg w (Crash j kept) h o f k m = h.masters f k (and_parts _ _ m).1
masters-after kd cfg w (Duty j g) h o f k m = h.masters f k m
masters-after kd cfg w (LaunchOn j t n) h o f k m = h.masters f k m
masters-after kd cfg w (Deliver i) h o f k m = h.masters f k m
masters-after kd cfg w (ContainerStep c g) h o f k m = h.masters f k m
masters-after kd cfg w (Compute c b) h o f k m = h.masters f k m
masters-after kd cfg w (Die c) h o f k m = h.masters f k m
masters-after kd cfg w (NodeRestart n) h o f k m = h.masters f k m
masters-after kd cfg w (Expire j n) h o f k m = h.masters f k m

-- of containers: one that lives lived before, or its launch was obeyed

lived : (cfg : Config) (w : World) (e : Event) (c : ContainerId) → (effect cfg w e).is_alive c ≡ true → (is_obeyed (obeyed w e) c ≡ true) ⊎ (w.is_alive c ≡ true)
lived cfg w e c a = or_parts _ _ (and_parts _ _ a).0

obeyed-is : (o : Option Obeyed) (c : ContainerId) → is_obeyed o c ≡ true → (x : Obeyed) × (o ≡ Some x) × (c ≡ x.container)
obeyed-is None c q = absurd (false≢true q)
obeyed-is (Some x) c q = (x, refl, container_eq-true c x.container q)

-- only a packet that comes is a launch that is obeyed
none-obeyed : (w : World) (e : Event) → (o : Obeyed) → obeyed w e ≡ Some o → (i : ℕ) × (e ≡ Deliver i)
unfolding obeyed
none-obeyed w (Deliver i) o q = (i, refl)
none-obeyed w (Start k kept) o q = cc
none-obeyed w (Crash k kept) o q = cc
none-obeyed w (Duty k f) o q = cc
none-obeyed w (LaunchOn k t n) o q = cc
none-obeyed w (ContainerStep c f) o q = cc
none-obeyed w (Compute c b) o q = cc
none-obeyed w (Die c) o q = cc
none-obeyed w (NodeRestart n) o q = cc
none-obeyed w (Expire k n) o q = cc

-- a start apart, the fence stays
fence-same : (w : World) (e : Event) (i : ℕ) → e ≡ Deliver i → fence_after w e ≡ w.fence
fence-same w e i q = ap (fence_after w) q

obeyed-new : (kd : Kind) (cfg : Config) (w : World) (e : Event) → EndsFirst kd cfg w e → (o : Obeyed) → obeyed w e ≡ Some o →
    ((kd.fence ≡ false → fence_after w e ≤ o.container.app) × (kd.bars ≡ false → has w.barred o.place.attempt ≡ false))
obeyed-new kd cfg w e first o q =
    let d = none-obeyed w e o q in
    let u = subst (EndsFirst kd cfg w) d.1 first o (ap (obeyed w) (sym d.1) ∙ q) in
    (λ f. subst (λ z. z ≤ o.container.app) (sym (fence-same w e d.0 d.1)) (u.0 f), u.1)

lives-newest : (kd : Kind) (cfg : Config) (w : World) (e : Event) → Ended kd w → EndsFirst kd cfg w e → kd.fence ≡ false → (c : ContainerId) → w.is_alive c ≡ true → fence_after w e ≤ c.app
lives-newest kd cfg w (Start k kept) h o f c a = absurd (false≢true (sym ((o f).1 c) ∙ a))
lives-newest kd cfg w (Crash j kept) h o f c a = h.containers f c a
lives-newest kd cfg w (Duty j g) h o f c a = h.containers f c a
lives-newest kd cfg w (LaunchOn j t n) h o f c a = h.containers f c a
lives-newest kd cfg w (Deliver i) h o f c a = h.containers f c a
lives-newest kd cfg w (ContainerStep d g) h o f c a = h.containers f c a
lives-newest kd cfg w (Compute d b) h o f c a = h.containers f c a
lives-newest kd cfg w (Die d) h o f c a = h.containers f c a
lives-newest kd cfg w (NodeRestart n) h o f c a = h.containers f c a
lives-newest kd cfg w (Expire j n) h o f c a = h.containers f c a

containers-after : (kd : Kind) (cfg : Config) (w : World) (e : Event) → Ended kd w → EndsFirst kd cfg w e → kd.fence ≡ false → (c : ContainerId) → (effect cfg w e).is_alive c ≡ true → fence_after w e ≤ c.app
containers-after kd cfg w e h o f c a = by (lived cfg w e c a)
  where
    by : (is_obeyed (obeyed w e) c ≡ true) ⊎ (w.is_alive c ≡ true) → fence_after w e ≤ c.app
    by (inl q) = let x = obeyed-is (obeyed w e) c q in subst (λ (z : ContainerId). fence_after w e ≤ z.app) (sym x.2) ((obeyed-new kd cfg w e o x.0 x.1).0 f)
    by (inr q) = lives-newest kd cfg w e h o f c q

-- of attempts: what an event bars

bars-more : (bs : List Attempt) (b a : Attempt) → has bs a ≡ false → (a ≡ b → ⊥) → has (bs ++ b ∷ []) a ≡ false
bars-more [] b a e n = by (attempt_eq a b) refl
  where
    by : (t : Bool) → attempt_eq a b ≡ t → (t || false) ≡ false
    by true q = absurd (n (attempt_eq-true a b q))
    by false q = refl
bars-more (x ∷ bs) b a e n = by (attempt_eq a x) e (λ f. bars-more bs b a f n)
  where
    by : (t : Bool) → (t || has bs a) ≡ false → (has bs a ≡ false → has (bs ++ b ∷ []) a ≡ false) → (t || has (bs ++ b ∷ []) a) ≡ false
    by true e f = absurd (false≢true (sym e))
    by false e f = f e

bar-others : (m : Option Attempt) (bs : List Attempt) (a : Attempt) → has bs a ≡ false → ((b : Attempt) → m ≡ Some b → a ≡ b → ⊥) → has (with_bar m bs) a ≡ false
bar-others None bs a e n = e
bar-others (Some b) bs a e n = if_cases (λ z. has z a ≡ false) (has bs b) _ _ (λ t. e) (λ t. bars-more bs b a e (n b refl))

made-others : (w : World) (k : ℕ) (f : Weather) (op : Op) (a : Attempt) → has w.barred a ≡ false → ((b : Attempt) → bar_of op ≡ Some b → a ≡ b → ⊥) → has (barred_after w (Some (record { app = k; call = Names op; fault = f }))) a ≡ false
made-others w k f op a e n = if_cases (λ z. has z a ≡ false) (is_applied w k f) _ _ (λ t. bar-others (bar_of op) w.barred a e n) (λ t. e)

history-others : (w : World) (k : ℕ) (f : Weather) (call : Store) (a : Attempt) → has w.barred a ≡ false → ((op : Op) → call ≡ Names op → (b : Attempt) → bar_of op ≡ Some b → a ≡ b → ⊥) →
    has (barred_after w (Some (record { app = k; call = call; fault = f }))) a ≡ false
history-others w k f (Names op) a e n = made-others w k f op a e (n op refl)
history-others w k f (Append_record r) a e n = if_cases (λ z. has z a ≡ false) (is_applied w k f) _ _ (λ t. e) (λ t. e)
history-others w k f Flush a e n = if_cases (λ z. has z a ≡ false) (is_applied w k f) _ _ (λ t. e) (λ t. e)
history-others w k f Read_history a e n = if_cases (λ z. has z a ≡ false) (is_applied w k f) _ _ (λ t. e) (λ t. e)

bar-is : (op : Op) (b : Attempt) → bar_of op ≡ Some b → op ≡ Bar b
bar-is (Bar a) b q = let e : a ≡ b = cc in ap Bar e
bar-is _ b q = cc

by-duty : (w : World) (k : ℕ) (f : Weather) (d : Option Store) (a : Attempt) → has w.barred a ≡ false → ((b : Attempt) → d ≡ Some (Names (Bar b)) → a ≡ b → ⊥) → has (barred_after w (duty_made k f d)) a ≡ false
by-duty w k f None a e n = e
by-duty w k f (Some call) a e n = history-others w k f call a e (λ op q b r s. n b (ap Some (q ∙ ap Names (bar-is op b r))) s)

by-step : (w : World) (k : ℕ) (f : Weather) (t : Bool) (o : Option Op) (a : Attempt) → has w.barred a ≡ false → ((op : Op) → o ≡ Some op → bar_of op ≡ None) → has (barred_after w (unless_stopped t (op_made k f o))) a ≡ false
by-step w k f true o a e n = e
by-step w k f false None a e n = e
by-step w k f false (Some op) a e n = made-others w k f op a e (λ b q s. let r : None ≡ Some b = sym (n op refl) ∙ q in cc)

barred-others : (kd : Kind) (cfg : Config) (w : World) (e : Event) → EndsFirst kd cfg w e → kd.bars ≡ false → (c : ContainerId) (p : Place) → w.place c ≡ Some p → w.is_alive c ≡ true → has w.barred p.attempt ≡ false →
    has (barred_after w (call_of cfg w e)) p.attempt ≡ false
unfolding call_of
barred-others kd cfg w (Duty k f) o b c p q a e = by-duty w k f (duty cfg w k) p.attempt e (λ x d s. false≢true (sym (o b x d c p q s) ∙ a))
barred-others kd cfg w (ContainerStep d f) o b c p q a e = by-step w d.app f (is_stopped w (caller_of w d)) (op_of cfg w d) p.attempt e (op-none cfg d (w.place d) (w.container_past d))
barred-others kd cfg w (Start k kept) o b c p q a e = e
barred-others kd cfg w (Crash k kept) o b c p q a e = e
barred-others kd cfg w (LaunchOn k t n) o b c p q a e = e
barred-others kd cfg w (Deliver i) o b c p q a e = e
barred-others kd cfg w (Compute d x) o b c p q a e = e
barred-others kd cfg w (Die d) o b c p q a e = e
barred-others kd cfg w (NodeRestart n) o b c p q a e = e
barred-others kd cfg w (Expire k n) o b c p q a e = e

-- a packet that comes bars nobody
barred-same : (cfg : Config) (w : World) (e : Event) (i : ℕ) → e ≡ Deliver i → barred_after w (call_of cfg w e) ≡ w.barred
unfolding call_of
barred-same cfg w e i q = ap (λ z. barred_after w (call_of cfg w z)) q

attempts-after : (kd : Kind) (cfg : Config) (w : World) (e : Event) → Ended kd w → EndsFirst kd cfg w e → kd.bars ≡ false → (c : ContainerId) (p : Place) →
    (effect cfg w e).place c ≡ Some p → (effect cfg w e).is_alive c ≡ true → has (barred_after w (call_of cfg w e)) p.attempt ≡ false
attempts-after kd cfg w e h first b c p q a = by (obeyed w e) refl q (lived cfg w e c a)
  where
    old : w.place c ≡ Some p → w.is_alive c ≡ true → has (barred_after w (call_of cfg w e)) p.attempt ≡ false
    old r l = barred-others kd cfg w e first b c p r l (h.attempts b c p r l)

    new : (o : Obeyed) → obeyed w e ≡ Some o → o.place ≡ p → has (barred_after w (call_of cfg w e)) p.attempt ≡ false
    new o r s =
        let d = none-obeyed w e o r in
        let free = (obeyed-new kd cfg w e first o r).1 b in
        subst (λ z. has z p.attempt ≡ false) (sym (barred-same cfg w e d.0 d.1)) (subst (λ (z : Place). has w.barred z.attempt ≡ false) s free)

    by : (o : Option Obeyed) → obeyed w e ≡ o → with_place w.place o c ≡ Some p → (is_obeyed o c ≡ true) ⊎ (w.is_alive c ≡ true) → has (barred_after w (call_of cfg w e)) p.attempt ≡ false
    by None r s (inl l) = absurd (false≢true l)
    by None r s (inr l) = old s l
    by (Some o) r s l = at (container_eq c o.container) refl s l
      where
        at : (t : Bool) → container_eq c o.container ≡ t → (if t then Some o.place else w.place c) ≡ Some p → (t ≡ true) ⊎ (w.is_alive c ≡ true) → has (barred_after w (call_of cfg w e)) p.attempt ≡ false
        at true u s l = new o r (let v : o.place ≡ p = cc in v)
        at false u s (inl l) = absurd (false≢true l)
        at false u s (inr l) = old s l

kept : (kd : Kind) (cfg : Config) (w : World) (e : Event) → EndsFirst kd cfg w e → Ended kd w → Ended kd (effect cfg w e)
kept kd cfg w e o h = record {
  masters = λ f. masters-after kd cfg w e h o f;
  containers = λ f. containers-after kd cfg w e h o f;
  attempts = λ b. attempts-after kd cfg w e h o b;
}

over : (kd : Kind) (cfg : Config) (within : Limits) (w : World) (es : List Event) → Ended kd w → AllEndFirst kd cfg within w es → NobodySlips kd cfg within w es
over kd cfg within w [] h o = tt
over kd cfg within w (e ∷ es) h o = (λ n l. stays kd cfg w h e n, over kd cfg within (happens cfg within w e) es (taken_or_not (Ended kd) cfg within w e h (λ n. kept kd cfg w e (o.0 n) h)) o.1)

opening : (kd : Kind) → Ended kd opening_world
opening kd = record { masters = λ f k m. omega arith; containers = λ f c a. omega arith; attempts = λ b c p q a. refl }

pub ends-first : NobodySlipsWhoEndsFirst
ends-first kd cfg within es o = over kd cfg within opening_world es (opening kd) o
