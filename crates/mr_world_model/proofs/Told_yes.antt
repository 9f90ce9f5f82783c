-- Over every list of events, a reduce's container that looks, clears, renames or reports was told yes.
use Rattle.std.proofs.Common.{ℕ, ◌≡◌, refl, sym, ◌∙◌, ap, subst, true, false, List, [], ◌∷◌, ◌++◌, Option, Some, None, nat_lt, ◌⊎◌, inl, inr, length, slice_get}
use Rattle.std.proofs.lemmas.Bool.{false≢true}
use Rattle.mr_world_model.specs.Ids.{Attempt, ContainerId, container_eq, is_reduce}
use Rattle.mr_world_model.specs.Packets.{Config, Packet, Envelope, Address, Master, Container, Node, Answer}
use Rattle.mr_world_model.specs.Content.{Op}
use Rattle.mr_world_model.specs.Pasts.{is_known, Place, Step, Got, Sent, Computed, Called, wish}
use Rattle.mr_world_model.proofs.Nexts.{wish-first, wish-step}
use Rattle.mr_world_model.specs.Hearing.{Launched}
use Rattle.mr_world_model.specs.World.{World, Event, Deliver, ContainerStep, Compute, Weather, Container_act, Obeyed, container_act, got_act, step_act, obeyed, opening_world, op_of, packet_of}
use Rattle.mr_world_model.specs.Sending.{sent, to_container}
use Rattle.mr_world_model.specs.Effect.{with_container_step, effect, not_now}
use Rattle.mr_world_model.specs.Claims.{In}
use Rattle.mr_world_model.proofs.Basic.{if_cases, unless_parts}
use Rattle.mr_world_model.proofs.Lists.{In-left, Each-In}
use Rattle.mr_world_model.proofs.Closed.{container_eq-true}
use Rattle.mr_world_model.proofs.Cluster.{Cluster, PacketFits, EnvelopeFits, launched_as, obeyed-is, obeyed_launched, place_after, slice_get-In}
use Rattle.mr_world_model.proofs.Sends.{got-alive}
use Rattle.mr_world_model.proofs.Yes.{past_yes, next-yes}

-- the yes for a container's own attempt
abbrev pub WasTold : World → ContainerId → Attempt → Type 0
WasTold w c a = In (to_container c (Answer a true)) w.bag

pub record Heard_yes (cfg : Config) (w : World) : Type 0 where
  pub unborn : (c : ContainerId) → w.place c ≡ None → w.container_past c ≡ []
  pub yes : (c : ContainerId) (p : Place) → w.place c ≡ Some p → is_reduce p.attempt ≡ true →
      past_yes (wish (length cfg.splits) p.attempt (w.container_past c)) ≡ true → WasTold w c p.attempt

-- where a container's step comes from
abbrev pub Comes : World → ContainerId → Step → Type 0
Comes w c (Got p) = In (to_container c p) w.bag
Comes w c (Sent p) = Unit {0}
Comes w c (Computed bytes) = Unit {0}
Comes w c (Called op r) = Unit {0}

abbrev pub ActComes : World → Option Container_act → Type 0
ActComes w None = Unit {0}
ActComes w (Some a) = (w.is_alive a.who ≡ true) × Comes w a.who a.step

got-comes : (cfg : Config) (w : World) (i : ℕ) → not_now cfg w (Deliver i) ≡ None → ActComes w (got_act (slice_get w.bag i))
unfolding not_now
got-comes cfg w i n = by (slice_get w.bag i) refl (λ a q. got-alive cfg w (slice_get w.bag i) n a q)
  where
    by : (o : Option Envelope) → slice_get w.bag i ≡ o → ((a : Container_act) → got_act (slice_get w.bag i) ≡ Some a → w.is_alive a.who ≡ true) → ActComes w (got_act o)
    by None q f = tt
    by (Some v) q f = to v.to v.body q
      where
        to : (x : Address) (p : Packet) → slice_get w.bag i ≡ Some (record { to = x; body = p }) → ActComes w (got_act (Some (record { to = x; body = p })))
        to (Master k) p q = tt
        to (Container c) p q = (f (record { who = c; step = Got p }) (ap got_act q), slice_get-In w.bag i _ q)
        to (Node n) p q = tt

step-comes : (w : World) (c : ContainerId) (f : Weather) (o : Option Op) (p : Option Envelope) → w.is_alive c ≡ true → ActComes w (step_act w c f o p)
step-comes w c f (Some op) p a = (a, tt)
step-comes w c f None (Some e) a = (a, tt)
step-comes w c f None None a = tt

pub act-comes : (cfg : Config) (w : World) (e : Event) → not_now cfg w e ≡ None → ActComes w (container_act cfg w e)
unfolding container_act not_now
act-comes cfg w (Deliver i) n = got-comes cfg w i n
act-comes cfg w (ContainerStep c f) n = step-comes w c f (op_of cfg w c) (packet_of cfg w c) (unless_parts _ _ _ n).0
act-comes cfg w (Compute c b) n = ((unless_parts _ _ _ n).0, tt)
act-comes cfg w _ n = tt

-- a past after an event
pub past_after : (w : World) (o : Option Container_act) (c : ContainerId) (P : List Step → Type 0) → P (w.container_past c) →
    ((a : Container_act) → o ≡ Some a → c ≡ a.who → P (a.step ∷ w.container_past c)) → P (with_container_step w.container_past o c)
past_after w None c P p f = p
past_after w (Some a) c P p f = if_cases P (container_eq c a.who) _ _ (λ t. f a refl (container_eq-true c a.who t)) (λ t. p)

-- a yes that is delivered is for the container's own attempt
own-yes : (cfg : Config) (w : World) → Cluster cfg w → (c : ContainerId) (p : Place) (a : Attempt) → w.place c ≡ Some p → In (to_container c (Answer a true)) w.bag → a ≡ p.attempt
own-yes cfg w h c p a e i =
    let o : PacketFits cfg w (Container c) (Answer a true) = Each-In (EnvelopeFits cfg w) w.bag h.packets _ i in
    let q = h.places c p e in
    sym o.3 ∙ ap (λ (l : Rattle.mr_world_model.specs.Hearing.Launched). l.attempt) ((h.distinct c.app).containers o.0 (launched_as c p.attempt p.node p.incarnation) o.1 q.0 o.2)

-- no step for one that has no place
pub no-step : (cfg : Config) (w : World) (e : Event) → Cluster cfg w → not_now cfg w e ≡ None → (c : ContainerId) → w.place c ≡ None → w.container_past c ≡ [] →
    with_container_step w.container_past (container_act cfg w e) c ≡ []
no-step cfg w e h n c none empty = past_after w (container_act cfg w e) c (λ x. x ≡ []) empty
    (λ a q m. absurd (dead a (subst (ActComes w) q (act-comes cfg w e n)) m))
  where
    dead : (a : Container_act) → (w.is_alive a.who ≡ true) × Comes w a.who a.step → c ≡ a.who → ⊥
    dead a o m = let p = h.alive a.who o.0 in let u : w.place c ≡ Some p.0 = subst (λ z. w.place z ≡ Some p.0) (sym m) p.1 in cc (none, u)

pub first-none : (maps : ℕ) (a : Attempt) → is_reduce a ≡ true → past_yes (wish maps a []) ≡ false
first-none maps a e = ap past_yes (wish-first maps a) ∙ rw e (if_cases (λ w. past_yes w ≡ false) (nat_lt 0 maps) _ _ (λ t. refl) (λ t. refl))

-- a container is obeyed once
pub obeyed-new : (cfg : Config) (w : World) (e : Event) → Cluster cfg w → (x : Obeyed) → obeyed w e ≡ Some x → w.place x.container ≡ None
obeyed-new cfg w e h x q = by (w.place x.container) refl
  where
    by : (o : Option Place) → w.place x.container ≡ o → w.place x.container ≡ None
    by None r = r
    by (Some p) r =
        let old = h.places x.container p r in let i = obeyed-is w e x q in
        let same : launched_as x.container p.attempt p.node p.incarnation ≡ launched_as x.container x.place.attempt x.place.node x.place.incarnation =
        (h.distinct x.container.app).containers _ _ old.0 (obeyed_launched cfg w h x i) refl in
        absurd (false≢true (sym i.not_known ∙ subst (λ (l : Launched). is_known (w.node_past l.node) x.container ≡ true) same old.1))

pub heard_yes : (cfg : Config) (w : World) (e : Event) → Cluster cfg w → Heard_yes cfg w → not_now cfg w e ≡ None → Heard_yes cfg (effect cfg w e)
heard_yes cfg w e h o n = record {
  unborn = λ c. place_after w e c (λ v. v ≡ None → with_container_step w.container_past (container_act cfg w e) c ≡ []) (λ q. no-step cfg w e h n c q (o.unborn c q)) (λ x q f r. cc);
  yes = λ c. place_after w e c (λ v. (p : Place) → v ≡ Some p → Out c p) (λ p q r. old c p q r) (λ x q f p r u t. fresh c x q f p r u t);
}
  where
    Out : ContainerId → Place → Type 0
    Out c p = (is_reduce p.attempt) ≡ true → past_yes (wish (length cfg.splits) p.attempt (with_container_step w.container_past (container_act cfg w e) c)) ≡ true → In (to_container c (Answer p.attempt true)) (w.bag ++ sent cfg w e)

    fresh : (c : ContainerId) (x : Obeyed) → obeyed w e ≡ Some x → c ≡ x.container → (p : Place) → Some x.place ≡ Some p → Out c p
    fresh c x q f p r u t =
        let none : w.place c ≡ None = subst (λ z. w.place z ≡ None) (sym f) (obeyed-new cfg w e h x q) in
        absurd (false≢true (sym (subst (λ z. past_yes (wish (length cfg.splits) p.attempt z) ≡ false) (sym (no-step cfg w e h n c none (o.unborn c none))) (first-none (length cfg.splits) p.attempt u)) ∙ t))

    old : (c : ContainerId) (p : Place) → w.place c ≡ Some p → Out c p
    old c p q r = past_after w (container_act cfg w e) c (λ x. past_yes (wish (length cfg.splits) p.attempt x) ≡ true → In (to_container c (Answer p.attempt true)) (w.bag ++ sent cfg w e))
        (λ t. In-left _ w.bag (sent cfg w e) (o.yes c p q r t))
        (λ a s m t. by a (subst (ActComes w) s (act-comes cfg w e n)) m (next-yes (length cfg.splits) p.attempt (wish (length cfg.splits) p.attempt (w.container_past c)) a.step r (ap past_yes (sym (wish-step (length cfg.splits) p.attempt (w.container_past c) a.step)) ∙ t)))
      where
        by : (a : Container_act) → (w.is_alive a.who ≡ true) × Comes w a.who a.step → c ≡ a.who →
            (past_yes (wish (length cfg.splits) p.attempt (w.container_past c)) ≡ true) ⊎ ((b : Attempt) × (a.step ≡ Got (Answer b true))) → In (to_container c (Answer p.attempt true)) (w.bag ++ sent cfg w e)
        by a x m (inl t) = In-left _ w.bag (sent cfg w e) (o.yes c p q r t)
        by a x m (inr t) =
            let i : In (to_container a.who (Answer t.0 true)) w.bag = subst (Comes w a.who) t.1 x.1 in
            let j : In (to_container c (Answer t.0 true)) w.bag = subst (λ z. In (to_container z (Answer t.0 true)) w.bag) (sym m) i in
            In-left _ w.bag (sent cfg w e) (subst (λ z. In (to_container c (Answer z true)) w.bag) (own-yes cfg w h c p t.0 q j) j)

pub opening-yes : (cfg : Config) → Heard_yes cfg opening_world
opening-yes cfg = record { unborn = λ c e. refl; yes = λ c p e. cc }
