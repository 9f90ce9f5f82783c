-- Launches, ends and yeses: what the packets of the bag say of containers, nodes and masters.
use Rattle.std.proofs.Common.{ℕ, zero, suc, ◌≤◌, ◌<◌, ◌≡◌, refl, sym, ◌∙◌, ap, subst, Bool, true, false, ◌&&◌, ◌||◌, not, List, [], ◌∷◌, Option, Some, None, if◌then◌else◌, nat_eq, ◌⊎◌, inl, inr, arith, slice_get}
use Rattle.std.proofs.lemmas.Bool.{and_parts, false≢true, true≢false, eqb-true, eq-eqb, not-true}
use Rattle.mr_world_model.specs.Ids.{Attempt, ContainerId, container_eq, is_reduce}
use Rattle.mr_world_model.specs.Packets.{Config, Packet, Envelope, Address, Master, Container, Node, Launch, Kill, Ended, Failed, NodeUp, Answer, Store}
use Rattle.mr_world_model.proofs.Bars.{barred_kept, barred-now}
use Rattle.mr_world_model.specs.Pasts.{Place, incarnation_of, is_known}
use Rattle.mr_world_model.specs.Hearing.{Launched, has, named_in, is_over}
use Rattle.mr_world_model.specs.Duties.{Master_step, Came, Launches, Expires, Asks}
use Rattle.mr_world_model.specs.World.{World, Event, Start, Crash, Duty, LaunchOn, Deliver, ContainerStep, Compute, Die, NodeRestart, Expire, Master_act, Obeyed, master_act, obeyed, obeyed_at, obeys, ends, seen_by, duty, duty_act, came_act, Weather}
use Rattle.mr_world_model.specs.Sending.{to_node, to_app, to_container}
use Rattle.mr_world_model.specs.Effect.{effect, with_place, is_obeyed, node_past_after, got_at_node, shelved}
use Rattle.mr_world_model.specs.Claims.{In}
use Rattle.mr_world_model.proofs.Basic.{if_cases}
use Rattle.mr_world_model.proofs.Lists.{Each, Each-In, found_launched}
use Rattle.mr_world_model.proofs.Closed.{NamedOrOver, next-named, next-launched, next-explains, StepEnds, Ends, by_failed, by_end, by_node, container_eq-true, container_eq-refl, or-true}
use Rattle.mr_world_model.proofs.Distinct.{Distinct, IsNext, distinct-closed}
use Rattle.mr_world_model.proofs.Closed.{next-closed, LaunchFits}
use Rattle.mr_world_model.proofs.Allowed.{seen_after}

-- a container's launch will never be obeyed again: it has ended, or another incarnation or a kill forestalls it
pub record IsGone (w : World) (l : Launched) : Type 0 where
  pub not_alive : w.is_alive l.container ≡ false
  pub barred : (is_known (w.node_past l.node) l.container ≡ true) ⊎ (l.incarnation < incarnation_of (w.node_past l.node))

-- or its attempt is barred
abbrev pub IsOut : World → Launched → Type 0
IsOut w l = IsGone w l ⊎ (has w.barred l.attempt ≡ true)

abbrev pub IsLaunched : Config → World → ℕ → Launched → Type 0
IsLaunched cfg w k l = In l (seen_by cfg w k).launched

abbrev pub launched_as : ContainerId → Attempt → ℕ → ℕ → Launched
launched_as c a n i = record { attempt = a; container = c; node = n; incarnation = i }

-- what is so once a packet was sent
abbrev pub PacketFits : Config → World → Address → Packet → Type 0
PacketFits cfg w (Node n) (Launch c a i) = IsLaunched cfg w c.app (launched_as c a n i)
PacketFits cfg w (Node n) (Kill c) = (a : Attempt) × (i : ℕ) × IsLaunched cfg w c.app (launched_as c a n i)
PacketFits cfg w (Master k) (Ended c) = (l : Launched) × IsLaunched cfg w k l × (l.container ≡ c) × IsGone w l
PacketFits cfg w (Master k) (Failed a) = (l : Launched) × IsLaunched cfg w k l × (l.attempt ≡ a) × IsGone w l
PacketFits cfg w (Master k) (NodeUp n i) = i ≤ incarnation_of (w.node_past n)
PacketFits cfg w (Container c) (Answer a true) = (l : Launched) × IsLaunched cfg w c.app l × (l.container ≡ c) × (l.attempt ≡ a) × NamedOrOver a (seen_by cfg w c.app) × (is_reduce a ≡ true)
PacketFits cfg w x p = Unit {0}

abbrev pub EnvelopeFits : Config → World → Envelope → Type 0
EnvelopeFits cfg w e = PacketFits cfg w e.to e.body

pub record Cluster (cfg : Config) (w : World) : Type 0 where
  pub distinct : (k : ℕ) → Distinct k (seen_by cfg w k).launched
  pub packets : Each (EnvelopeFits cfg w) w.bag
  pub places : (c : ContainerId) (p : Place) → w.place c ≡ Some p →
      IsLaunched cfg w c.app (launched_as c p.attempt p.node p.incarnation) × (is_known (w.node_past p.node) c ≡ true)
  pub alive : (c : ContainerId) → w.is_alive c ≡ true → (p : Place) × (w.place c ≡ Some p) × (p.incarnation ≡ incarnation_of (w.node_past p.node))
  pub over : (k : ℕ) (a : Attempt) → is_reduce a ≡ true → is_over (seen_by cfg w k).ended a ≡ true → (l : Launched) × IsLaunched cfg w k l × (l.attempt ≡ a) × IsOut w l

-- an attempt of a reduce that lives and is not barred is not over
pub lives-on : (cfg : Config) (w : World) → Cluster cfg w → (k : ℕ) (l : Launched) → IsLaunched cfg w k l → is_reduce l.attempt ≡ true → w.is_alive l.container ≡ true → has w.barred l.attempt ≡ false → is_over (seen_by cfg w k).ended l.attempt ≡ false
lives-on cfg w o k l i r live free = by (is_over (seen_by cfg w k).ended l.attempt) refl
  where
    by : (b : Bool) → is_over (seen_by cfg w k).ended l.attempt ≡ b → is_over (seen_by cfg w k).ended l.attempt ≡ false
    by false e = e
    by true e = let g = o.over k l.attempt r e in out g.0 g.1 g.2 g.3
      where
        out : (m : Launched) → IsLaunched cfg w k m → m.attempt ≡ l.attempt → IsOut w m → is_over (seen_by cfg w k).ended l.attempt ≡ false
        out m j f (inl g) = let same = (o.distinct k).attempts m l j i f in
            absurd (false≢true (sym (subst (λ (z : Launched). w.is_alive z.container ≡ false) same g.not_alive) ∙ live))
        out m j f (inr b) = absurd (false≢true (sym free ∙ subst (λ z. has w.barred z ≡ true) f b))

-- One master's containers for one reduce: at most one that lives and is not barred was sent a yes
pub one_yes : (cfg : Config) (w : World) → Cluster cfg w → (c d : ContainerId) (a b : Attempt) → w.is_alive c ≡ true → w.is_alive d ≡ true →
    c.app ≡ d.app → a.task ≡ b.task → has w.barred a ≡ false → has w.barred b ≡ false → In (to_container c (Answer a true)) w.bag → In (to_container d (Answer b true)) w.bag → c ≡ d
one_yes cfg w o c d a b ac ad app task fa fb ic id' = both (Each-In (EnvelopeFits cfg w) w.bag o.packets _ ic) (Each-In (EnvelopeFits cfg w) w.bag o.packets _ id')
  where
    -- the yes of one that lives is for the one named
    named : (c : ContainerId) (a : Attempt) → w.is_alive c ≡ true → has w.barred a ≡ false → (l : Launched) → IsLaunched cfg w c.app l → l.container ≡ c → l.attempt ≡ a → NamedOrOver a (seen_by cfg w c.app) → is_reduce a ≡ true →
        named_in (seen_by cfg w c.app).asked (seen_by cfg w c.app).ended a.task ≡ Some a
    named c a live free l i e f (inr n) r = n
    named c a live free l i e f (inl v) r = absurd (true≢false (sym v ∙ subst (λ z. is_over (seen_by cfg w c.app).ended z ≡ false) f
        (lives-on cfg w o c.app l i (subst (λ z. (is_reduce z) ≡ true) (sym f) r) (subst (λ z. w.is_alive z ≡ true) (sym e) live) (subst (λ z. has w.barred z ≡ false) (sym f) free))))

    both : (l : Launched) × IsLaunched cfg w c.app l × (l.container ≡ c) × (l.attempt ≡ a) × NamedOrOver a (seen_by cfg w c.app) × (is_reduce a ≡ true) →
        (l : Launched) × IsLaunched cfg w d.app l × (l.container ≡ d) × (l.attempt ≡ b) × NamedOrOver b (seen_by cfg w d.app) × (is_reduce b ≡ true) → c ≡ d
    both x y =
        let nc = named c a ac fa x.0 x.1 x.2 x.3 x.4 x.5 in let nd = named d b ad fb y.0 y.1 y.2 y.3 y.4 y.5 in
        let nd' : named_in (seen_by cfg w c.app).asked (seen_by cfg w c.app).ended a.task ≡ Some b =
        subst (λ z. named_in (seen_by cfg w z).asked (seen_by cfg w z).ended a.task ≡ Some b) (sym app) (subst (λ t. named_in (seen_by cfg w d.app).asked (seen_by cfg w d.app).ended t ≡ Some b) (sym task) nd) in
        let ab : a ≡ b = cc (nc, nd') in
        let i : IsLaunched cfg w c.app y.0 = subst (λ z. IsLaunched cfg w z y.0) (sym app) y.1 in
        sym x.2 ∙ (ap (λ (z : Launched). z.container) ((o.distinct c.app).attempts x.0 y.0 x.1 i (x.3 ∙ (ab ∙ sym y.3))) ∙ y.2)

-- Nodes

pub known_after : (w : World) (e : Event) (n : ℕ) (c : ContainerId) → is_known (w.node_past n) c ≡ true → is_known (node_past_after w e n) c ≡ true
unfolding node_past_after is_known
known_after w (Deliver i) n c k = got (slice_get w.bag i)
  where
    got : (o : Option Envelope) → is_known (got_at_node o n (w.node_past n)) c ≡ true
    got None = k
    got (Some v) = to v.to v.body
      where
        to : (x : Address) (p : Packet) → is_known (got_at_node (Some (record { to = x; body = p })) n (w.node_past n)) c ≡ true
        to (Master m) p = k
        to (Container d) p = k
        to (Node m) p = if_cases (λ h. is_known h c ≡ true) (nat_eq n m) _ _ (λ t. rw k (or-true _)) (λ t. k)
known_after w (Compute d b) n c k = put (w.place d)
  where
    put : (o : Option Place) → is_known (shelved o b n (w.node_past n)) c ≡ true
    put None = k
    put (Some p) = if_cases (λ h. is_known h c ≡ true) (not (is_reduce p.attempt) && nat_eq n p.node) _ _ (λ t. k) (λ t. k)
known_after w (NodeRestart m) n c k = if_cases (λ h. is_known h c ≡ true) (nat_eq n m) _ _ (λ t. k) (λ t. k)
known_after w (Start j kept) n c k = k
known_after w (Crash j kept) n c k = k
known_after w (Duty j f) n c k = k
known_after w (LaunchOn j t m) n c k = k
known_after w (ContainerStep d f) n c k = k
known_after w (Die d) n c k = k
known_after w (Expire j m) n c k = k

pub incarnation_after : (w : World) (e : Event) (n : ℕ) → incarnation_of (w.node_past n) ≤ incarnation_of (node_past_after w e n)
unfolding node_past_after incarnation_of
incarnation_after w (Deliver i) n = got (slice_get w.bag i)
  where
    got : (o : Option Envelope) → incarnation_of (w.node_past n) ≤ incarnation_of (got_at_node o n (w.node_past n))
    got None = omega arith
    got (Some v) = to v.to v.body
      where
        to : (x : Address) (p : Packet) → incarnation_of (w.node_past n) ≤ incarnation_of (got_at_node (Some (record { to = x; body = p })) n (w.node_past n))
        to (Master m) p = omega arith
        to (Container d) p = omega arith
        to (Node m) p = if_cases (λ h. incarnation_of (w.node_past n) ≤ incarnation_of h) (nat_eq n m) _ _ (λ t. omega arith) (λ t. omega arith)
incarnation_after w (Compute d b) n = put (w.place d)
  where
    put : (o : Option Place) → incarnation_of (w.node_past n) ≤ incarnation_of (shelved o b n (w.node_past n))
    put None = omega arith
    put (Some p) = if_cases (λ h. incarnation_of (w.node_past n) ≤ incarnation_of h) (not (is_reduce p.attempt) && nat_eq n p.node) _ _ (λ t. omega arith) (λ t. omega arith)
incarnation_after w (NodeRestart m) n = if_cases (λ h. incarnation_of (w.node_past n) ≤ incarnation_of h) (nat_eq n m) _ _ (λ t. omega arith) (λ t. omega arith)
incarnation_after w (Start j kept) n = omega arith
incarnation_after w (Crash j kept) n = omega arith
incarnation_after w (Duty j f) n = omega arith
incarnation_after w (LaunchOn j t m) n = omega arith
incarnation_after w (ContainerStep d f) n = omega arith
incarnation_after w (Die d) n = omega arith
incarnation_after w (Expire j m) n = omega arith

pub slice_get-In : {A : Type 0} (xs : List A) (i : ℕ) (x : A) → slice_get xs i ≡ Some x → In x xs
slice_get-In [] i x e = cc
slice_get-In (y ∷ xs) zero x e = inl cc
slice_get-In (y ∷ xs) (suc i) x e = inr (slice_get-In xs i x e)

-- what is obeyed was sent to the node, is not known there, and is for its incarnation
pub record IsObeyed (w : World) (o : Obeyed) : Type 0 where
  pub was_sent : In (to_node o.place.node (Launch o.container o.place.attempt o.place.incarnation)) w.bag
  pub not_known : is_known (w.node_past o.place.node) o.container ≡ false
  pub now : o.place.incarnation ≡ incarnation_of (w.node_past o.place.node)

obeys-is : (w : World) (n : ℕ) (p : Packet) (o : Obeyed) → obeys w n p ≡ Some o → In (to_node n p) w.bag → IsObeyed w o
obeys-is w n (Launch c a i) o e j = by (not (is_known (w.node_past n) c) && nat_eq i (incarnation_of (w.node_past n))) refl e
  where
    by : (t : Bool) → (not (is_known (w.node_past n) c) && nat_eq i (incarnation_of (w.node_past n))) ≡ t →
        (if t then Some (record { container = c; place = record { attempt = a; node = n; incarnation = i } }) else None) ≡ Some o → IsObeyed w o
    by true q e = let f : record { container = c; place = record { attempt = a; node = n; incarnation = i } } ≡ o = cc in
        subst (IsObeyed w) f (record { was_sent = j; not_known = not-true _ (and_parts _ _ q).0; now = eqb-true i _ (and_parts _ _ q).1 })
    by false q e = cc
obeys-is w n _ o e j = cc

pub obeyed-is : (w : World) (e : Event) (o : Obeyed) → obeyed w e ≡ Some o → IsObeyed w o
unfolding obeyed
obeyed-is w (Deliver i) o q = got (slice_get w.bag i) refl q
  where
    got : (v : Option Envelope) → slice_get w.bag i ≡ v → obeyed_at w v ≡ Some o → IsObeyed w o
    got None s q = cc
    got (Some v) s q = to v.to v.body s q
      where
        to : (x : Address) (p : Packet) → slice_get w.bag i ≡ Some (record { to = x; body = p }) → obeyed_at w (Some (record { to = x; body = p })) ≡ Some o → IsObeyed w o
        to (Master m) p s q = cc
        to (Container d) p s q = cc
        to (Node n) p s q = obeys-is w n p o q (slice_get-In w.bag i _ s)
obeyed-is w _ o q = cc

pub launched_after : (cfg : Config) (w : World) (e : Event) (k : ℕ) (l : Launched) → IsLaunched cfg w k l → IsLaunched cfg (effect cfg w e) k l
launched_after cfg w e k l i = seen_after (λ s. In l s.launched) cfg w (master_act cfg w e) k i (λ a q m. next-launched cfg k (seen_by cfg w k) a.step l i)

-- an obeyed container is one that is launched, and not one that is gone
pub obeyed_launched : (cfg : Config) (w : World) → Cluster cfg w → (o : Obeyed) → IsObeyed w o → IsLaunched cfg w o.container.app (launched_as o.container o.place.attempt o.place.node o.place.incarnation)
obeyed_launched cfg w h o i = Each-In (EnvelopeFits cfg w) w.bag h.packets _ i.was_sent

not_obeyed : (cfg : Config) (w : World) (e : Event) → Cluster cfg w → (k : ℕ) (l : Launched) → IsLaunched cfg w k l → IsGone w l → is_obeyed (obeyed w e) l.container ≡ false
not_obeyed cfg w e h k l i g = by (obeyed w e) refl
  where
    by : (o : Option Obeyed) → obeyed w e ≡ o → is_obeyed o l.container ≡ false
    by None q = refl
    by (Some o) q = test (container_eq l.container o.container) refl (obeyed-is w e o q)
      where
        test : (t : Bool) → container_eq l.container o.container ≡ t → IsObeyed w o → container_eq l.container o.container ≡ false
        test false r x = r
        test true r x = absurd (bars g.barred)
          where
            c : l.container ≡ o.container
            c = container_eq-true l.container o.container r

            ka : o.container.app ≡ k
            ka = sym (ap (λ (z : ContainerId). z.app) c) ∙ (h.distinct k).apps l i

            same : l ≡ launched_as o.container o.place.attempt o.place.node o.place.incarnation
            same = (h.distinct k).containers l _ i (subst (λ z. IsLaunched cfg w z (launched_as o.container o.place.attempt o.place.node o.place.incarnation)) ka (obeyed_launched cfg w h o x)) c

            bars : (is_known (w.node_past l.node) l.container ≡ true) ⊎ (l.incarnation < incarnation_of (w.node_past l.node)) → ⊥
            bars (inl y) = false≢true (sym x.not_known ∙ subst (λ (z : Launched). is_known (w.node_past z.node) z.container ≡ true) same y)
            bars (inr y) = let z = subst (λ (z : Launched). z.incarnation < incarnation_of (w.node_past z.node)) same y in let v = x.now in omega arith

pub gone_after : (cfg : Config) (w : World) (e : Event) → Cluster cfg w → (k : ℕ) (l : Launched) → IsLaunched cfg w k l → IsGone w l → IsGone (effect cfg w e) l
gone_after cfg w e h k l i g = record {
  not_alive = rw (not_obeyed cfg w e h k l i g, g.not_alive) refl;
  barred = by g.barred;
}
  where
    by : (is_known (w.node_past l.node) l.container ≡ true) ⊎ (l.incarnation < incarnation_of (w.node_past l.node)) →
        (is_known (node_past_after w e l.node) l.container ≡ true) ⊎ (l.incarnation < incarnation_of (node_past_after w e l.node))
    by (inl y) = inl (known_after w e l.node l.container y)
    by (inr y) = let z = incarnation_after w e l.node in inr (omega arith)

-- what was so of a packet stays so
packet_after : (cfg : Config) (w : World) (e : Event) → Cluster cfg w → (x : Address) (p : Packet) → PacketFits cfg w x p → PacketFits cfg (effect cfg w e) x p
packet_after cfg w e h (Node n) (Launch c a i) o = launched_after cfg w e c.app _ o
packet_after cfg w e h (Node n) (Kill c) o = (o.0, o.1, launched_after cfg w e c.app _ o.2)
packet_after cfg w e h (Master k) (Ended c) o = (o.0, launched_after cfg w e k o.0 o.1, o.2, gone_after cfg w e h k o.0 o.1 o.3)
packet_after cfg w e h (Master k) (Failed a) o = (o.0, launched_after cfg w e k o.0 o.1, o.2, gone_after cfg w e h k o.0 o.1 o.3)
packet_after cfg w e h (Master k) (NodeUp n i) o = let z = incarnation_after w e n in omega arith
packet_after cfg w e h (Container c) (Answer a true) o = (
  o.0,
  launched_after cfg w e c.app o.0 o.1,
  o.2,
  o.3,
  seen_after (NamedOrOver a) cfg w (master_act cfg w e) c.app o.4 (λ x q m. next-named cfg c.app (seen_by cfg w c.app) x.step a o.4),
  o.5,
)
packet_after cfg w e h x p o = tt

pub packets_after : (cfg : Config) (w : World) (e : Event) → Cluster cfg w → (es : List Envelope) → Each (EnvelopeFits cfg w) es → Each (EnvelopeFits cfg (effect cfg w e)) es
packets_after cfg w e h [] o = tt
packets_after cfg w e h (v ∷ es) o = (packet_after cfg w e h v.to v.body o.0, packets_after cfg w e h es o.1)

-- where a step comes from
abbrev pub StepFits : Config → World → ℕ → Master_step → Type 0
StepFits cfg w k (Came p) = In (to_app k p) w.bag
StepFits cfg w k (Launches l) = IsNext k (seen_by cfg w k) l
StepFits cfg w k (Expires n) = Unit {0}
StepFits cfg w k (Asks call r) = Unit {0}

abbrev pub ActFits : Config → World → Option Master_act → Type 0
ActFits cfg w None = Unit {0}
ActFits cfg w (Some a) = StepFits cfg w a.who a.step

duty-fits : (cfg : Config) (w : World) (k : ℕ) (f : Weather) (o : Option Store) → ActFits cfg w (duty_act w k f o)
duty-fits cfg w k f None = tt
duty-fits cfg w k f (Some call) = tt

came-fits : (cfg : Config) (w : World) (o : Option Envelope) → ((v : Envelope) → o ≡ Some v → In v w.bag) → ActFits cfg w (came_act o)
came-fits cfg w None f = tt
came-fits cfg w (Some v) f = to v.to v.body (f v refl)
  where
    to : (x : Address) (p : Packet) → In (record { to = x; body = p }) w.bag → ActFits cfg w (came_act (Some (record { to = x; body = p })))
    to (Master k) p i = i
    to (Container c) p i = tt
    to (Node n) p i = tt

act-fits : (cfg : Config) (w : World) (e : Event) → ActFits cfg w (master_act cfg w e)
unfolding master_act
act-fits cfg w (Duty k f) = duty-fits cfg w k f (duty cfg w k)
act-fits cfg w (LaunchOn k t n) = (t, n, refl)
act-fits cfg w (Deliver i) = came-fits cfg w (slice_get w.bag i) (λ v q. slice_get-In w.bag i v q)
act-fits cfg w _ = tt

pub step-fits : (cfg : Config) (w : World) (e : Event) (a : Master_act) → master_act cfg w e ≡ Some a → StepFits cfg w a.who a.step
step-fits cfg w e a q = subst (ActFits cfg w) q (act-fits cfg w e)

pub distinct_after : (cfg : Config) (w : World) (e : Event) → Cluster cfg w → (k : ℕ) → Distinct k (seen_by cfg (effect cfg w e) k).launched
distinct_after cfg w e h k = seen_after (λ s. Distinct k s.launched) cfg w (master_act cfg w e) k (h.distinct k)
    (λ a q m. next-closed cfg (IsNext k) (λ s. Distinct k s.launched) (distinct-closed cfg k) k (seen_by cfg w k) a.step (fits a.step (subst (λ z. StepFits cfg w z a.step) m (step-fits cfg w e a q))) (h.distinct k))
  where
    fits : (x : Master_step) → StepFits cfg w k x → LaunchFits (IsNext k) (seen_by cfg w k) x
    fits (Came p) i = tt
    fits (Launches l) i = i
    fits (Expires n) i = tt
    fits (Asks call r) i = tt

-- a container that lives is as it was launched, at its node's incarnation
alive_launched : (cfg : Config) (w : World) → Cluster cfg w → (k : ℕ) (l : Launched) → IsLaunched cfg w k l → w.is_alive l.container ≡ true → l.incarnation ≡ incarnation_of (w.node_past l.node)
alive_launched cfg w h k l i a =
    let p = h.alive l.container a in let q = h.places l.container p.0 p.1 in
    let same : launched_as l.container p.0.attempt p.0.node p.0.incarnation ≡ l = (h.distinct k).containers _ l (subst (λ z. IsLaunched cfg w z (launched_as l.container p.0.attempt p.0.node p.0.incarnation)) ((h.distinct k).apps l i) q.0) i refl in
    subst (λ (z : Launched). z.incarnation ≡ incarnation_of (w.node_past z.node)) same p.2

dead_if : (b : Bool) → (b ≡ true → ⊥) → b ≡ false
dead_if true f = absurd (f refl)
dead_if false f = refl

-- a packet that ends an attempt comes from one that is gone
ended-gone : (cfg : Config) (w : World) → Cluster cfg w → (k : ℕ) (a : Attempt) (p : Packet) → In (to_app k p) w.bag → Ends (seen_by cfg w k).launched a p → (l : Launched) × IsLaunched cfg w k l × (l.attempt ≡ a) × IsGone w l
ended-gone cfg w h k a p i by_failed = Each-In (EnvelopeFits cfg w) w.bag h.packets _ i
ended-gone cfg w h k a p i (by_end l j e) =
    let o : PacketFits cfg w (Master k) (Ended l.container) = Each-In (EnvelopeFits cfg w) w.bag h.packets _ i in
    (l, j, e, subst (IsGone w) ((h.distinct k).containers o.0 l o.1 j o.2) o.3)
ended-gone cfg w h k a p i (by_node l m' j e f) =
    let o : m' ≤ incarnation_of (w.node_past l.node) = Each-In (EnvelopeFits cfg w) w.bag h.packets _ i in
    (l, j, e, record { not_alive = dead_if (w.is_alive l.container) (λ v. let u = alive_launched cfg w h k l j v in omega arith); barred = inr (omega arith) })

pub over_after : (cfg : Config) (w : World) (e : Event) → Cluster cfg w → (k : ℕ) (a : Attempt) → is_reduce a ≡ true → is_over (seen_by cfg (effect cfg w e) k).ended a ≡ true →
    (l : Launched) × IsLaunched cfg (effect cfg w e) k l × (l.attempt ≡ a) × IsOut (effect cfg w e) l
over_after cfg w e h k a r o = all a o r
  where
    Q : Attempt → Type 0
    Q a = (is_reduce a) ≡ true → (l : Launched) × IsLaunched cfg (effect cfg w e) k l × (l.attempt ≡ a) × IsOut (effect cfg w e) l

    out : (l : Launched) → IsLaunched cfg w k l → IsOut w l → IsOut (effect cfg w e) l
    out l i (inl g) = inl (gone_after cfg w e h k l i g)
    out l i (inr b) = inr (barred_kept cfg w e l.attempt b)

    keep : (a : Attempt) → (l : Launched) × IsLaunched cfg w k l × (l.attempt ≡ a) × IsOut w l → Q a
    keep a o = λ r. (o.0, launched_after cfg w e k o.0 o.1, o.2, out o.0 o.1 o.3)

    gone : (a : Attempt) → (l : Launched) × IsLaunched cfg w k l × (l.attempt ≡ a) × IsGone w l → Q a
    gone a o = keep a (o.0, o.1, o.2, inl o.3)

    why : (y : Master_act) → master_act cfg w e ≡ Some y → (x : Master_step) → y.step ≡ x → StepFits cfg w k x → (a : Attempt) → StepEnds (seen_by cfg w k) a x → Q a
    why y q (Came p) s i a t = gone a (ended-gone cfg w h k a p i t)
    why y q (Launches l) s i a t = absurd t
    why y q (Expires n) s i a t = λ r. absurd (false≢true (sym t ∙ r))
    why y q (Asks call u) s i a t = let f = found_launched (seen_by cfg w k).launched a (and_parts _ _ t.4).0 in
        λ r. (f.0, launched_after cfg w e k f.0 f.1, f.2, inr (subst (λ z. has (effect cfg w e).barred z ≡ true) (sym f.2) (barred-now cfg w e y q call u s t.0 t.1 t.2 a t.3)))

    all : (a : Attempt) → is_over (seen_by cfg (effect cfg w e) k).ended a ≡ true → Q a
    all = seen_after (λ s. (a : Attempt) → is_over s.ended a ≡ true → Q a) cfg w (master_act cfg w e) k (λ a o r. keep a (h.over k a r o) r)
        (λ x q m. next-explains cfg Q k (seen_by cfg w k) x.step (why x q x.step refl (subst (λ z. StepFits cfg w z x.step) m (step-fits cfg w e x q))) (λ a o r. keep a (h.over k a r o) r))

-- what is obeyed is known at its node from then on
pub obeyed-at : (cfg : Config) (w : World) (e : Event) (o : Obeyed) → obeyed w e ≡ Some o →
    (is_known (node_past_after w e o.place.node) o.container ≡ true) × (incarnation_of (node_past_after w e o.place.node) ≡ incarnation_of (w.node_past o.place.node))
unfolding obeyed node_past_after is_known incarnation_of
obeyed-at cfg w (Deliver i) o q = got (slice_get w.bag i) q
  where
    Out : Option Envelope → Type 0
    Out v = (is_known (got_at_node v o.place.node (w.node_past o.place.node)) o.container ≡ true) × (incarnation_of (got_at_node v o.place.node (w.node_past o.place.node)) ≡ incarnation_of (w.node_past o.place.node))

    by : (n : ℕ) (c : ContainerId) (a : Attempt) (i : ℕ) (t : Bool) → (not (is_known (w.node_past n) c) && nat_eq i (incarnation_of (w.node_past n))) ≡ t →
        (if t then Some (record { container = c; place = record { attempt = a; node = n; incarnation = i } }) else None) ≡ Some o → Out (Some (record { to = Node n; body = Launch c a i }))
    by n c a i true r e = let f : record { container = c; place = record { attempt = a; node = n; incarnation = i } } ≡ o = cc in let u = and_parts _ _ r in let now = eqb-true i _ u.1 in
        subst (λ (z : Obeyed). (is_known (got_at_node (Some (record { to = Node n; body = Launch c a i })) z.place.node (w.node_past z.place.node)) z.container ≡ true) × (incarnation_of (got_at_node (Some (record { to = Node n; body = Launch c a i })) z.place.node (w.node_past z.place.node)) ≡ incarnation_of (w.node_past z.place.node))) f
        (let both : (is_known (got_at_node (Some (record { to = Node n; body = Launch c a i })) n (w.node_past n)) c ≡ true) × (incarnation_of (got_at_node (Some (record { to = Node n; body = Launch c a i })) n (w.node_past n)) ≡ incarnation_of (w.node_past n))
        = rw (eq-eqb n n refl, container_eq-refl c, eq-eqb (incarnation_of (w.node_past n)) i (sym now)) (refl, refl) in both)
    by n c a i false r e = cc

    got : (v : Option Envelope) → obeyed_at w v ≡ Some o → Out v
    got None q = cc
    got (Some v) q = to v.to v.body q
      where
        node : (n : ℕ) (p : Packet) → obeys w n p ≡ Some o → Out (Some (record { to = Node n; body = p }))
        node n (Launch c a i) q = by n c a i _ refl q
        node n _ q = cc

        to : (x : Address) (p : Packet) → obeyed_at w (Some (record { to = x; body = p })) ≡ Some o → Out (Some (record { to = x; body = p }))
        to (Master m) p q = cc
        to (Container d) p q = cc
        to (Node n) p q = node n p q
obeyed-at cfg w _ o q = cc

-- a container's place after an event: a new one, or the old
pub place_after : (w : World) (e : Event) (c : ContainerId) (P : Option Place → Type 0) → P (w.place c) → ((o : Obeyed) → obeyed w e ≡ Some o → c ≡ o.container → P (Some o.place)) → P (with_place w.place (obeyed w e) c)
place_after w e c P p f = by (obeyed w e) refl
  where
    by : (o : Option Obeyed) → obeyed w e ≡ o → P (with_place w.place o c)
    by None q = p
    by (Some o) q = if_cases P (container_eq c o.container) _ _ (λ t. f o q (container_eq-true c o.container t)) (λ t. p)

pub places_after : (cfg : Config) (w : World) (e : Event) → Cluster cfg w → (c : ContainerId) (p : Place) → (effect cfg w e).place c ≡ Some p →
    IsLaunched cfg (effect cfg w e) c.app (launched_as c p.attempt p.node p.incarnation) × (is_known (node_past_after w e p.node) c ≡ true)
places_after cfg w e h c = place_after w e c (λ v. (p : Place) → v ≡ Some p → Out p)
    (λ p q. let o = h.places c p q in (launched_after cfg w e c.app _ o.0, known_after w e p.node c o.1))
    (λ o q f p r. let g : o.place ≡ p = cc in subst Out g (new o q f))
  where
    Out : Place → Type 0
    Out p = IsLaunched cfg (effect cfg w e) c.app (launched_as c p.attempt p.node p.incarnation) × (is_known (node_past_after w e p.node) c ≡ true)

    new : (o : Obeyed) → obeyed w e ≡ Some o → c ≡ o.container → Out o.place
    new o q f = subst (λ z. IsLaunched cfg (effect cfg w e) z.app (launched_as z o.place.attempt o.place.node o.place.incarnation) × (is_known (node_past_after w e o.place.node) z ≡ true)) (sym f)
        (launched_after cfg w e o.container.app _ (obeyed_launched cfg w h o (obeyed-is w e o q)), (obeyed-at cfg w e o q).0)

-- only a restart changes an incarnation
incarnation_same : (w : World) (e : Event) (n : ℕ) → (incarnation_of (node_past_after w e n) ≡ incarnation_of (w.node_past n)) ⊎ (e ≡ NodeRestart n)
unfolding node_past_after incarnation_of
incarnation_same w (Deliver i) n = inl (got (slice_get w.bag i))
  where
    got : (o : Option Envelope) → incarnation_of (got_at_node o n (w.node_past n)) ≡ incarnation_of (w.node_past n)
    got None = refl
    got (Some v) = to v.to v.body
      where
        to : (x : Address) (p : Packet) → incarnation_of (got_at_node (Some (record { to = x; body = p })) n (w.node_past n)) ≡ incarnation_of (w.node_past n)
        to (Master m) p = refl
        to (Container d) p = refl
        to (Node m) p = if_cases (λ h. incarnation_of h ≡ incarnation_of (w.node_past n)) (nat_eq n m) _ _ (λ t. refl) (λ t. refl)
incarnation_same w (Compute d b) n = inl (put (w.place d))
  where
    put : (o : Option Place) → incarnation_of (shelved o b n (w.node_past n)) ≡ incarnation_of (w.node_past n)
    put None = refl
    put (Some p) = if_cases (λ h. incarnation_of h ≡ incarnation_of (w.node_past n)) (not (is_reduce p.attempt) && nat_eq n p.node) _ _ (λ t. refl) (λ t. refl)
incarnation_same w (NodeRestart m) n = if_cases (λ h. (incarnation_of h ≡ incarnation_of (w.node_past n)) ⊎ (NodeRestart m ≡ NodeRestart n)) (nat_eq n m) _ _ (λ t. inr (ap NodeRestart (sym (eqb-true n m t)))) (λ t. inl refl)
incarnation_same w (Start j kept) n = inl refl
incarnation_same w (Crash j kept) n = inl refl
incarnation_same w (Duty j f) n = inl refl
incarnation_same w (LaunchOn j t m) n = inl refl
incarnation_same w (ContainerStep d f) n = inl refl
incarnation_same w (Die d) n = inl refl
incarnation_same w (Expire j m) n = inl refl

not_is-false : (b : Bool) → not b ≡ true → b ≡ false
not_is-false b e = not-true b e

restart-ends : (cfg : Config) (w : World) (c : ContainerId) (p : Place) → w.place c ≡ Some p → ends cfg w (NodeRestart p.node) c ≡ true
unfolding ends
restart-ends cfg w c p e = rw (e, eq-eqb p.node p.node refl) refl

pub alive_after : (cfg : Config) (w : World) (e : Event) → Cluster cfg w → (c : ContainerId) → (effect cfg w e).is_alive c ≡ true →
    (p : Place) × ((effect cfg w e).place c ≡ Some p) × (p.incarnation ≡ incarnation_of (node_past_after w e p.node))
alive_after cfg w e h c a = by (obeyed w e) refl a
  where
    old : w.is_alive c ≡ true → ends cfg w e c ≡ false → (p : Place) × (w.place c ≡ Some p) × (p.incarnation ≡ incarnation_of (node_past_after w e p.node))
    old v u = let p = h.alive c v in (p.0, p.1, here p.0 p.1 p.2 (incarnation_same w e p.0.node))
      where
        here : (p : Place) → w.place c ≡ Some p → p.incarnation ≡ incarnation_of (w.node_past p.node) →
            (incarnation_of (node_past_after w e p.node) ≡ incarnation_of (w.node_past p.node)) ⊎ (e ≡ NodeRestart p.node) → p.incarnation ≡ incarnation_of (node_past_after w e p.node)
        here p q r (inl s) = r ∙ sym s
        here p q r (inr s) = absurd (true≢false (sym (subst (λ z. ends cfg w z c ≡ true) (sym s) (restart-ends cfg w c p q)) ∙ u))

    by : (o : Option Obeyed) → obeyed w e ≡ o → ((is_obeyed o c || w.is_alive c) && not (ends cfg w e c)) ≡ true →
        (p : Place) × (with_place w.place o c ≡ Some p) × (p.incarnation ≡ incarnation_of (node_past_after w e p.node))
    by None q v = let u = and_parts _ _ v in old u.0 (not_is-false _ u.1)
    by (Some o) q v = test (container_eq c o.container) v
      where
        test : (t : Bool) → ((t || w.is_alive c) && not (ends cfg w e c)) ≡ true → (p : Place) × ((if t then Some o.place else w.place c) ≡ Some p) × (p.incarnation ≡ incarnation_of (node_past_after w e p.node))
        test true v = (o.place, refl, (obeyed-is w e o q).now ∙ sym (obeyed-at cfg w e o q).1)
        test false v = let u = and_parts _ _ v in old u.0 (not_is-false _ u.1)

-- What is sent

pub open_place : (cfg : Config) (w : World) → Cluster cfg w → (c : ContainerId) → w.is_alive c ≡ true → (p : Place) × (w.place c ≡ Some p) × IsLaunched cfg w c.app (launched_as c p.attempt p.node p.incarnation) × (is_known (w.node_past p.node) c ≡ true)
open_place cfg w h c a = let p = h.alive c a in let q = h.places c p.0 p.1 in (p.0, p.1, q.0, q.1)

pub not-alive : (cfg : Config) (w : World) (e : Event) (c : ContainerId) → ends cfg w e c ≡ true → (effect cfg w e).is_alive c ≡ false
not-alive cfg w e c t = rw t (and_false (is_obeyed (obeyed w e) c || w.is_alive c))
  where
    and_false : (b : Bool) → (b && false) ≡ false
    and_false true = refl
    and_false false = refl

-- a container that lived and ends is gone
pub gone_now : (cfg : Config) (w : World) (e : Event) → Cluster cfg w → (c : ContainerId) → w.is_alive c ≡ true → ends cfg w e c ≡ true →
    (p : Place) × (w.place c ≡ Some p) × IsLaunched cfg (effect cfg w e) c.app (launched_as c p.attempt p.node p.incarnation) × IsGone (effect cfg w e) (launched_as c p.attempt p.node p.incarnation)
gone_now cfg w e h c a t = let p = open_place cfg w h c a in
    (p.0, p.1, launched_after cfg w e c.app _ p.2, record { not_alive = not-alive cfg w e c t; barred = inl (known_after w e p.0.node c p.3) })

pub ended-fits : (cfg : Config) (w : World) (e : Event) → Cluster cfg w → (c : ContainerId) → w.is_alive c ≡ true → ends cfg w e c ≡ true → EnvelopeFits cfg (effect cfg w e) (to_app c.app (Ended c))
ended-fits cfg w e h c a t = let p = gone_now cfg w e h c a t in (launched_as c p.0.attempt p.0.node p.0.incarnation, p.2, refl, p.3)

-- a kill that is delivered
pub killed-fits : (cfg : Config) (w : World) (e : Event) → Cluster cfg w → (n : ℕ) (c : ContainerId) → In (to_node n (Kill c)) w.bag → ends cfg w e c ≡ true → is_known (node_past_after w e n) c ≡ true →
    EnvelopeFits cfg (effect cfg w e) (to_app c.app (Ended c))
killed-fits cfg w e h n c i t k = let o : PacketFits cfg w (Node n) (Kill c) = Each-In (EnvelopeFits cfg w) w.bag h.packets _ i in
    (launched_as c o.0 n o.1, launched_after cfg w e c.app _ o.2, refl, record { not_alive = not-alive cfg w e c t; barred = inl k })
