-- An attempt's number tells its generation, so an attempt has one container and one whole output.
use Rattle.std.proofs.Common.{ℕ, ◌+◌, ◌-◌, ◌*◌, ◌≤◌, ◌<◌, ◌≡◌, sym, ◌∙◌, ap, subst, true, not, List, ◌∷◌, Option, Some, None, nat_eq, nat_lt, ◌⊎◌, inl, inr, arith, slice_get}
use Rattle.std.proofs.lemmas.Bool.{and_parts, false≢true, eqb-true, ltb-true}
use Rattle.mr_world_model.specs.Ids.{Attempt, ContainerId, TaskId, of_reduces}
use Rattle.mr_world_model.specs.Packets.{Config, Store}
use Rattle.mr_world_model.specs.Pasts.{Place, computed}
use Rattle.mr_world_model.specs.Hearing.{Seen, Launched, is_won, is_running}
use Rattle.mr_world_model.specs.Duties.{Master_step, Came, Launches, Expires, Asks, seen}
use Rattle.mr_world_model.specs.World.{World, Event, Start, Crash, Duty, LaunchOn, Deliver, ContainerStep, Compute, Die, NodeRestart, Expire, Weather, Master_act, master_act, duty_act, duty, seen_by, launch_of, count_of, reply_of, reply_under, opening_world}
use Rattle.mr_world_model.specs.Effect.{effect, not_now, task_fault, live_count, is_task, Task, AlreadyWon, TooManyLive, TooManyAttempts, NoMaster, NotRunning, NoTask, NoNode}
use Rattle.mr_world_model.specs.Claims.{In, OneWholeOutput, Limits, world_of}
use Rattle.mr_world_model.proofs.Basic.{or_parts, unless_parts, along}
use Rattle.mr_world_model.proofs.Closed.{Closed, LaunchFits, next-closed}
use Rattle.mr_world_model.proofs.Grows.{is_started}
use Rattle.mr_world_model.proofs.Allowed.{seen_after, permits}
use Rattle.mr_world_model.proofs.Told.{is_allowed, came_act-is}
use Rattle.mr_world_model.proofs.Cluster.{Cluster, launched_as}
use Rattle.mr_world_model.proofs.Sends.{cluster, opening-cluster}
use Rattle.mr_world_model.proofs.Dirs.{same_attempt}

-- the numbers of generation k
abbrev pub IsNumbered : ℕ → Launched → Type 0
IsNumbered k l = (1 ≤ k) × ((1000 * (k - 1) ≤ l.attempt.number) × (l.attempt.number < 1000 * (k - 1) + 1000))

pub record Numbers (cfg : Config) (w : World) : Type 0 where
  pub clusters : Cluster cfg w
  pub positive : (k : ℕ) → w.is_master k ≡ true → 1 ≤ k
  pub ranged : (k : ℕ) (l : Launched) → In l (seen_by cfg w k).launched → IsNumbered k l

abbrev LaunchOf : ℕ → Master_step → Type 0
LaunchOf k (Came p) = Unit {0}
LaunchOf k (Launches l) = (1000 * (k - 1) ≤ l.attempt.number) × (l.attempt.number < 1000 * (k - 1) + 1000)
LaunchOf k (Expires n) = Unit {0}
LaunchOf k (Asks call r) = Unit {0}

duty-of : (w : World) (k : ℕ) (g : Weather) (o : Option Store) (a : Master_act) → duty_act w k g o ≡ Some a → LaunchOf a.who a.step
duty-of w k g None a q = cc
duty-of w k g (Some call) a q = let x : record { who = k; step = Asks call (reply_under g (reply_of w k call)) } ≡ a = cc in subst (λ (z : Master_act). LaunchOf z.who z.step) x tt

fault-count : (s : Seen) (t : TaskId) → task_fault s t ≡ None → count_of s.launched t < 1000
fault-count s t f =
    let a = unless_parts (not (is_won s (of_reduces t.kind) t)) (Task AlreadyWon) _ f in let b = unless_parts (nat_lt (live_count s t s.launched) 2) (Task TooManyLive) _ a.1 in
    ltb-true (count_of s.launched t) 1000 (unless_parts (nat_lt (count_of s.launched t) 1000) (Task TooManyAttempts) None b.1).0

launch-count : (cfg : Config) (w : World) (k : ℕ) (t : TaskId) (n : ℕ) → not_now cfg w (LaunchOn k t n) ≡ None → count_of (seen_by cfg w k).launched t < 1000
unfolding not_now
launch-count cfg w k t n q =
    let a = unless_parts (w.is_master k) NoMaster _ q in let b = unless_parts (is_running (seen_by cfg w k).phase) NotRunning _ a.1 in
    let c = unless_parts (is_task cfg t) NoTask _ b.1 in let d = unless_parts (nat_lt n cfg.nodes) NoNode (task_fault (seen_by cfg w k) t) c.1 in
    fault-count (seen_by cfg w k) t d.1

act-of : (cfg : Config) (w : World) (e : Event) → not_now cfg w e ≡ None → (a : Master_act) → master_act cfg w e ≡ Some a → LaunchOf a.who a.step
unfolding master_act
act-of cfg w (Duty k g) n a q = duty-of w k g (duty cfg w k) a q
act-of cfg w (LaunchOn k t m) n a q =
    let small = launch-count cfg w k t m n in
    let x : record { who = k; step = Launches (launch_of k (seen_by cfg w k) t m) } ≡ a = cc in
    subst (λ (z : Master_act). LaunchOf z.who z.step) x (omega arith, omega (arith, small))
act-of cfg w (Deliver i) n a q = let p = came_act-is (slice_get w.bag i) a q in subst (LaunchOf a.who) (sym p.1) tt
act-of cfg w (Expire k m) n a q = let x : record { who = k; step = Expires m } ≡ a = cc in subst (λ (z : Master_act). LaunchOf z.who z.step) x tt
act-of cfg w (Start k kept) n a q = cc
act-of cfg w (Crash k kept) n a q = cc
act-of cfg w (ContainerStep c g) n a q = cc
act-of cfg w (Compute c b) n a q = cc
act-of cfg w (Die c) n a q = cc
act-of cfg w (NodeRestart m) n a q = cc

of-closed : (cfg : Config) (k : ℕ) → Closed cfg (λ s l. IsNumbered k l) (λ s. (l : Launched) → In l s.launched → IsNumbered k l)
of-closed cfg k = record { asks = λ s a o. o; ends = λ s a f due p o. o; accepts = λ s a st due o. o; knows = λ s f ps o. o; calls = λ s p ws st rs ks h due tail o. o; launches = launches; expires = λ s ks bs o. o }
  where
    launches : (s : Seen) (l : Launched) (due : List Rattle.mr_world_model.specs.Records.Record) → IsNumbered k l → ((l : Launched) → In l s.launched → IsNumbered k l) → (m : Launched) → In m (l ∷ s.launched) → IsNumbered k m
    launches s l due u o m (inl e) = subst (IsNumbered k) e u
    launches s l due u o m (inr i) = o m i

positive_after : (cfg : Config) (w : World) (e : Event) → not_now cfg w e ≡ None → ((k : ℕ) → w.is_master k ≡ true → 1 ≤ k) → (k : ℕ) → (effect cfg w e).is_master k ≡ true → 1 ≤ k
positive_after cfg w (Start j kept) n o k t = by (or_parts _ _ t)
  where
    by : (nat_eq k j ≡ true) ⊎ (w.is_master k ≡ true) → 1 ≤ k
    by (inl q) = let s = is_started cfg w j kept n in let r = eqb-true k j q in omega (arith, s, r)
    by (inr q) = o k q
positive_after cfg w (Crash j kept) n o k t = o k (and_parts _ _ t).1
positive_after cfg w (Duty j g) n o k t = o k t
positive_after cfg w (LaunchOn j u m) n o k t = o k t
positive_after cfg w (Deliver i) n o k t = o k t
positive_after cfg w (ContainerStep c g) n o k t = o k t
positive_after cfg w (Compute c b) n o k t = o k t
positive_after cfg w (Die c) n o k t = o k t
positive_after cfg w (NodeRestart m) n o k t = o k t
positive_after cfg w (Expire j m) n o k t = o k t

pub numbers : (cfg : Config) (w : World) (e : Event) → Numbers cfg w → not_now cfg w e ≡ None → Numbers cfg (effect cfg w e)
numbers cfg w e h n = record {
  clusters = cluster cfg w e h.clusters n;
  positive = positive_after cfg w e n h.positive;
  ranged = λ k. seen_after (λ s. (l : Launched) → In l s.launched → IsNumbered k l) cfg w (master_act cfg w e) k (h.ranged k)
      (λ a q m. next-closed cfg (λ s l. IsNumbered k l) (λ s. (l : Launched) → In l s.launched → IsNumbered k l) (of-closed cfg k) k (seen_by cfg w k) a.step
      (subst (λ z. LaunchFits (λ s l. IsNumbered z l) (seen_by cfg w k) a.step) m (fits a.who k a.step (h.positive a.who (is_allowed cfg w _ (permits cfg w e n) a q).0) (act-of cfg w e n a q))) (h.ranged k));
}
  where
    fits : (j k : ℕ) (x : Master_step) → 1 ≤ j → LaunchOf j x → LaunchFits (λ s l. IsNumbered j l) (seen_by cfg w k) x
    fits j k (Came p) u o = tt
    fits j k (Launches l) u o = (u, o)
    fits j k (Expires n) u o = tt
    fits j k (Asks call r) u o = tt

pub opening-numbers : (cfg : Config) → Numbers cfg opening_world
unfolding seen
opening-numbers cfg = record { clusters = opening-cluster cfg; positive = λ k t. absurd (false≢true t); ranged = λ k l i. absurd i }

same-number : (j k n : ℕ) → 1 ≤ j → 1 ≤ k → 1000 * (j - 1) ≤ n → n < 1000 * (j - 1) + 1000 → 1000 * (k - 1) ≤ n → n < 1000 * (k - 1) + 1000 → j ≡ k
same-number j k n a b c d f g = omega arith

-- two containers of one attempt are one
same-container : (cfg : Config) (w : World) → Numbers cfg w → (c d : ContainerId) (p q : Place) → w.place c ≡ Some p → w.place d ≡ Some q → p.attempt ≡ q.attempt → c ≡ d
same-container cfg w h c d p q pc qd e = same_attempt cfg w h.clusters c d p q pc qd app e
  where
    r : IsNumbered c.app (launched_as c p.attempt p.node p.incarnation)
    r = h.ranged c.app _ (h.clusters.places c p pc).0

    s : IsNumbered d.app (launched_as d q.attempt q.node q.incarnation)
    s = h.ranged d.app _ (h.clusters.places d q qd).0

    s' : (1000 * (d.app - 1) ≤ p.attempt.number) × (p.attempt.number < 1000 * (d.app - 1) + 1000)
    s' = subst (λ (z : Attempt). (1000 * (d.app - 1) ≤ z.number) × (z.number < 1000 * (d.app - 1) + 1000)) (sym e) s.1

    app : c.app ≡ d.app
    app = same-number c.app d.app p.attempt.number r.0 s.0 r.1.0 r.1.1 s'.0 s'.1

pub whole_is_one : (cfg : Config) (within : Limits) → OneWholeOutput cfg within
whole_is_one cfg within es a b c x y =
    let h = along (Numbers cfg) cfg within (λ w e s n. numbers cfg w e s n) opening_world es (opening-numbers cfg) in
    let same : x.0 ≡ y.0 = same-container cfg (world_of cfg within es) h x.0 y.0 x.1 y.1 x.2 y.2 (x.3 ∙ sym y.3) in
    sym x.4 ∙ (ap (λ z. computed ((world_of cfg within es).container_past z)) same ∙ y.4)
