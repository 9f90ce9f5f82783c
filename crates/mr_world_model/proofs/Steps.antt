-- What an event can be to the newest generation: nothing, a step of its master that makes no call, a call of its master, a call of one of its containers that is applied, or the start of the next.
use Rattle.std.proofs.Common.{ℕ, suc, ◌≤◌, ◌<◌, ◌≡◌, refl, sym, ◌∙◌, ap, subst, Bool, true, false, ◌&&◌, not, Option, Some, None, if◌then◌else◌, nat_eq, nat_lt, ◌⊎◌, inl, inr, arith, slice_get, length}
use Rattle.std.proofs.lemmas.Bool.{false≢true, true≢false, eqb-true, eqb-false, cases_lt}
use Rattle.mr_world_model.specs.Ids.{ContainerId}
use Rattle.mr_world_model.specs.Content.{Op, refusal, left, NameFault}
use Rattle.mr_world_model.specs.Packets.{Config, Store}
use Rattle.mr_world_model.specs.Pasts.{Place, wish, computed, wished_op}
use Rattle.mr_world_model.specs.Hearing.{Seen, has}
use Rattle.mr_world_model.specs.Duties.{Master_step, Came, Launches, Expires, Asks, seen, next_seen, opening}
use Rattle.mr_world_model.specs.World.{World, Event, Start, Crash, Duty, LaunchOn, Deliver, ContainerStep, Compute, Die, NodeRestart, Expire, unless_stopped, Weather, Calm, Unavailable, Unanswered, Master_act, master_act, duty, seen_by, reply_of, reply_under, launch_of, call_of, is_applied, names_left}
use Rattle.mr_world_model.specs.Effect.{effect, not_now, content_after}
use Rattle.mr_world_model.specs.Claims.{In}
use Rattle.mr_world_model.proofs.Basic.{unless_parts}
use Rattle.mr_world_model.proofs.Grows.{is_started, duty_master, applied_newest}
use Rattle.mr_world_model.proofs.Allowed.{Allowed, permits}
use Rattle.mr_world_model.proofs.Told.{Honest, new_seen, is_allowed, came_act-is}
use Rattle.mr_world_model.proofs.Cluster.{Cluster, StepFits, step-fits, launched_as}

-- a step that makes no call
abbrev pub IsHeard : Master_step → Type 0
IsHeard (Came p) = Unit {0}
IsHeard (Launches l) = Unit {0}
IsHeard (Expires n) = Unit {0}
IsHeard (Asks call r) = ⊥

abbrev pub newest : Config → World → Seen
newest cfg w = seen_by cfg w w.fence

-- a call of a container of the newest generation that is applied
pub record Calls (cfg : Config) (w : World) (e : Event) : Type 0 where
  pub who : ContainerId
  pub place : Place
  pub op : Op
  pub weather : Weather
  pub event : e ≡ ContainerStep who weather
  pub alive : w.is_alive who ≡ true
  pub placed : w.place who ≡ Some place
  pub app : who.app ≡ w.fence
  pub free : has w.barred place.attempt ≡ false
  pub wished : wished_op who.app place.attempt (computed (w.container_past who)) (wish (length cfg.splits) place.attempt (w.container_past who)) ≡ Some op
  pub accepted : refusal w.content op ≡ None
  pub content : (effect cfg w e).content ≡ left w.content op
  pub fence : (effect cfg w e).fence ≡ w.fence
  pub seen : seen_by cfg (effect cfg w e) w.fence ≡ newest cfg w

pub data Case (cfg : Config) (w : World) (e : Event) : Type 0 where
  still : (effect cfg w e).fence ≡ w.fence → (effect cfg w e).content ≡ w.content → seen_by cfg (effect cfg w e) w.fence ≡ newest cfg w → Case cfg w e
  hears : (x : Master_step) → IsHeard x → Allowed cfg w w.fence x → StepFits cfg w w.fence x → (effect cfg w e).fence ≡ w.fence → (effect cfg w e).content ≡ w.content →
      seen_by cfg (effect cfg w e) w.fence ≡ next_seen cfg w.fence (newest cfg w) x → Case cfg w e
  asks : (call : Store) → (g : Weather) → e ≡ Duty w.fence g → duty cfg w w.fence ≡ Some call → (effect cfg w e).fence ≡ w.fence →
      (effect cfg w e).content ≡ content_after w (Some (record { app = w.fence; call = call; fault = g })) →
      seen_by cfg (effect cfg w e) w.fence ≡ next_seen cfg w.fence (newest cfg w) (Asks call (reply_under g (reply_of w w.fence call))) → Case cfg w e
  calls : Calls cfg w e → Case cfg w e
  starts : (effect cfg w e).fence ≡ suc w.fence → (effect cfg w e).content ≡ w.content → seen_by cfg (effect cfg w e) (suc w.fence) ≡ opening → Case cfg w e

-- a container with a place was launched by a master that started
pub old_app : (cfg : Config) (w : World) → Honest cfg w → Cluster cfg w → (c : ContainerId) (p : Place) → w.place c ≡ Some p → c.app ≤ w.fence
unfolding seen
old_app cfg w h k c p q = by (cases_lt w.fence c.app)
  where
    by : (w.fence < c.app) ⊎ (c.app ≤ w.fence) → c.app ≤ w.fence
    by (inr l) = l
    by (inl l) = absurd (subst (λ z. In (launched_as c p.attempt p.node p.incarnation) (seen cfg c.app z).launched) (h.unborn c.app l) (k.places c p q).0)

-- a step without a call: of the newest master, or not
from-act : (cfg : Config) (w : World) (e : Event) → not_now cfg w e ≡ None → ((a : Master_act) → master_act cfg w e ≡ Some a → IsHeard a.step) →
    (effect cfg w e).fence ≡ w.fence → (effect cfg w e).content ≡ w.content → Case cfg w e
unfolding seen
from-act cfg w e n quiet f c = by (master_act cfg w e) refl
  where
    by : (o : Option Master_act) → master_act cfg w e ≡ o → Case cfg w e
    by None q = still f c (rw q refl)
    by (Some a) q = at (nat_eq w.fence a.who) refl
      where
        at : (t : Bool) → nat_eq w.fence a.who ≡ t → Case cfg w e
        at false t = still f c (rw (q, t) refl)
        at true t = let who = eqb-true w.fence a.who t in
            hears a.step (quiet a q) (subst (λ z. Allowed cfg w z a.step) (sym who) (is_allowed cfg w _ (permits cfg w e n) a q).1)
            (subst (λ z. StepFits cfg w z a.step) (sym who) (step-fits cfg w e a q)) f c (rw (q, t) refl)

none-act : {P : Type 0} (a : Master_act) → None ≡ Some a → P
none-act a e = cc

duty-case : (cfg : Config) (w : World) (k : ℕ) (g : Weather) → Honest cfg w → not_now cfg w (Duty k g) ≡ None → Case cfg w (Duty k g)
unfolding master_act call_of seen
duty-case cfg w k g h n = by (duty cfg w k) refl
  where
    old : k ≤ w.fence
    old = h.is_aged.masters_started k (duty_master cfg w k g n)

    by : (o : Option Store) → duty cfg w k ≡ o → Case cfg w (Duty k g)
    by None q = still refl (rw q refl) (rw q refl)
    by (Some call) q = at (nat_eq w.fence k) refl
      where
        at : (t : Bool) → nat_eq w.fence k ≡ t → Case cfg w (Duty k g)
        at true t = let who = eqb-true w.fence k t in
            asks call g (ap (λ z. Duty z g) (sym who)) (subst (λ z. duty cfg w z ≡ Some call) (sym who) q) refl
            (rw q (subst (λ z. content_after w (Some (record { app = z; call = call; fault = g })) ≡ content_after w (Some (record { app = w.fence; call = call; fault = g }))) who refl))
            (rw (q, t) (subst (λ z. next_seen cfg w.fence (newest cfg w) (Asks call (reply_under g (reply_of w z call))) ≡ next_seen cfg w.fence (newest cfg w) (Asks call (reply_under g (reply_of w w.fence call)))) who refl))
        at false t = still refl (rw q (not-applied (is_applied w k g) (λ u. let a = applied_newest w k g u in let b = eqb-false w.fence k t in let o = old in absurd (omega arith)))) (rw (q, t) refl)
          where
            not-applied : (b : Bool) → (b ≡ true → ⊥) → (if b then names_left w.content call else w.content) ≡ w.content
            not-applied true f = absurd (f refl)
            not-applied false f = refl

step-case : (cfg : Config) (w : World) (c : ContainerId) (g : Weather) → Honest cfg w → Cluster cfg w → not_now cfg w (ContainerStep c g) ≡ None → Case cfg w (ContainerStep c g)
unfolding master_act call_of seen not_now
step-case cfg w c g h k n = by (w.place c) refl
  where
    -- a call that is applied is below no fence and, where no bar turned it away, of none that is barred
    not-barred : (b l : Bool) → (b && not l) ≡ false → not l ≡ true → b ≡ false
    not-barred false l e f = refl
    not-barred true l e f = absurd (true≢false (sym f ∙ e))

    alive : w.is_alive c ≡ true
    alive = (unless_parts _ _ _ n).0

    by : (o : Option Place) → w.place c ≡ o → Case cfg w (ContainerStep c g)
    by None q = still refl (rw q refl) refl
    by (Some p) q = at (wished_op c.app p.attempt (computed (w.container_past c)) (wish (length cfg.splits) p.attempt (w.container_past c))) refl
      where
        at : (o : Option Op) → wished_op c.app p.attempt (computed (w.container_past c)) (wish (length cfg.splits) p.attempt (w.container_past c)) ≡ o → Case cfg w (ContainerStep c g)
        at None r = still refl (rw (q, r) (none (has w.barred p.attempt && not (nat_lt c.app w.fence)))) refl
          where
            none : (b : Bool) → content_after w (unless_stopped b None) ≡ w.content
            none true = refl
            none false = refl
        at (Some op) r = stopped (has w.barred p.attempt && not (nat_lt c.app w.fence)) refl
          where
            up : (g : Weather) → is_applied w c.app g ≡ true → not (nat_lt c.app w.fence) ≡ true
            up Calm e = e
            up Unanswered e = e
            up Unavailable e = absurd (false≢true e)

            applied : (has w.barred p.attempt && not (nat_lt c.app w.fence)) ≡ false → (b : Bool) → is_applied w c.app g ≡ b → (f : Option NameFault) → refusal w.content op ≡ f → Case cfg w (ContainerStep c g)
            applied s false u f v = still refl (rw (q, s, r, u) refl) refl
            applied s true u (Some f) v = still refl (rw (q, s, r, u, v) refl) refl
            applied s true u None v = calls (record {
              who = c;
              place = p;
              op = op;
              weather = g;
              event = refl;
              alive = alive;
              placed = q;
              app = (let a = applied_newest w c.app g u in let b = old_app cfg w h k c p q in omega arith);
              free = not-barred _ _ s (up g u);
              wished = r;
              accepted = v;
              content = rw (q, s, r, u, v) refl;
              fence = refl;
              seen = refl;
            })

            stopped : (b : Bool) → (has w.barred p.attempt && not (nat_lt c.app w.fence)) ≡ b → Case cfg w (ContainerStep c g)
            stopped true s = still refl (rw (q, s) refl) refl
            stopped false s = applied s (is_applied w c.app g) refl (refusal w.content op) refl

pub case_of : (cfg : Config) (w : World) (e : Event) → Honest cfg w → Cluster cfg w → not_now cfg w e ≡ None → Case cfg w e
unfolding call_of master_act seen
case_of cfg w (Start k kept) h c n = let q = is_started cfg w k kept n in starts q refl (new_seen cfg w (Start k kept) h n (suc w.fence) (omega arith))
case_of cfg w (Duty k g) h c n = duty-case cfg w k g h n
case_of cfg w (ContainerStep d g) h c n = step-case cfg w d g h c n
case_of cfg w (Crash k kept) h c n = still refl refl refl
case_of cfg w (Expire k m) h c n = from-act cfg w (Expire k m) n
    (λ a q. let x : record { who = k; step = Expires m } ≡ a = cc in subst IsHeard (ap (λ (z : Master_act). z.step) x) tt) refl refl
case_of cfg w (LaunchOn k t m) h c n = from-act cfg w (LaunchOn k t m) n
    (λ a q. let x : record { who = k; step = Launches (launch_of k (seen_by cfg w k) t m) } ≡ a = cc in subst IsHeard (ap (λ (z : Master_act). z.step) x) tt) refl refl
case_of cfg w (Deliver i) h c n = from-act cfg w (Deliver i) n (λ a q. let p = came_act-is (slice_get w.bag i) a q in subst IsHeard (sym p.1) tt) refl refl
case_of cfg w (Compute d b) h c n = still refl refl refl
case_of cfg w (Die d) h c n = still refl refl refl
case_of cfg w (NodeRestart m) h c n = still refl refl refl
