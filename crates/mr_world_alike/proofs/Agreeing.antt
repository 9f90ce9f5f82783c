-- To be alike is an equivalence among worlds of runs.
use Rattle.std.proofs.Common.{ℕ, ◌≤◌, ◌≡◌, refl, sym, ◌∙◌, ap, subst, false, List, [], ◌∷◌, Option, Some, None, length}
use Rattle.mr_grant.specs.Attempts.{first_of}
use Rattle.mr_ids.specs.declared.id.TaskId.{TaskId}
use Rattle.mr_task.specs.Calls.{TaskCall}
use Rattle.mr_task.specs.Readings.{seen}
use Rattle.mr_task.proofs.Launches.{none-stand}
use Rattle.mr_container.specs.Readings as container_readings
use Rattle.mr_container.specs.State as container
use Rattle.mr_node.specs.Readings as readings
use Rattle.mr_node.specs.State as node
use Rattle.mr_master_model.specs.declared.setting.Setting.{Setting}
use Rattle.mr_master_model.specs.Readings as read
use Rattle.mr_world_model.specs.Ids.{ContainerId}
use Rattle.mr_world_model.specs.Packets.{Config}
use Rattle.mr_world_model.specs.Pasts.{Place, incarnation_of}
use Rattle.mr_world_model.specs.World.{World, Event}
use Rattle.mr_world_model.specs.Claims.{Limits, world_of}
use Rattle.mr_world_model.specs.Actors.{ContainerIn, NodeIn}
use Rattle.mr_world_model.proofs.Runs.{begins_once}
use Rattle.mr_master_refinement.specs.Steps.{setting}
use Rattle.mr_master_refinement.specs.Agreement.{machine_seen}
use Rattle.mr_world_alike.specs.Masters.{OneTask, SameMasters}
use Rattle.mr_world_alike.specs.Alike.{Alike, OneContainer}
use Rattle.mr_world_alike.specs.Laws.{AlikeIsAnEquivalence}
use Rattle.mr_world_alike.proofs.Tasks.{next-one}

-- ---- tasks

one-itself : (t : TaskId) (k : ℕ) (g : List TaskCall) → OneTask t k g g
one-itself t k [] = record { machine = record { task = t; app = k; attempts = []; grant = record { attempts = []; is_fixed = false }; numbered = 0 }; one = none-stand t k; other = none-stand t k }
one-itself t k (c ∷ g) = next-one t k g g (one-itself t k g) c

-- the machine of the first two stands for the third too: of those that wait, where the name is for good, only the first counts
one-through : (t : TaskId) (k : ℕ) (g h l : List TaskCall) → OneTask t k g h → OneTask t k h l → OneTask t k g l
one-through t k g h l a b =
    let first : first_of a.machine.grant.attempts ≡ first_of b.machine.grant.attempts = a.other.first ∙ sym b.one.first in
    let fixed : a.machine.grant.is_fixed ≡ b.machine.grant.is_fixed = a.other.fixed ∙ sym b.one.fixed in
    let over : (seen t k h).is_fixed ≡ (seen t k l).is_fixed = sym b.one.fixed ∙ b.other.fixed in
    record {
      machine = a.machine;
      one = a.one;
      other = record {
        task = a.other.task;
        app = a.other.app;
        attempts = a.other.attempts ∙ (sym b.one.attempts ∙ b.other.attempts);
        askers = λ free. a.other.askers (over ∙ free) ∙ (sym (b.one.askers (over ∙ free)) ∙ b.other.askers free);
        first = first ∙ b.other.first;
        fixed = fixed ∙ b.other.fixed;
        numbered = a.other.numbered ∙ (sym b.one.numbered ∙ b.other.numbered);
      };
    }

-- ---- masters

masters-itself : (w : Setting) (r : read.Seen) → SameMasters w r r
masters-itself w r = record {
  work = refl;
  tasks = λ t. one-itself t w.app (r.calls t);
  launched = refl;
  killed = λ n. refl;
  known = λ n. refl;
  earlier = refl;
  due = refl;
  tail = refl;
  bars = refl;
}

masters-back : (w : Setting) (r s : read.Seen) → SameMasters w r s → SameMasters w s r
masters-back w r s e = record {
  work = sym e.work;
  tasks = λ t. let o = e.tasks t in record { machine = o.machine; one = o.other; other = o.one };
  launched = sym e.launched;
  killed = λ n. sym (e.killed n);
  known = λ n. sym (e.known n);
  earlier = sym e.earlier;
  due = sym e.due;
  tail = sym e.tail;
  bars = sym e.bars;
}

masters-through : (w : Setting) (r s x : read.Seen) → SameMasters w r s → SameMasters w s x → SameMasters w r x
masters-through w r s x a b = record {
  work = a.work ∙ b.work;
  tasks = λ t. one-through t w.app (r.calls t) (s.calls t) (x.calls t) (a.tasks t) (b.tasks t);
  launched = a.launched ∙ b.launched;
  killed = λ n. a.killed n ∙ b.killed n;
  known = λ n. a.known n ∙ b.known n;
  earlier = a.earlier ∙ b.earlier;
  due = a.due ∙ b.due;
  tail = a.tail ∙ b.tail;
  bars = a.bars ∙ b.bars;
}

-- ---- containers and nodes: a past has one machine

abbrev or-this : Place → Option Place → Place
or-this d None = d
or-this d (Some p) = p

one-machine : (cfg : Config) (u : World) (c : ContainerId) (m n : container.Container) → ContainerIn cfg u c m → ContainerIn cfg u c n → n ≡ m
one-machine cfg u c m n a b =
    let at : b.launched ≡ a.launched = ap (or-this b.launched) (sym b.place ∙ a.place) in
    let id : n.id ≡ m.id = b.stands.id ∙ sym a.stands.id in
    let place : n.place ≡ m.place = b.stands.place ∙ (at ∙ sym a.stands.place) in
    let maps : n.maps ≡ m.maps = b.stands.maps ∙ sym a.stands.maps in
    let seen : n.seen ≡ m.seen = b.stands.seen ∙ (ap (λ (p : Place). container_readings.seen (length cfg.splits) p.attempt (u.container_past c)) at ∙ sym a.stands.seen) in
    λ i. record { id = id i; place = place i; maps = maps i; seen = seen i }

one-node : (cfg : Config) (u : World) (n : ℕ) (m k : node.Node) → NodeIn cfg u n m → NodeIn cfg u n k → k ≡ m
one-node cfg u n m k a b =
    let number : k.number ≡ m.number = b.number ∙ sym a.number in
    let seen : k.seen ≡ m.seen = b.seen ∙ sym a.seen in
    λ i. record { number = number i; seen = seen i }

-- ---- worlds

itself : (cfg : Config) (within : Limits) (es : List Event) → Alike cfg (world_of cfg within es) (world_of cfg within es)
itself cfg within es = record {
  content = refl;
  fence = refl;
  barred = λ a. refl;
  history = λ j a b. refl;
  is_master = λ k. refl;
  masters = λ k t. masters-itself (setting cfg k) (machine_seen cfg k ((world_of cfg within es).master_past k));
  is_alive = λ c. refl;
  containers = λ c t. lives c (begins_once.placed cfg within es c t);
  nodes = λ n t. record {
    machine = record { number = n; seen = readings.seen cfg.reduces ((world_of cfg within es).node_past n) };
    one = record { number = refl; seen = refl };
    other = record { number = refl; seen = refl };
  };
  told = refl;
}
  where
    lives : (c : ContainerId) → (p : Place) × ((world_of cfg within es).place c ≡ Some p) × (p.incarnation ≡ incarnation_of ((world_of cfg within es).node_past p.node)) → OneContainer cfg (world_of cfg within es) (world_of cfg within es) c
    lives c at =
        let m : container.Container = record { id = c; place = at.0; maps = length cfg.splits; seen = container_readings.seen (length cfg.splits) (at.0).attempt ((world_of cfg within es).container_past c) } in
        let i : ContainerIn cfg (world_of cfg within es) c m = record { launched = at.0; place = at.1; stands = record { id = refl; place = refl; maps = refl; seen = refl } } in
        record { machine = m; one = i; other = i }

back : (cfg : Config) (w u : World) → Alike cfg w u → Alike cfg u w
back cfg w u e = record {
  content = sym e.content;
  fence = sym e.fence;
  barred = λ a. sym (e.barred a);
  history = λ j a b. sym (e.history j a (subst (λ (n : ℕ). j ≤ n) (sym e.fence) b));
  is_master = λ k. sym (e.is_master k);
  masters = λ k t. masters-back (setting cfg k) (machine_seen cfg k (w.master_past k)) (machine_seen cfg k (u.master_past k)) (e.masters k (e.is_master k ∙ t));
  is_alive = λ c. sym (e.is_alive c);
  containers = λ c t. let o = e.containers c (e.is_alive c ∙ t) in record { machine = o.machine; one = o.other; other = o.one };
  nodes = λ n t. let o = e.nodes n t in record { machine = o.machine; one = o.other; other = o.one };
  told = sym e.told;
}

through : (cfg : Config) (w u v : World) → Alike cfg w u → Alike cfg u v → Alike cfg w v
through cfg w u v a b = record {
  content = a.content ∙ b.content;
  fence = a.fence ∙ b.fence;
  barred = λ x. a.barred x ∙ b.barred x;
  history = λ j x y. a.history j x y ∙ b.history j x (subst (λ (n : ℕ). j ≤ n) a.fence y);
  is_master = λ k. a.is_master k ∙ b.is_master k;
  masters = λ k t. masters-through (setting cfg k) (machine_seen cfg k (w.master_past k)) (machine_seen cfg k (u.master_past k)) (machine_seen cfg k (v.master_past k)) (a.masters k t) (b.masters k (sym (a.is_master k) ∙ t));
  is_alive = λ c. a.is_alive c ∙ b.is_alive c;
  containers = λ c t.
      let x = a.containers c t in
      let y = b.containers c (sym (a.is_alive c) ∙ t) in
      let P : container.Container → Type 0 = λ z. ContainerIn cfg v c z in
      record { machine = x.machine; one = x.one; other = subst P (one-machine cfg u c x.machine y.machine x.other y.one) y.other };
  nodes = λ n t.
      let x = a.nodes n t in
      let y = b.nodes n t in
      let P : node.Node → Type 0 = λ z. NodeIn cfg v n z in
      record { machine = x.machine; one = x.one; other = subst P (one-node cfg u n x.machine y.machine x.other y.one) y.other };
  told = a.told ∙ b.told;
}

pub equivalence : AlikeIsAnEquivalence
equivalence = record { itself = itself; back = back; through = through }
