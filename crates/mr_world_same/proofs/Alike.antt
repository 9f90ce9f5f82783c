-- Where parts hold the same, the worlds that they stand for are alike.
use Rattle.std.proofs.Common.{ℕ, ◌+◌, ◌≤◌, ◌<◌, ◌≡◌, refl, sym, ◌∙◌, ap, subst, arith, Bool, true, false, ◌&&◌, List, [], length, get_or, nat_lt, slice_get, Option, Some, None, is_some, ◌==◌}
use Rattle.std.proofs.lemmas.Bool.{true≢false, and_parts, ltb-true}
use Rattle.std.proofs.lemmas.Option.{slice_get-get_or}
use Rattle.mr_ids.specs.declared.id.TaskId.{TaskId}
use Rattle.mr_ids.specs.declared.id.TaskKind.{TaskKind}
use Rattle.mr_ids.specs.declared.id.TaskKind.TheVariants.{Map, Reduce}
use Rattle.mr_history.specs.State.{State}
use Rattle.mr_history.specs.Recorded.{recorded}
use Rattle.mr_history.specs.Calls.{segment}
use Rattle.mr_task.specs.Calls.{TaskCall}
use Rattle.mr_task.specs.Steps.{Task}
use Rattle.mr_task.proofs.Launches.{none-stand}
use Rattle.mr_container.specs.State as container
use Rattle.mr_node.specs.State as node
use Rattle.mr_master_model.specs.declared.setting.Setting.{Setting}
use Rattle.mr_master_model.specs.Job.{is_task, count_of}
use Rattle.mr_master_model.specs.Past.{Step}
use Rattle.mr_master_model.specs.Next.{seen}
use Rattle.mr_master_model.proofs.Killing.{kills_go_to_launched}
use Rattle.mr_master_tasks.specs.Places.{place_by, place_of}
use Rattle.mr_world_model.specs.Ids.{ContainerId}
use Rattle.mr_world_model.specs.Packets.{Config}
use Rattle.mr_world_model.specs.World.{World}
use Rattle.mr_world_model.specs.Actors.{ContainerIn, NodeIn}
use Rattle.mr_master_refinement.specs.Steps.{setting, steps}
use Rattle.mr_master_refinement.specs.Agreement.{machine_seen}
use Rattle.mr_world_alike.specs.Masters.{OneTask, SameMasters}
use Rattle.mr_world_alike.specs.Alike.{OneContainer, OneNode}
use Rattle.mr_world_state.specs.mr_master.specs.Same.{SameMachines}
use Rattle.mr_world_state.specs.mr_master.specs.State.{Master, StandsFor}
use Rattle.mr_world_state.specs.mr_world_actors.specs.Living.{kept}
use Rattle.mr_world_state.specs.mr_world_actors.specs.Nodes.{node_of}
use Rattle.mr_world_state.specs.declared.parts.Parts.{Parts}
use Rattle.mr_world_state.specs.Machines.{master_of, SameMaster}
use Rattle.mr_world_state.specs.Standing.{Standing}
use Rattle.mr_world_same.specs.Same.{SameParts, WhatIsSameIsAlike}

-- ---- masters

abbrev or_this : Bool → Option Bool → Bool
or_this d None = d
or_this d (Some b) = b

abbrev no-task : TaskId → ℕ → Task
no-task t k = record { task = t; app = k; attempts = []; grant = record { attempts = []; is_fixed = false }; numbered = 0 }

-- a task of the job has a place
within : (w : Setting) (t : TaskId) → is_task w t ≡ true → place_of w t < w.maps + w.reduces
within w t e = by t.kind (ltb-true t.number (count_of w t.kind) (and_parts ((t.job.start == w.job.start) && (t.job.number == w.job.number)) (nat_lt t.number (count_of w t.kind)) e).1)
  where
    by : (kind : TaskKind) → t.number < count_of w kind → place_by w kind t.number < w.maps + w.reduces
    by Map l = omega (arith, l)
    by Reduce l = omega (arith, l)

module _ (w : Setting) (g h : List Step) (m n : Master) (a : StandsFor m w g) (b : StandsFor n w h) (e : SameMachines m n) where
  one-task : (t : TaskId) → OneTask t w.app ((seen w g).calls t) ((seen w h).calls t)
  one-task t = by (is_task w t) refl
    where
      by : (c : Bool) → is_task w t ≡ c → OneTask t w.app ((seen w g).calls t) ((seen w h).calls t)
      by true c =
          let count = a.tasks.count in
          let l = within w t c in
          let x : Task = get_or m.tasks.machines (place_of w t) (no-task t w.app) in
          let there : slice_get m.tasks.machines (place_of w t) ≡ Some x = slice_get-get_or m.tasks.machines (place_of w t) (no-task t w.app) (omega (arith, count, l)) in
          let too : slice_get n.tasks.machines (place_of w t) ≡ Some x = (λ i. slice_get (sym e.tasks i).machines (place_of w t)) ∙ there in
          record { machine = x; one = a.tasks.stand t x c there; other = b.tasks.stand t x c too }
      by false c =
          let P : List TaskCall → Type 0 = λ z. OneTask t w.app z ((seen w h).calls t) in
          let Q : List TaskCall → Type 0 = λ z. OneTask t w.app [] z in
          subst P (sym (a.tasks.outside t c)) (subst Q (sym (b.tasks.outside t c)) (record { machine = no-task t w.app; one = none-stand t w.app; other = none-stand t w.app }))

  launched-same : (seen w g).launched ≡ (seen w h).launched
  launched-same = sym a.launches.entries ∙ (e.entries ∙ b.launches.entries)

  killed-same : (i : ℕ) → (seen w g).killed i ≡ (seen w h).killed i
  killed-same i = by (nat_lt i (length (seen w g).launched)) refl
    where
      by : (c : Bool) → nat_lt i (length (seen w g).launched) ≡ c → (seen w g).killed i ≡ (seen w h).killed i
      by true c =
          let l = ltb-true i (length (seen w g).launched) c in
          let there : i < length (seen w h).launched = subst (λ (z : ℕ). i < z) (ap (λ xs. length xs) launched-same) l in
          let now : Some ((seen w g).killed i) ≡ Some ((seen w h).killed i) = sym (a.launches.killed i l) ∙ (ap (λ (xs : List Bool). slice_get xs i) e.killed ∙ b.launches.killed i there) in
          ap (or_this false) now
      by false c = kills_go_to_launched w g i c ∙ sym (kills_go_to_launched w h i (sym (ap (λ xs. nat_lt i (length xs)) launched-same) ∙ c))

  masters-same : SameMasters w (seen w g) (seen w h)
  masters-same = record {
    work = sym a.work ∙ (e.work ∙ b.work);
    tasks = one-task;
    launched = launched-same;
    killed = killed-same;
    known = λ k. sym (a.nodes k) ∙ (e.known k ∙ b.nodes k);
    earlier = sym a.earlier ∙ (e.earlier ∙ b.earlier);
    due = sym a.writing.due ∙ (e.due ∙ b.writing.due);
    tail = sym a.writing.tail ∙ (e.tail ∙ b.writing.tail);
    bars = sym a.bars ∙ (e.bars ∙ b.bars);
  }

same-some : (o x : Option Master) → SameMaster o x → is_some o ≡ is_some x
same-some None None s = refl
same-some (Some m) None s = absurd s
same-some None (Some n) s = absurd s
same-some (Some m) (Some n) s = refl

-- ---- the parts

module _ (p q : Parts) (w u : World) (a : Standing p w) (b : Standing q u) (s : SameParts p q) where
  fence-same : w.fence ≡ u.fence
  fence-same = sym a.stores.namespace.fence ∙ (s.fence ∙ b.stores.namespace.fence)

  history-same : (j : ℕ) → 1 ≤ j → j ≤ w.fence → w.history j ≡ u.history j
  history-same j l m =
      let at = a.stores.fence in
      let bound = a.stores.sound.bound in
      let count = a.stores.sound.count in
      let too = b.stores.sound.count in
      let here = a.stores.tells.each j l (omega (arith, m, at, bound, count)) in
      let there = b.stores.tells.each j l (omega (arith, m, at, bound, too)) in
      sym here.is ∙ (ap (λ (h : State). recorded (segment h j)) s.history ∙ there.is)

  master-same : (k : ℕ) → w.is_master k ≡ u.is_master k
  master-same k = sym (a.masters.alive k) ∙ (same-some (master_of p.masters k) (master_of q.masters k) (s.masters k) ∙ b.masters.alive k)

  masters-are : (k : ℕ) → w.is_master k ≡ true → SameMasters (setting p.config k) (machine_seen p.config k (w.master_past k)) (machine_seen p.config k (u.master_past k))
  masters-are k t = by (master_of p.masters k) (master_of q.masters k) refl refl (s.masters k)
    where
      by : (o x : Option Master) → master_of p.masters k ≡ o → master_of q.masters k ≡ x → SameMaster o x → SameMasters (setting p.config k) (machine_seen p.config k (w.master_past k)) (machine_seen p.config k (u.master_past k))
      by None x y z r = absurd (true≢false (sym t ∙ (sym (a.masters.alive k) ∙ ap is_some y)))
      by (Some m) None y z r = absurd r
      by (Some m) (Some n) y z r =
          let P : Config → Type 0 = λ cfg. StandsFor n (setting cfg k) (steps (u.master_past k)) in
          masters-same (setting p.config k) (steps (w.master_past k)) (steps (u.master_past k)) m n (a.masters.machines k m y) (subst P (sym s.config) (b.masters.machines k n z)) r

  alive-same : (c : ContainerId) → w.is_alive c ≡ u.is_alive c
  alive-same c = sym (a.living.alive c) ∙ (ap is_some (s.living c) ∙ b.living.alive c)

  containers-are : (c : ContainerId) → w.is_alive c ≡ true → OneContainer p.config w u c
  containers-are c t = by (kept p.living c) refl
    where
      by : (o : Option container.Container) → kept p.living c ≡ o → OneContainer p.config w u c
      by None y = absurd (true≢false (sym t ∙ (sym (a.living.alive c) ∙ ap is_some y)))
      by (Some m) y =
          let P : Config → Type 0 = λ cfg. ContainerIn cfg u c m in
          record { machine = m; one = a.living.machines c m y; other = subst P (sym s.config) (b.living.machines c m (sym (s.living c) ∙ y)) }

  nodes-are : (n : ℕ) → nat_lt n (p.config).nodes ≡ true → OneNode p.config w u n
  nodes-are n t = by (node_of p.nodes n) refl
    where
      by : (o : Option node.Node) → node_of p.nodes n ≡ o → OneNode p.config w u n
      by None y = absurd (true≢false (sym t ∙ (sym (a.nodes.there n) ∙ ap is_some y)))
      by (Some m) y =
          let P : Config → Type 0 = λ cfg. NodeIn cfg u n m in
          record { machine = m; one = a.nodes.machines n m y; other = subst P (sym s.config) (b.nodes.machines n m (sym (s.nodes n) ∙ y)) }

pub same_is_alike : WhatIsSameIsAlike
same_is_alike p q w u a b s told = record {
  content = sym a.stores.namespace.content ∙ (s.content ∙ b.stores.namespace.content);
  fence = fence-same p q w u a b s;
  barred = λ x. sym (a.stores.namespace.barred x) ∙ (s.barred x ∙ b.stores.namespace.barred x);
  history = history-same p q w u a b s;
  is_master = master-same p q w u a b s;
  masters = masters-are p q w u a b s;
  is_alive = alive-same p q w u a b s;
  containers = containers-are p q w u a b s;
  nodes = nodes-are p q w u a b s;
  told = told;
}
