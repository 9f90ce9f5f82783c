-- Two masters that are alike stay so where the same is changed.
use Rattle.std.proofs.Common.{◌≡◌, ℕ, Bool, true, false, List, [], ◌∷◌, nat_eq, refl, ap, subst, if◌then◌else◌}
use Rattle.mr_ids.specs.Attempt.{Attempt}
use Rattle.mr_ids.specs.Same.{same_task}
use Rattle.mr_ids.specs.declared.id.TaskId.{TaskId}
use Rattle.mr_task.specs.Calls.{TaskCall}
use Rattle.mr_history.specs.declared.record.Record.{Record}
use Rattle.mr_master_model.specs.declared.setting.Setting.{Setting}
use Rattle.mr_master_model.specs.Job.{is_task}
use Rattle.mr_master_model.specs.Past.{Work}
use Rattle.mr_master_model.specs.Readings.{Seen, tell, tell_each, told_each}
use Rattle.mr_master_model.specs.Hearing.{with_known}
use Rattle.mr_world_alike.specs.Masters.{OneTask, SameMasters}
use Rattle.mr_world_alike.proofs.Tasks.{next-one, told-one}

-- by a test that is the same
pub if-same : {w : Setting} {x x' y y' : Seen} (b c : Bool) → b ≡ c → SameMasters w x x' → SameMasters w y y' → SameMasters w (if b then x else y) (if c then x' else y')
if-same {w} {x} {x'} {y} {y'} b c p f g = subst (λ (d : Bool). SameMasters w (if b then x else y) (if d then x' else y')) p (by b)
  where
    by : (d : Bool) → SameMasters w (if d then x else y) (if d then x' else y')
    by true = f
    by false = g

module _ (w : Setting) (r s : Seen) (e : SameMasters w r s) where
  pub with-calls : (f g : TaskId → List TaskCall) → ((t : TaskId) → OneTask t w.app (f t) (g t)) → SameMasters w (record r { calls = f }) (record s { calls = g })
  with-calls f g o = record { work = e.work; tasks = o; launched = e.launched; killed = e.killed; known = e.known; earlier = e.earlier; due = e.due; tail = e.tail; bars = e.bars }

  -- what is due, and what the master is at
  pub with-due : (x y : List Record) → x ≡ y → SameMasters w (record r { due = x }) (record s { due = y })
  with-due x y p = record { work = e.work; tasks = e.tasks; launched = e.launched; killed = e.killed; known = e.known; earlier = e.earlier; due = p; tail = e.tail; bars = e.bars }

  pub with-failing : (x y : List Record) → x ≡ y → (v : Work) → SameMasters w (record r { due = x; work = v }) (record s { due = y; work = v })
  with-failing x y p v = record { work = refl; tasks = e.tasks; launched = e.launched; killed = e.killed; known = e.known; earlier = e.earlier; due = p; tail = e.tail; bars = e.bars }

  pub with-work-of : (x y : Work) → x ≡ y → SameMasters w (record r { work = x }) (record s { work = y })
  with-work-of x y p = record { work = p; tasks = e.tasks; launched = e.launched; killed = e.killed; known = e.known; earlier = e.earlier; due = e.due; tail = e.tail; bars = e.bars }

  pub with-earlier-of : (x : List Record) → SameMasters w (record r { earlier = x }) (record s { earlier = x })
  with-earlier-of x = record { work = e.work; tasks = e.tasks; launched = e.launched; killed = e.killed; known = e.known; earlier = refl; due = e.due; tail = e.tail; bars = e.bars }

  pub with-writing : (x y p q : List Record) → x ≡ y → p ≡ q → SameMasters w (record r { due = x; tail = p }) (record s { due = y; tail = q })
  with-writing x y p q a b = record { work = e.work; tasks = e.tasks; launched = e.launched; killed = e.killed; known = e.known; earlier = e.earlier; due = a; tail = b; bars = e.bars }

  pub without-tail : SameMasters w (record r { tail = [] }) (record s { tail = [] })
  without-tail = record { work = e.work; tasks = e.tasks; launched = e.launched; killed = e.killed; known = e.known; earlier = e.earlier; due = e.due; tail = refl; bars = e.bars }

  pub with-bars : (x y : List Attempt) → x ≡ y → SameMasters w (record r { bars = x }) (record s { bars = y })
  with-bars x y p = record { work = e.work; tasks = e.tasks; launched = e.launched; killed = e.killed; known = e.known; earlier = e.earlier; due = e.due; tail = e.tail; bars = p }

  pub known-on : (n i : ℕ) → SameMasters w (with_known r n i) (with_known s n i)
  known-on n i = record {
    work = e.work;
    tasks = e.tasks;
    launched = e.launched;
    killed = e.killed;
    known = λ m. ap (λ x. if nat_eq m n then i else x) (e.known m);
    earlier = e.earlier;
    due = e.due;
    tail = e.tail;
    bars = e.bars;
  }

  -- ---- tasks are told something

  pub told-same : (t : TaskId) (c : TaskCall) → SameMasters w (tell r t c) (tell s t c)
  told-same t c = with-calls (λ u. if same_task u t then c ∷ r.calls u else r.calls u) (λ u. if same_task u t then c ∷ s.calls u else s.calls u) (λ u. by u (same_task u t))
    where
      by : (u : TaskId) (b : Bool) → OneTask u w.app (if b then c ∷ r.calls u else r.calls u) (if b then c ∷ s.calls u else s.calls u)
      by u true = next-one u w.app (r.calls u) (s.calls u) (e.tasks u) c
      by u false = e.tasks u

  pub each-same : (c : Attempt → TaskCall) (p q : TaskId → List Attempt) → ((t : TaskId) → p t ≡ q t) → SameMasters w (tell_each w r c p) (tell_each w s c q)
  each-same c p q is =
      with-calls (λ t. if is_task w t then told_each c (p t) (r.calls t) else r.calls t) (λ t. if is_task w t then told_each c (q t) (s.calls t) else s.calls t) (λ t. by t (is_task w t))
    where
      by : (t : TaskId) (b : Bool) → OneTask t w.app (if b then told_each c (p t) (r.calls t) else r.calls t) (if b then told_each c (q t) (s.calls t) else s.calls t)
      by t true =
          let P : List Attempt → Type 0 = λ l. OneTask t w.app (told_each c (p t) (r.calls t)) (told_each c l (s.calls t)) in
          subst P (is t) (told-one t w.app (r.calls t) (s.calls t) (e.tasks t) c (p t))
      by t false = e.tasks t
