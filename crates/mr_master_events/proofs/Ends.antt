-- What the end of an attempt changes of its task, and by whose failure.
use Rattle.std.proofs.Common.{ℕ, ◌+◌, ◌≡◌, refl, sym, ◌∙◌, ap, subst, Bool, true, false, ◌&&◌, ◌||◌, not, nat_le, List, [], ◌∷◌, ◌++◌, Option, Some, None, filter, cond, count_by, if◌then◌else◌, arith, true≢false}
use Rattle.std.specs.List.{flat_map}
use Rattle.std.specs.Map.{lookup}
use Rattle.std.proofs.lemmas.Bool.{and_parts}
use Rattle.std.proofs.lemmas.List.Sums.{sum_by-cons}
use Rattle.mr_ids.specs.Attempt.{Attempt}
use Rattle.mr_ids.specs.Same.{same_task}
use Rattle.mr_ids.specs.declared.id.TaskId.{TaskId}
use Rattle.mr_ids.proofs.Same.{task-is, task-itself}
use Rattle.mr_grant.specs.Attempts.{same_attempt, has}
use Rattle.mr_task.specs.Calls.{TaskCall}
use Rattle.mr_task.specs.Changes.{ending_by, new_endings}
use Rattle.mr_task.specs.Readings as task
use Rattle.mr_task.proofs.Arrivals.{arrivals}
use Rattle.mr_task.proofs.Changes.{calls_change, ends_change}
use Rattle.mr_grant.proofs.Same.{same-is}
use Rattle.mr_history.specs.declared.record.Record.TheVariants.{AttemptFailed, JobUnsuccessful}
use Rattle.mr_master_model.specs.Past.{Fails}
use Rattle.mr_master_model.specs.declared.setting.Setting.{Setting}
use Rattle.mr_master_model.specs.Job.{is_task, all_tasks}
use Rattle.mr_master_model.specs.Readings.{Seen, of_task, is_live, is_running, tell}
use Rattle.mr_master_model.specs.Hearing.{is_spent, after_failure}
use Rattle.mr_master_model.specs.Sends.{kill_at, kill_of, kill_all}
use Rattle.mr_master_state.specs.mr_master_tasks.specs.declared.ending.Ending.{Ending}
use Rattle.mr_master_state.specs.mr_master_tasks.specs.declared.ending.Ending.TheVariants.{Failure, Exit}
use Rattle.mr_master_state.specs.declared.blame.Blame.{Blame}
use Rattle.mr_master_state.specs.declared.blame.Blame.TheVariants as blame
use Rattle.mr_master_state.specs.Told.{blamed}
use Rattle.mr_master_state.specs.mr_master_tasks.specs.Told.{call_of, is_failure}
use Rattle.mr_master_events.specs.inner.Ends.{is_last_of, fails_job, ended, end_sends, kills_by, blame_of}
use Rattle.mr_master_state.specs.Kills.{kills_but}
use Rattle.mr_master_state.specs.mr_master_tasks.proofs.Keeping.{told-it, told-elsewhere}
use Rattle.mr_master_state.specs.mr_master_tasks.proofs.Telling.{filter-by}

-- ---- one failure more

the-ending : (e : Ending) (a : Attempt) → ending_by (call_of e a) ≡ Some (record { attempt = a; is_failure = is_failure e })
the-ending Failure a = refl
the-ending (Exit was_killed) a = refl

pub one-more : (t : TaskId) (k : ℕ) (calls : List TaskCall) (a : Attempt) (e : Ending) → is_failure e ≡ true → task.is_live (task.seen t k calls) a ≡ true
    → task.failures (task.seen t k (call_of e a ∷ calls)) ≡ task.failures (task.seen t k calls) + 1
one-more t k calls a e fails live =
    let x : task.Ending = record { attempt = a; is_failure = is_failure e } in
    let r = task.seen t k calls in
    let more : (task.seen t k (call_of e a ∷ calls)).ended ≡ x ∷ r.ended =
    calls_change.ended t k calls (call_of e a)
    ∙ ap (λ (o : Option task.Ending). new_endings r o ++ r.ended) (the-ending e a)
    ∙ ap (λ b. (if b then x ∷ [] else []) ++ r.ended) live in
    let counted : count_by (λ (y : task.Ending). y.is_failure) (x ∷ r.ended) ≡ 1 + count_by (λ (y : task.Ending). y.is_failure) r.ended =
    sum_by-cons (λ (y : task.Ending). if y.is_failure then 1 else 0) x r.ended ∙ ap (λ b. (if b then 1 else 0) + count_by (λ (y : task.Ending). y.is_failure) r.ended) fails in
    let before = calls_change.failures t k calls in
    let after = calls_change.failures t k (call_of e a ∷ calls) ∙ ap (λ (l : List task.Ending). count_by (λ (y : task.Ending). y.is_failure) l) more ∙ counted in
    omega (arith, before, after)

pub spent-told : (w : Setting) (s : Seen) (a : Attempt) (e : Ending) → is_failure e ≡ true → is_live w s a ≡ true → is_spent w (tell s a.task (call_of e a)) a.task ≡ is_last_of w (of_task w s a.task)
spent-told w s a e fails live =
    let t = a.task in
    ap (λ (h : List TaskCall). not (task.is_won (task.seen t w.app h)) && nat_le w.limit (task.failures (task.seen t w.app h))) (told-it t (call_of e a) s.calls)
    ∙ (λ i. not ((ends_change t w.app (s.calls t) (call_of e a) (record { attempt = a; is_failure = is_failure e }) (the-ending e a)).won i) && nat_le w.limit (one-more t w.app (s.calls t) a e fails live i))

-- ---- what is seen after the end

and-none : (b c : Bool) → c ≡ false → (b && c) ≡ false
and-none true c e = e
and-none false c e = refl

pub no-failure-is : (w : Setting) (s : Seen) (a : Attempt) (e : Ending) → is_failure e ≡ false → ended w s a e ≡ tell s a.task (call_of e a)
no-failure-is w s a e none = ap (λ b. if b && is_live w s a then after_failure w (tell s a.task (call_of e a)) a else tell s a.task (call_of e a)) none

pub not-live-is : (w : Setting) (s : Seen) (a : Attempt) (e : Ending) → is_live w s a ≡ false → ended w s a e ≡ tell s a.task (call_of e a)
not-live-is w s a e dead = ap (λ b. if b then after_failure w (tell s a.task (call_of e a)) a else tell s a.task (call_of e a)) (and-none (is_failure e) (is_live w s a) dead)

pub failure-is : (w : Setting) (s : Seen) (a : Attempt) (e : Ending) → is_failure e ≡ true → is_live w s a ≡ true → ended w s a e ≡ after_failure w (tell s a.task (call_of e a)) a
failure-is w s a e fails live = λ i. if fails i && live i then after_failure w (tell s a.task (call_of e a)) a else tell s a.task (call_of e a)

abbrev pub last_failure : Seen → Attempt → Seen
last_failure s a = record s { due = s.due ++ AttemptFailed a ∷ JobUnsuccessful ∷ []; work = Fails false }

abbrev pub one_failure : Seen → Attempt → Seen
one_failure s a = record s { due = s.due ++ AttemptFailed a ∷ [] }

pub spent-is : (w : Setting) (s : Seen) (a : Attempt) → is_spent w s a.task ≡ true → after_failure w s a ≡ last_failure s a
spent-is w s a spent = ap (λ b. if b then last_failure s a else one_failure s a) spent

pub unspent-is : (w : Setting) (s : Seen) (a : Attempt) → is_spent w s a.task ≡ false → after_failure w s a ≡ one_failure s a
unspent-is w s a spent = ap (λ b. if b then last_failure s a else one_failure s a) spent

-- ---- what is sent

-- the attempts of a task are those it had
same-arrived : (w : Setting) (s : Seen) (a : Attempt) (e : Ending) (u : TaskId) → (of_task w (tell s a.task (call_of e a)) u).arrived ≡ (of_task w s u).arrived
same-arrived w s a e u = by (same_task u a.task) refl
  where
    t : TaskId
    t = a.task

    by : (b : Bool) → same_task u t ≡ b → (of_task w (tell s a.task (call_of e a)) u).arrived ≡ (of_task w s u).arrived
    by false q = ap (λ (h : List TaskCall). (task.seen u w.app h).arrived) (told-elsewhere t (call_of e a) s.calls u q)
    by true q = subst (λ (v : TaskId). (of_task w (tell s a.task (call_of e a)) v).arrived ≡ (of_task w s v).arrived) (sym (task-is u t q))
        (ap (λ (h : List TaskCall). (task.seen t w.app h).arrived) (told-it t (call_of e a) s.calls)
        ∙ ap (λ (r : task.Seen). r.arrived) (ends_change t w.app (s.calls t) (call_of e a) (record { attempt = a; is_failure = is_failure e }) (the-ending e a)).only)

same-kill : (w : Setting) (s : Seen) (a : Attempt) (e : Ending) (b : Attempt) → kill_of w (tell s a.task (call_of e a)) b ≡ kill_of w s b
same-kill w s a e b = ap (λ (xs : List Attempt). kill_at (if is_task w b.task && has xs b then lookup (same_attempt b) s.launched else None)) (same-arrived w s a e b.task)

has-filter : (p : Attempt → Bool) (xs : List Attempt) (x : Attempt) → has (filter p xs) x ≡ true → has xs x ≡ true
has-filter p [] x e = e
has-filter p (y ∷ ys) x e = by (p y) (same_attempt x y) refl e (has-filter p ys x)
  where
    by : (b c : Bool) → same_attempt x y ≡ c → has (cond b (y ∷ filter p ys) (filter p ys)) x ≡ true → (has (filter p ys) x ≡ true → has ys x ≡ true) → (c || has ys x) ≡ true
    by b true q f go = refl
    by true false q f go = go (sym (ap (λ d. d || has (filter p ys) x) q) ∙ f)
    by false false q f go = go f

-- those that are live then: all that were but the one that ended
still-live : (w : Setting) (s : Seen) (a : Attempt) (e : Ending) (u : TaskId) → task.live (of_task w (tell s a.task (call_of e a)) u) ≡ filter (λ x. not (same_attempt a x)) (task.live (of_task w s u))
still-live w s a e u = by (same_task u a.task) refl
  where
    t : TaskId
    t = a.task

    other : same_task u t ≡ false → (x : Attempt) → has (task.live (of_task w s u)) x ≡ true → not (same_attempt a x) ≡ true
    other q x there = two (same_attempt a x) refl
      where
        two : (b : Bool) → same_attempt a x ≡ b → not b ≡ true
        two false f = refl
        two true f =
            let own : x.task ≡ u = (arrivals u w.app (s.calls u)).of_task x (has-filter (task.is_live (of_task w s u)) (of_task w s u).arrived x there) in
            let is : u ≡ t = sym own ∙ sym (ap (λ (y : Attempt). y.task) (same-is a x f)) in
            absurd (true≢false (sym (ap (λ (v : TaskId). same_task v t) is ∙ task-itself t) ∙ q))

    by : (b : Bool) → same_task u t ≡ b → task.live (of_task w (tell s a.task (call_of e a)) u) ≡ filter (λ x. not (same_attempt a x)) (task.live (of_task w s u))
    by false q =
        ap (λ (h : List TaskCall). task.live (task.seen u w.app h)) (told-elsewhere t (call_of e a) s.calls u q)
        ∙ sym (filter-by (λ x. not (same_attempt a x)) true (task.live (of_task w s u)) (other q))
    by true q = subst (λ (v : TaskId). task.live (of_task w (tell s a.task (call_of e a)) v) ≡ filter (λ x. not (same_attempt a x)) (task.live (of_task w s v))) (sym (task-is u t q))
        (ap (λ (h : List TaskCall). task.live (task.seen t w.app h)) (told-it t (call_of e a) s.calls)
        ∙ (ends_change t w.app (s.calls t) (call_of e a) (record { attempt = a; is_failure = is_failure e }) (the-ending e a)).live)

pub kills-told : (w : Setting) (s : Seen) (a : Attempt) (e : Ending) → kill_all w (tell s a.task (call_of e a)) ≡ flat_map (kills_but w s a) (all_tasks w)
kills-told w s a e = λ i. flat_map (λ u. if is_task w u then flat_map (λ b. same-kill w s a e b i) (still-live w s a e u i) else []) (all_tasks w)

pub loud-sends : (w : Setting) (s : Seen) (a : Attempt) (e : Ending) → is_running s.work ≡ true → fails_job w s a e ≡ true → flat_map (kills_but w s a) (all_tasks w) ≡ end_sends w s a e
loud-sends w s a e runs yes' =
    let p = and_parts (is_failure e) (is_live w s a && is_last_of w (of_task w s a.task)) yes' in
    let q = and_parts (is_live w s a) (is_last_of w (of_task w s a.task)) p.1 in
    let is : ended w s a e ≡ last_failure (tell s a.task (call_of e a)) a =
    failure-is w s a e p.0 q.0 ∙ spent-is w (tell s a.task (call_of e a)) a (spent-told w s a e p.0 q.0 ∙ q.1) in
    sym (kills-told w s a e) ∙ ap (λ (r : Seen). if is_running r.work then [] else kill_all w r) (sym is)

pub quiet-sends : (w : Setting) (s : Seen) (a : Attempt) (e : Ending) → is_running s.work ≡ true → fails_job w s a e ≡ false → [] ≡ end_sends w s a e
quiet-sends w s a e runs no' = by (is_failure e) (is_live w s a) (is_last_of w (of_task w s a.task)) refl refl refl no'
  where
    s1 : Seen
    s1 = tell s a.task (call_of e a)

    quiet : (r : Seen) → is_running r.work ≡ true → ended w s a e ≡ r → [] ≡ end_sends w s a e
    quiet r on is = ap (λ b. if b then [] else kill_all w (ended w s a e)) (sym (ap (λ (v : Seen). is_running v.work) is ∙ on))

    by : (b c d : Bool) → is_failure e ≡ b → is_live w s a ≡ c → is_last_of w (of_task w s a.task) ≡ d → (b && (c && d)) ≡ false → [] ≡ end_sends w s a e
    by false c d f g h n = quiet s1 runs (no-failure-is w s a e f)
    by true false d f g h n = quiet s1 runs (not-live-is w s a e g)
    by true true false f g h n = quiet (one_failure s1 a) runs (failure-is w s a e f g ∙ unspent-is w s1 a (spent-told w s a e f g ∙ h))
    by true true true f g h n = absurd (true≢false n)

-- ---- by whose failure it is

blame-as : (w : Setting) (s : Seen) (a : Attempt) (e : Ending) (b c d : Bool) → is_failure e ≡ b → is_live w s a ≡ c → is_last_of w (of_task w s a.task) ≡ d
    → blame_of w s a e ≡ (if b && c then (if d then blame.Job else blame.Attempt) else blame.Nobody)
blame-as w s a e b c d f g h = λ i. if f i && g i then (if h i then blame.Job else blame.Attempt) else blame.Nobody

pub blamed-is : (w : Setting) (s : Seen) (a : Attempt) (e : Ending) → blamed (tell s a.task (call_of e a)) a (blame_of w s a e) ≡ ended w s a e
blamed-is w s a e = by (is_failure e) (is_live w s a) (is_last_of w (of_task w s a.task)) refl refl refl
  where
    s1 : Seen
    s1 = tell s a.task (call_of e a)

    by : (b c d : Bool) → is_failure e ≡ b → is_live w s a ≡ c → is_last_of w (of_task w s a.task) ≡ d → blamed s1 a (blame_of w s a e) ≡ ended w s a e
    by false c d f g h = ap (λ (x : Blame). blamed s1 a x) (blame-as w s a e false c d f g h) ∙ sym (no-failure-is w s a e f)
    by true false d f g h = ap (λ (x : Blame). blamed s1 a x) (blame-as w s a e true false d f g h) ∙ sym (not-live-is w s a e g)
    by true true true f g h = ap (λ (x : Blame). blamed s1 a x) (blame-as w s a e true true true f g h) ∙ sym (failure-is w s a e f g ∙ spent-is w s1 a (spent-told w s a e f g ∙ h))
    by true true false f g h = ap (λ (x : Blame). blamed s1 a x) (blame-as w s a e true true false f g h) ∙ sym (failure-is w s a e f g ∙ unspent-is w s1 a (spent-told w s a e f g ∙ h))

pub kills-by-is : (w : Setting) (s : Seen) (a : Attempt) (e : Ending) → is_running s.work ≡ true → kills_by w s a (blame_of w s a e) ≡ end_sends w s a e
kills-by-is w s a e runs = by (is_failure e) (is_live w s a) (is_last_of w (of_task w s a.task)) refl refl refl
  where
    by : (b c d : Bool) → is_failure e ≡ b → is_live w s a ≡ c → is_last_of w (of_task w s a.task) ≡ d → kills_by w s a (blame_of w s a e) ≡ end_sends w s a e
    by false c d f g h = ap (λ (x : Blame). kills_by w s a x) (blame-as w s a e false c d f g h) ∙ quiet-sends w s a e runs (λ i. f i && (g i && h i))
    by true false d f g h = ap (λ (x : Blame). kills_by w s a x) (blame-as w s a e true false d f g h) ∙ quiet-sends w s a e runs (λ i. f i && (g i && h i))
    by true true true f g h = ap (λ (x : Blame). kills_by w s a x) (blame-as w s a e true true true f g h) ∙ loud-sends w s a e runs (λ i. f i && (g i && h i))
    by true true false f g h = ap (λ (x : Blame). kills_by w s a x) (blame-as w s a e true true false f g h) ∙ quiet-sends w s a e runs (λ i. f i && (g i && h i))

pub nobodys : (w : Setting) (s : Seen) (a : Attempt) (e : Ending) → (is_failure e && is_live w s a) ≡ false → blame.Nobody ≡ blame_of w s a e
nobodys w s a e none = ap (λ b. if b then (if is_last_of w (of_task w s a.task) then blame.Job else blame.Attempt) else blame.Nobody) (sym none)

-- the job's, if the task failed as often as the limit
pub whose : (w : Setting) (s : Seen) (a : Attempt) (e : Ending) (d : Bool) → is_failure e ≡ true → is_live w s a ≡ true → (is_live w s a && is_last_of w (of_task w s a.task)) ≡ d → (if d then blame.Job else blame.Attempt) ≡ blame_of w s a e
whose w s a e d f g h = ap (λ b. if b then blame.Job else blame.Attempt) (sym h ∙ ap (λ b. b && is_last_of w (of_task w s a.task)) g) ∙ sym (blame-as w s a e true true (is_last_of w (of_task w s a.task)) f g refl)
