-- Each step of a master only tells its tasks more.
use Rattle.std.proofs.Common.{ℕ, ◌≡◌, refl, sym, ◌∙◌, ap, subst, Bool, true, false, not, ◌&&◌, List, [], ◌∷◌, ◌++◌, Option, Some, None, is_some, is_none, nat_lt, if◌then◌else◌, append_assoc}
use Rattle.std.specs.List.{find}
use Rattle.mr_ids.specs.Attempt.{Attempt}
use Rattle.mr_ids.specs.Same.{same_task}
use Rattle.mr_ids.specs.declared.id.TaskId.{TaskId}
use Rattle.mr_grant.specs.Attempts.{has}
use Rattle.mr_task.specs.Calls.{TaskCall}
use Rattle.mr_task.specs.Calls as task_call
use Rattle.mr_task.specs.Readings as task
use Rattle.mr_task.proofs.TaskLaws.{accepted_stays, name_stays}
use Rattle.mr_packet.specs.declared.packet.ContainerId.{ContainerId}
use Rattle.mr_packet.specs.declared.packet.Packet.{Packet}
use Rattle.mr_packet.specs.declared.packet.Packet.TheVariants as packet
use Rattle.mr_history.specs.declared.record.Record.{Record}
use Rattle.mr_master_model.specs.declared.launch.Launch.{Launch}
use Rattle.mr_master_model.specs.declared.phase.DutyName.{DutyName}
use Rattle.mr_master_model.specs.declared.phase.DutyName.TheVariants as name
use Rattle.mr_master_model.specs.declared.setting.Setting.{Setting}
use Rattle.mr_master_model.specs.declared.store.StoreAnswer.{StoreAnswer}
use Rattle.mr_master_model.specs.declared.store.StoreAnswer.TheVariants as answer
use Rattle.mr_master_model.specs.Job.{is_task}
use Rattle.mr_master_model.specs.Past.{Step, Hears, Launches, Expires, Answered, Work, Reads, TakesOver, Runs, Fails}
use Rattle.mr_master_model.specs.Readings.{Seen, is_running, is_over, of_task, is_live, launch_of, launched_in, tell, tell_each, told_each, launch_refusal, expire_refusal}
use Rattle.mr_master_model.specs.Hearing.{after_ask, after_done, is_spent, after_failure, after_end, after_failed, after_ended, dead_below, lost_below, given_up_of_maps, lost_on, after_node_up, after_where, is_lost_map, after_fetch_lost, heard, delivered}
use Rattle.mr_master_model.specs.Duty.{Duty, duty}
use Rattle.mr_master_model.specs.Answered.{is_fine, is_finished, heard_by, with_earlier, with_maps, taken_of, after_bar, moved_first, success_in, tell_recorded, recorded, after_duty, after_due, changed, work_after, with_work, after_answer}
use Rattle.mr_master_model.specs.Next.{moved, next_seen, seen}
use Rattle.mr_master_model.specs.Laws.{CallsGrow, AcceptedStays, NameStays}

pub if_cases : {A : Type 0} (P : A → Type 0) (b : Bool) (x y : A) → (b ≡ true → P x) → (b ≡ false → P y) → P (if b then x else y)
if_cases P true x y p q = p refl
if_cases P false x y p q = q refl

-- r has told each task what s has, and perhaps more
abbrev pub Grew : Seen → Seen → Type 0
Grew s r = (t : TaskId) → (told : List TaskCall) × (r.calls t ≡ told ++ s.calls t)

pub grew-same : (s : Seen) → Grew s s
grew-same s t = ([], refl)

pub grew-then : (s r q : Seen) → Grew s r → Grew r q → Grew s q
grew-then s r q f g t =
    let x = f t in let y = g t in
    (y.0 ++ x.0, y.1 ∙ ap (λ l. y.0 ++ l) x.1 ∙ sym (append_assoc y.0 x.0 (s.calls t)))

pub grew-tell : (s : Seen) (t : TaskId) (call : TaskCall) → Grew s (tell s t call)
grew-tell s t call u = by (same_task u t)
  where
    by : (b : Bool) → (told : List TaskCall) × ((if b then call ∷ s.calls u else s.calls u) ≡ told ++ s.calls u)
    by true = (call ∷ [], refl)
    by false = ([], refl)

told-grows : (call : Attempt → TaskCall) (as' : List Attempt) (calls : List TaskCall) → (told : List TaskCall) × (told_each call as' calls ≡ told ++ calls)
told-grows call [] calls = ([], refl)
told-grows call (a ∷ as') calls = let r = told-grows call as' (call a ∷ calls) in (r.0 ++ call a ∷ [], r.1 ∙ sym (append_assoc r.0 (call a ∷ []) calls))

pub grew-each : (w : Setting) (s : Seen) (call : Attempt → TaskCall) (which : TaskId → List Attempt) → Grew s (tell_each w s call which)
grew-each w s call which t = by (is_task w t)
  where
    by : (b : Bool) → (told : List TaskCall) × ((if b then told_each call (which t) (s.calls t) else s.calls t) ≡ told ++ s.calls t)
    by true = told-grows call (which t) (s.calls t)
    by false = ([], refl)

grew-twice : (w : Setting) (s : Seen) (call call' : Attempt → TaskCall) (which which' : TaskId → List Attempt) → Grew s (tell_each w (tell_each w s call which) call' which')
grew-twice w s call call' which which' =
    grew-then s (tell_each w s call which) (tell_each w (tell_each w s call which) call' which') (grew-each w s call which) (grew-each w (tell_each w s call which) call' which')

-- ---- packets

asks-grow : (s : Seen) (a : Attempt) (l : Option Launch) → Grew s (after_ask s a l)
asks-grow s a None = grew-same s
asks-grow s a (Some l) = grew-tell s a.task (task_call.Asks a)

done-grows : (w : Setting) (s : Seen) (a : Attempt) (bytes : Option ℕ) (l : Option Launch) → Grew s (after_done w s a bytes l)
done-grows w s a bytes None = grew-same s
done-grows w s a bytes (Some l) =
    if_cases (λ r. Grew s r) (task.may_accept (of_task w s a.task) a) _ _ (λ e. grew-tell s a.task (task_call.Reports a)) (λ e. grew-tell s a.task (task_call.Reports a))

failure-grows : (w : Setting) (s r : Seen) (a : Attempt) → Grew s r → Grew s (after_failure w r a)
failure-grows w s r a g = if_cases (λ q. Grew s q) (is_spent w r a.task) _ _ (λ e. g) (λ e. g)

end-grows : (w : Setting) (s : Seen) (a : Attempt) (call : TaskCall) (f : Bool) → Grew s (after_end w s a call f)
end-grows w s a call f =
    if_cases (λ r. Grew s r) (f && is_live w s a) _ _ (λ e. failure-grows w s (tell s a.task call) a (grew-tell s a.task call)) (λ e. grew-tell s a.task call)

failed-grows : (w : Setting) (s : Seen) (a : Attempt) (l : Option Launch) → Grew s (after_failed w s a l)
failed-grows w s a None = grew-same s
failed-grows w s a (Some l) = end-grows w s a (task_call.Fails a) true

ended-grows : (w : Setting) (s : Seen) (c : ContainerId) (p : Option (Attempt × Launch)) → Grew s (after_ended w s c p)
ended-grows w s c None = grew-same s
ended-grows w s c (Some p) = end-grows w s p.0 (task_call.Ends p.0 (s.killed c.number)) (not (s.killed c.number))

where-grows : (s : Seen) (p : Option (Attempt × Launch)) → Grew s (after_where s p)
where-grows s None = grew-same s
where-grows s (Some p) = grew-tell s p.0.task (task_call.Hears p.0)

lost-grows : (w : Setting) (s : Seen) (a : Attempt) (p : Option (Attempt × Launch)) → Grew s (after_fetch_lost w s a p)
lost-grows w s a None = grew-same s
lost-grows w s a (Some p) = if_cases (λ r. Grew s r) (is_lost_map w s a a.task.kind) _ _ (λ e. grew-tell s a.task (task_call.Loses a)) (λ e. grew-same s)

heard-grows : (w : Setting) (s : Seen) (p : Packet) → Grew s (heard w s p)
unfolding heard
heard-grows w s (packet.Pending a) = asks-grow s a (launch_of w s a)
heard-grows w s (packet.Poll a) = asks-grow s a (launch_of w s a)
heard-grows w s (packet.Done a bytes) = done-grows w s a bytes (launch_of w s a)
heard-grows w s (packet.Failed a) = failed-grows w s a (launch_of w s a)
heard-grows w s (packet.Ended c) = ended-grows w s c (launched_in w s c)
heard-grows w s (packet.Where c m) = where-grows s (launched_in w s c)
heard-grows w s (packet.FetchLost c a) = lost-grows w s a (launched_in w s c)
heard-grows w s _ = grew-same s

up-grows : (w : Setting) (s : Seen) (n i : ℕ) → Grew s (after_node_up w s n i)
up-grows w s n i =
    if_cases (λ r. Grew s r) (not (nat_lt (s.known n) i)) _ _ (λ e. grew-same s) (λ e.
    if_cases (λ r. Grew s r) (is_running s.work) _ _ (λ f. grew-twice w s (λ a. task_call.Dies a) (λ a. task_call.Loses a) (dead_below w s n i) (lost_below w s n i)) (λ f. grew-same s))

if-running : (w : Setting) (s : Seen) (p : Packet) → Grew s (if is_running s.work then heard w s p else s)
if-running w s p = if_cases (λ r. Grew s r) (is_running s.work) _ _ (λ e. heard-grows w s p) (λ e. grew-same s)

delivered-grows : (w : Setting) (s : Seen) (p : Packet) → Grew s (delivered w s p)
unfolding delivered
delivered-grows w s (packet.NodeUp n i) = if_cases (λ r. Grew s r) (is_over s.work) _ _ (λ e. grew-same s) (λ e. up-grows w s n i)
delivered-grows w s p = if-running w s p

-- ---- answers

recorded-tells : (w : Setting) (s : Seen) (a : Option Attempt) → Grew s (tell_recorded w s a)
recorded-tells w s None = grew-same s
recorded-tells w s (Some a) = if_cases (λ r. Grew s r) (is_task w a.task) _ _ (λ e. grew-tell s a.task (task_call.Records a)) (λ e. grew-same s)

recorded-grows : (w : Setting) (rs : List Record) (s : Seen) → Grew s (recorded w s rs)
unfolding recorded
recorded-grows w [] s = grew-same s
recorded-grows w (r ∷ rs) s = let q = tell_recorded w s (success_in r) in grew-then s q (recorded w q rs) (recorded-tells w s (success_in r)) (recorded-grows w rs q)

bar-grows : (s : Seen) (a : Option Attempt) → Grew s (after_bar s a)
bar-grows s None = grew-same s
bar-grows s (Some a) = grew-tell s a.task (task_call.Dies a)

moved-grows : (s : Seen) (due : List Record) → Grew s (moved_first s due)
moved-grows s [] = grew-same s
moved-grows s (r ∷ due) = grew-same s

duty-grows : (w : Setting) (s : Seen) (n : DutyName) → Grew s (after_duty w s n)
duty-grows w s name.Bar = bar-grows s (find (is_live w s) s.bars)
duty-grows w s name.Append = moved-grows s s.due
duty-grows w s name.Flush = recorded-grows w s.tail s
duty-grows w s _ = grew-same s

due-grows : (w : Setting) (s : Seen) (d : Option Duty) → Grew s (after_due w s d)
due-grows w s None = grew-same s
due-grows w s (Some d) = duty-grows w s d.name

earlier-grows : (s : Seen) (a : StoreAnswer) → Grew s (with_earlier s a)
earlier-grows s (answer.Told rs) = grew-same s
earlier-grows s _ = grew-same s

changed-grows : (w : Setting) (s : Seen) (a : StoreAnswer) (x : Work) → Grew s (changed w s a x)
unfolding changed
changed-grows w s a Reads = earlier-grows s a
changed-grows w s a (TakesOver x left others) =
    if_cases (λ r. Grew s r) (is_finished (heard_by left a).0) _ _ (λ e. grew-tell s x.task (task_call.Recovers x.attempt)) (λ e. grew-same s)
changed-grows w s a Runs = if_cases (λ r. Grew s r) (is_fine a) _ _ (λ e. due-grows w s (duty w s)) (λ e. grew-same s)
changed-grows w s a (Fails is_stable) = if_cases (λ r. Grew s r) (is_fine a) _ _ (λ e. due-grows w s (duty w s)) (λ e. grew-same s)
changed-grows w s a _ = grew-same s

work-grows : (w : Setting) (s : Seen) (x : Work) → Grew s (with_work w s x)
work-grows w s x = by (is_running x && not (is_running s.work))
  where
    by : (b : Bool) → Grew s (record (if b then with_maps w s else s) { work = x })
    by true = grew-each w s (λ a. task_call.Recovers a) (taken_of s)
    by false = grew-same s

answer-grows : (w : Setting) (s : Seen) (a : StoreAnswer) → Grew s (after_answer w s a)
answer-grows w s a =
    let r = changed w s a s.work in
    if_cases (λ q. Grew s q) (is_some (duty w s)) _ _ (λ e. grew-then s r (with_work w r (work_after w s a s.work)) (changed-grows w s a s.work) (work-grows w r (work_after w s a s.work))) (λ e. grew-same s)

-- ---- all steps

pub step-grows : (w : Setting) (s : Seen) (step : Step) → Grew s (next_seen w s step)
unfolding next_seen moved
step-grows w s (Hears p) = delivered-grows w s p
step-grows w s (Launches t n) = if_cases (λ r. Grew s r) (is_none (launch_refusal w s t n)) _ _ (λ e. grew-tell s t task_call.Launches) (λ e. grew-same s)
step-grows w s (Expires n) = if_cases (λ r. Grew s r) (is_none (expire_refusal w s n)) _ _ (λ e. grew-twice w s (λ a. task_call.Dies a) (λ a. task_call.Loses a) (given_up_of_maps w s n) (lost_on w s n)) (λ e. grew-same s)
step-grows w s (Answered a) = answer-grows w s a

pub past-grows : (w : Setting) (past more : List Step) → Grew (seen w past) (seen w (more ++ past))
unfolding seen
past-grows w past [] = grew-same (seen w past)
past-grows w past (step ∷ more) = let r = seen w (more ++ past) in grew-then (seen w past) r (next_seen w r step) (past-grows w past more) (step-grows w r step)

pub calls_grow : CallsGrow
calls_grow w past more t = past-grows w past more t

-- ---- so the laws of tasks hold along a past

pub accepted-grew : (w : Setting) (s r : Seen) → Grew s r → (a : Attempt) → has (of_task w s a.task).accepted a ≡ true
    → (has (of_task w r a.task).accepted a ≡ true) × (task.is_over (of_task w r a.task).ended a ≡ false)
accepted-grew w s r g a e =
    let x = g a.task in
    let stays = accepted_stays a.task w.app (s.calls a.task) x.0 a e in
    let P : List TaskCall → Type 0 = λ l. (has (task.seen a.task w.app l).accepted a ≡ true) × (task.is_over (task.seen a.task w.app l).ended a ≡ false) in
    subst P (sym x.1) (stays.accepted, stays.is_not_over)

pub master_accepted_stays : AcceptedStays
master_accepted_stays w past more a e = accepted-grew w (seen w past) (seen w (more ++ past)) (past-grows w past more) a e

pub master_name_stays : NameStays
master_name_stays w past more a e f =
    let x = past-grows w past more a.task in
    let P : List TaskCall → Type 0 = λ l. task.is_over (task.seen a.task w.app l).ended a ≡ false in
    let Q : List TaskCall → Type 0 = λ l. task.named (task.seen a.task w.app l) ≡ Some a in
    subst Q (sym x.1) (name_stays a.task w.app ((seen w past).calls a.task) x.0 a e (subst P x.1 f))
