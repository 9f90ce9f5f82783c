-- The records of a reduce's success that are due or unflushed tell of an accepted attempt, and so of one.
use Rattle.std.proofs.Common.{ℕ, ◌≡◌, refl, sym, ◌∙◌, ap, subst, Bool, true, false, not, ◌&&◌, ◌||◌, List, [], ◌∷◌, ◌++◌, Option, Some, None, is_some, is_none, nat_lt, if◌then◌else◌, ◌⊎◌, inl, inr}
use Rattle.std.specs.List.{find}
use Rattle.mr_ids.specs.Attempt.{Attempt}
use Rattle.mr_ids.specs.declared.id.TaskId.{TaskId}
use Rattle.mr_ids.specs.declared.id.TaskKind.{TaskKind}
use Rattle.mr_ids.specs.declared.id.TaskKind.TheVariants.{Map, Reduce}
use Rattle.mr_ids.proofs.Same.{task-itself}
use Rattle.mr_grant.specs.Attempts.{has}
use Rattle.mr_grant.proofs.Same.{same-itself}
use Rattle.mr_task.specs.Calls.{TaskCall}
use Rattle.mr_task.specs.Calls as task_call
use Rattle.mr_task.specs.Readings as task
use Rattle.mr_task.proofs.TaskLaws.{one_is_accepted}
use Rattle.mr_task.proofs.Changes.{calls_change}
use Rattle.mr_packet.specs.declared.packet.ContainerId.{ContainerId}
use Rattle.mr_packet.specs.declared.packet.Packet.{Packet}
use Rattle.mr_packet.specs.declared.packet.Packet.TheVariants as packet
use Rattle.mr_history.specs.declared.record.Record.{Record}
use Rattle.mr_history.specs.declared.record.Record.TheVariants.{AttemptStarted, ReduceSucceeded, AttemptFailed, JobUnsuccessful}
use Rattle.mr_master_model.specs.declared.launch.Launch.{Launch}
use Rattle.mr_master_model.specs.declared.phase.DutyName.{DutyName}
use Rattle.mr_master_model.specs.declared.phase.DutyName.TheVariants as name
use Rattle.mr_master_model.specs.declared.setting.Setting.{Setting}
use Rattle.mr_master_model.specs.declared.store.StoreAnswer.{StoreAnswer}
use Rattle.mr_master_model.specs.declared.store.StoreAnswer.TheVariants as answer
use Rattle.mr_master_model.specs.Job.{is_task}
use Rattle.mr_master_model.specs.Past.{Step, Hears, Launches, Expires, Answered, Work, Reads, TakesOver, Runs, Fails}
use Rattle.mr_master_model.specs.Readings.{Seen, is_running, is_over, of_task, is_live, launch_of, launched_in, tell, launch_refusal, expire_refusal, next_attempt, launched_as}
use Rattle.mr_master_model.specs.Hearing.{after_ask, success_of, after_done, is_spent, after_failure, after_end, after_failed, after_ended, after_node_up, after_where, is_lost_map, after_fetch_lost, heard, delivered, with_launch, after_launch}
use Rattle.mr_master_model.specs.Duty.{Duty, duty}
use Rattle.mr_master_model.specs.Answered.{is_fine, is_finished, heard_by, with_earlier, with_maps, after_bar, moved_first, success_in, tell_recorded, recorded, flushed, after_duty, after_due, changed, work_after, with_work, after_answer}
use Rattle.mr_master_model.specs.Next.{moved, next_seen, seen}
use Rattle.mr_master_model.specs.Laws.{In, OneIsRecorded}
use Rattle.mr_master_model.proofs.Growing.{if_cases, step-grows, accepted-grew}

pub In-parts : {A : Type 0} (x : A) (xs ys : List A) → In x (xs ++ ys) → In x xs ⊎ In x ys
In-parts x [] ys i = inr i
In-parts x (y ∷ xs) ys (inl e) = inl (inl e)
In-parts x (y ∷ xs) ys (inr i) = by (In-parts x xs ys i)
  where
    by : In x xs ⊎ In x ys → In x (y ∷ xs) ⊎ In x ys
    by (inl j) = inl (inr j)
    by (inr j) = inr j

abbrev is_accepted : Setting → Seen → Attempt → Bool
is_accepted w s a = has (of_task w s a.task).accepted a

-- a success of a reduce that is due or unflushed
abbrev Waits : Seen → Attempt → Option ℕ → Type 0
Waits s a n = In (ReduceSucceeded a n) s.due ⊎ In (ReduceSucceeded a n) s.tail

-- what waits after a change waited before, or its attempt is accepted
abbrev Adds : Setting → Seen → Seen → Type 0
Adds w s r = (a : Attempt) (n : Option ℕ) → Waits r a n → Waits s a n ⊎ (is_accepted w r a ≡ true)

-- nothing new waits
adds-none : (w : Setting) (s r : Seen) → ((a : Attempt) (n : Option ℕ) → Waits r a n → Waits s a n) → Adds w s r
adds-none w s r h a n i = inl (h a n i)

abbrev TellsNoSuccess : List Record → Type 0
TellsNoSuccess rs = (a : Attempt) (n : Option ℕ) → In (ReduceSucceeded a n) rs → ⊥

dues : (s r : Seen) (rs : List Record) → r.due ≡ s.due ++ rs → r.tail ≡ s.tail → TellsNoSuccess rs → (a : Attempt) (n : Option ℕ) → Waits r a n → Waits s a n
dues s r rs d t none a n (inl i) = by (In-parts (ReduceSucceeded a n) s.due rs (subst (λ l. In (ReduceSucceeded a n) l) d i))
  where
    by : In (ReduceSucceeded a n) s.due ⊎ In (ReduceSucceeded a n) rs → Waits s a n
    by (inl j) = inl j
    by (inr j) = absurd (none a n j)
dues s r rs d t none a n (inr i) = inr (subst (λ l. In (ReduceSucceeded a n) l) t i)

failed_alone : (b : Attempt) → TellsNoSuccess (AttemptFailed b ∷ [])
failed_alone b a n (inl e) = cc
failed_alone b a n (inr i) = i

failed_both : (b : Attempt) → TellsNoSuccess (AttemptFailed b ∷ JobUnsuccessful ∷ [])
failed_both b a n (inl e) = cc
failed_both b a n (inr (inl e)) = cc
failed_both b a n (inr (inr i)) = i

started_alone : (b : Attempt) (m : ℕ) → TellsNoSuccess (AttemptStarted b m ∷ [])
started_alone b m a n (inl e) = cc
started_alone b m a n (inr i) = i

-- ---- Done

or-true : (b : Bool) → (true || b) ≡ true
or-true b = refl

accepted-here : (w : Setting) (s : Seen) (a : Attempt) → task.may_accept (of_task w s a.task) a ≡ true → is_accepted w (tell s a.task (task_call.Reports a)) a ≡ true
accepted-here w s a e =
    let told = calls_change.accepted a.task w.app (s.calls a.task) (task_call.Reports a) a in
    let now : has (task.seen a.task w.app (task_call.Reports a ∷ s.calls a.task)).accepted a ≡ true =
    told ∙ (λ i. (same-itself a i && e i) || has (of_task w s a.task).accepted a) in
    subst (λ b. has (task.seen a.task w.app (if b then task_call.Reports a ∷ s.calls a.task else s.calls a.task)).accepted a ≡ true) (sym (task-itself a.task)) now

success-is : (kind : TaskKind) (b a : Attempt) (l : Launch) (m n : Option ℕ) → success_of kind b l m ≡ ReduceSucceeded a n → b ≡ a
success-is Map b a l m n e = cc
success-is Reduce b a l m n e = cc

done-adds : (w : Setting) (s : Seen) (b : Attempt) (bytes : Option ℕ) (l : Option Launch) → Adds w s (after_done w s b bytes l)
done-adds w s b bytes None = adds-none w s s (λ a n i. i)
done-adds w s b bytes (Some l) = if_cases (λ r. Adds w s r) (task.may_accept (of_task w s b.task) b) _ _ (λ e. accepts e) (λ e a n i. inl i)
  where
    accepts : task.may_accept (of_task w s b.task) b ≡ true → Adds w s (record (tell s b.task (task_call.Reports b)) { due = s.due ++ success_of b.task.kind b l bytes ∷ [] })
    accepts e a n (inr i) = inl (inr i)
    accepts e a n (inl i) = by (In-parts (ReduceSucceeded a n) s.due (success_of b.task.kind b l bytes ∷ []) i)
      where
        by : In (ReduceSucceeded a n) s.due ⊎ In (ReduceSucceeded a n) (success_of b.task.kind b l bytes ∷ [])
            → Waits s a n ⊎ (is_accepted w (record (tell s b.task (task_call.Reports b)) { due = s.due ++ success_of b.task.kind b l bytes ∷ [] }) a ≡ true)
        by (inl j) = inl (inl j)
        by (inr (inl q)) = inr (subst (λ x. is_accepted w (tell s b.task (task_call.Reports b)) x ≡ true) (success-is b.task.kind b a l bytes n q) (accepted-here w s b e))
        by (inr (inr j)) = absurd j

-- ---- other packets

failure-adds : (w : Setting) (s r : Seen) (b : Attempt) → r.due ≡ s.due → r.tail ≡ s.tail → (a : Attempt) (n : Option ℕ) → Waits (after_failure w r b) a n → Waits s a n
failure-adds w s r b d t = if_cases (λ q. (a : Attempt) (n : Option ℕ) → Waits q a n → Waits s a n) (is_spent w r b.task) _ _
    (λ e. dues s (record r { due = r.due ++ AttemptFailed b ∷ JobUnsuccessful ∷ []; work = Fails false }) (AttemptFailed b ∷ JobUnsuccessful ∷ []) (ap (λ l. l ++ AttemptFailed b ∷ JobUnsuccessful ∷ []) d) t (failed_both b))
    (λ e. dues s (record r { due = r.due ++ AttemptFailed b ∷ [] }) (AttemptFailed b ∷ []) (ap (λ l. l ++ AttemptFailed b ∷ []) d) t (failed_alone b))

end-adds : (w : Setting) (s : Seen) (b : Attempt) (call : TaskCall) (f : Bool) → Adds w s (after_end w s b call f)
end-adds w s b call f = if_cases (λ r. Adds w s r) (f && is_live w s b) _ _
    (λ e. adds-none w s (after_failure w (tell s b.task call) b) (failure-adds w s (tell s b.task call) b refl refl)) (λ e a n i. inl i)

asks-add : (w : Setting) (s : Seen) (b : Attempt) (l : Option Launch) → Adds w s (after_ask s b l)
asks-add w s b None a n i = inl i
asks-add w s b (Some l) a n i = inl i

failed-adds : (w : Setting) (s : Seen) (b : Attempt) (l : Option Launch) → Adds w s (after_failed w s b l)
failed-adds w s b None = adds-none w s s (λ a n i. i)
failed-adds w s b (Some l) = end-adds w s b (task_call.Fails b) true

ended-adds : (w : Setting) (s : Seen) (c : ContainerId) (p : Option (Attempt × Launch)) → Adds w s (after_ended w s c p)
ended-adds w s c None = adds-none w s s (λ a n i. i)
ended-adds w s c (Some p) = end-adds w s p.0 (task_call.Ends p.0 (s.killed c.number)) (not (s.killed c.number))

where-adds : (w : Setting) (s : Seen) (p : Option (Attempt × Launch)) → Adds w s (after_where s p)
where-adds w s None a n i = inl i
where-adds w s (Some p) a n i = inl i

lost-adds : (w : Setting) (s : Seen) (b : Attempt) (p : Option (Attempt × Launch)) → Adds w s (after_fetch_lost w s b p)
lost-adds w s b None = adds-none w s s (λ a n i. i)
lost-adds w s b (Some p) = if_cases (λ r. Adds w s r) (is_lost_map w s b b.task.kind) _ _ (λ e a n i. inl i) (λ e a n i. inl i)

heard-adds : (w : Setting) (s : Seen) (p : Packet) → Adds w s (heard w s p)
unfolding heard
heard-adds w s (packet.Pending b) = asks-add w s b (launch_of w s b)
heard-adds w s (packet.Poll b) = asks-add w s b (launch_of w s b)
heard-adds w s (packet.Done b bytes) = done-adds w s b bytes (launch_of w s b)
heard-adds w s (packet.Failed b) = failed-adds w s b (launch_of w s b)
heard-adds w s (packet.Ended c) = ended-adds w s c (launched_in w s c)
heard-adds w s (packet.Where c m) = where-adds w s (launched_in w s c)
heard-adds w s (packet.FetchLost c b) = lost-adds w s b (launched_in w s c)
heard-adds w s _ = adds-none w s s (λ a n i. i)

up-adds : (w : Setting) (s : Seen) (m j : ℕ) → Adds w s (after_node_up w s m j)
up-adds w s m j =
    if_cases (λ r. Adds w s r) (not (nat_lt (s.known m) j)) _ _ (λ e a n i. inl i) (λ e.
    if_cases (λ r. Adds w s r) (is_running s.work) _ _ (λ f a n i. inl i) (λ f a n i. inl i))

delivered-adds : (w : Setting) (s : Seen) (p : Packet) → Adds w s (delivered w s p)
unfolding delivered
delivered-adds w s (packet.NodeUp m j) = if_cases (λ r. Adds w s r) (is_over s.work) _ _ (λ e a n i. inl i) (λ e. up-adds w s m j)
delivered-adds w s p = if_cases (λ r. Adds w s r) (is_running s.work) _ _ (λ e. heard-adds w s p) (λ e a n i. inl i)

-- ---- answers

recorded-due : (w : Setting) (rs : List Record) (s : Seen) → (recorded w s rs).due ≡ s.due
unfolding recorded
recorded-due w [] s = refl
recorded-due w (r ∷ rs) s = recorded-due w rs (tell_recorded w s (success_in r)) ∙ by (success_in r)
  where
    by : (a : Option Attempt) → (tell_recorded w s a).due ≡ s.due
    by None = refl
    by (Some a) = if_cases (λ (q : Seen). q.due ≡ s.due) (is_task w a.task) _ _ (λ e. refl) (λ e. refl)

moved-waits : (s : Seen) (due : List Record) → s.due ≡ due → (a : Attempt) (n : Option ℕ) → Waits (moved_first s due) a n → Waits s a n
moved-waits s [] e a n i = i
moved-waits s (r ∷ due) e a n (inl i) = inl (subst (λ l. In (ReduceSucceeded a n) l) (sym e) (inr i))
moved-waits s (r ∷ due) e a n (inr i) = by (In-parts (ReduceSucceeded a n) s.tail (r ∷ []) i)
  where
    by : In (ReduceSucceeded a n) s.tail ⊎ In (ReduceSucceeded a n) (r ∷ []) → Waits s a n
    by (inl j) = inr j
    by (inr (inl q)) = inl (subst (λ l. In (ReduceSucceeded a n) l) (sym e) (inl q))
    by (inr (inr j)) = absurd j

flushed-waits : (w : Setting) (s : Seen) (a : Attempt) (n : Option ℕ) → Waits (flushed w s) a n → Waits s a n
flushed-waits w s a n (inl i) = inl (subst (λ l. In (ReduceSucceeded a n) l) (recorded-due w s.tail s) i)
flushed-waits w s a n (inr i) = absurd i

bar-waits : (s : Seen) (b : Option Attempt) (a : Attempt) (n : Option ℕ) → Waits (after_bar s b) a n → Waits s a n
bar-waits s None a n i = i
bar-waits s (Some b) a n i = i

duty-waits : (w : Setting) (s : Seen) (d : DutyName) (a : Attempt) (n : Option ℕ) → Waits (after_duty w s d) a n → Waits s a n
duty-waits w s name.Bar = bar-waits s (find (is_live w s) s.bars)
duty-waits w s name.Append = moved-waits s s.due refl
duty-waits w s name.Flush = flushed-waits w s
duty-waits w s _ = λ a n i. i

due-waits : (w : Setting) (s : Seen) (d : Option Duty) (a : Attempt) (n : Option ℕ) → Waits (after_due w s d) a n → Waits s a n
due-waits w s None = λ a n i. i
due-waits w s (Some d) = duty-waits w s d.name

earlier-waits : (s : Seen) (x : StoreAnswer) (a : Attempt) (n : Option ℕ) → Waits (with_earlier s x) a n → Waits s a n
earlier-waits s (answer.Told rs) a n i = i
earlier-waits s _ a n i = i

abbrev NoneNew : Seen → Seen → Type 0
NoneNew s r = (a : Attempt) (n : Option ℕ) → Waits r a n → Waits s a n

changed-waits : (w : Setting) (s : Seen) (x : StoreAnswer) (y : Work) → NoneNew s (changed w s x y)
unfolding changed
changed-waits w s x Reads = earlier-waits s x
changed-waits w s x (TakesOver y left others) = if_cases (λ r. NoneNew s r) (is_finished (heard_by left x).0) _ _ (λ e a n i. i) (λ e a n i. i)
changed-waits w s x Runs = if_cases (λ r. NoneNew s r) (is_fine x) _ _ (λ e. due-waits w s (duty w s)) (λ e a n i. i)
changed-waits w s x (Fails is_stable) = if_cases (λ r. NoneNew s r) (is_fine x) _ _ (λ e. due-waits w s (duty w s)) (λ e a n i. i)
changed-waits w s x _ = λ a n i. i

work-waits : (w : Setting) (s : Seen) (x : Work) → NoneNew s (with_work w s x)
work-waits w s x = by (is_running x && not (is_running s.work))
  where
    by : (b : Bool) → NoneNew s (record (if b then with_maps w s else s) { work = x })
    by true a n i = i
    by false a n i = i

answer-waits : (w : Setting) (s : Seen) (x : StoreAnswer) → NoneNew s (after_answer w s x)
answer-waits w s x =
    if_cases (λ r. NoneNew s r) (is_some (duty w s)) _ _ (λ e a n i. changed-waits w s x s.work a n (work-waits w (changed w s x s.work) (work_after w s x s.work) a n i)) (λ e a n i. i)

-- ---- all steps

launch-waits : (w : Setting) (s : Seen) (t : TaskId) (m : ℕ) → NoneNew s (after_launch w s t m)
launch-waits w s t m = if_cases (λ r. NoneNew s r) (is_none (launch_refusal w s t m)) _ _ (λ e. launched) (λ e a n i. i)
  where
    launched : NoneNew s (with_launch (tell s t task_call.Launches) (next_attempt w s t) (launched_as w s m))
    launched = dues s (with_launch (tell s t task_call.Launches) (next_attempt w s t) (launched_as w s m)) (AttemptStarted (next_attempt w s t) m ∷ []) refl refl (started_alone (next_attempt w s t) m)

step-adds : (w : Setting) (s : Seen) (step : Step) → Adds w s (next_seen w s step)
unfolding next_seen moved
step-adds w s (Hears p) = delivered-adds w s p
step-adds w s (Launches t m) = λ a n i. inl (launch-waits w s t m a n i)
step-adds w s (Expires m) = if_cases (λ r. Adds w s r) (is_none (expire_refusal w s m)) _ _ (λ e a n i. inl i) (λ e a n i. inl i)
step-adds w s (Answered x) = λ a n i. inl (answer-waits w s x a n i)

-- whatever waits is accepted
waits-accepted : (w : Setting) (past : List Step) (a : Attempt) (n : Option ℕ) → Waits (seen w past) a n → is_accepted w (seen w past) a ≡ true
unfolding seen
waits-accepted w [] a n (inl i) = absurd i
waits-accepted w [] a n (inr i) = absurd i
waits-accepted w (step ∷ past) a n i = by (step-adds w (seen w past) step a n i) (λ j. waits-accepted w past a n j)
  where
    by : Waits (seen w past) a n ⊎ (is_accepted w (next_seen w (seen w past) step) a ≡ true) → (Waits (seen w past) a n → is_accepted w (seen w past) a ≡ true)
        → is_accepted w (next_seen w (seen w past) step) a ≡ true
    by (inl j) before = (accepted-grew w (seen w past) (next_seen w (seen w past) step) (step-grows w (seen w past) step) a (before j)).0
    by (inr e) before = e

pub one_is_recorded : OneIsRecorded
one_is_recorded w past a b m n kind same i j =
    let s = seen w past in
    let x = waits-accepted w past a m (In-parts (ReduceSucceeded a m) s.due s.tail i) in
    let y = waits-accepted w past b n (In-parts (ReduceSucceeded b n) s.due s.tail j) in
    let P : TaskId → Type 0 = λ t. has (task.seen t w.app (s.calls t)).accepted b ≡ true in
    one_is_accepted a.task w.app (s.calls a.task) a b kind x (subst P (sym same) y)
