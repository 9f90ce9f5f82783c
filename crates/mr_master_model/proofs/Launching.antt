-- Whoever was launched is known: launches only grow, by the attempt that a task's launch enters, and who arrived at a task stays.
use Rattle.std.proofs.Common.{ℕ, ◌≡◌, refl, sym, ◌∙◌, ap, subst, Bool, true, false, not, ◌&&◌, ◌||◌, cond, List, [], ◌∷◌, ◌++◌, Option, Some, None, is_some, is_none, nat_lt, if◌then◌else◌, ◌⊎◌, inl, inr, true≢false}
use Rattle.std.specs.List.{find}
use Rattle.std.specs.Map.{lookup}
use Rattle.std.proofs.lemmas.Bool.{and_parts}
use Rattle.mr_ids.specs.Attempt.{Attempt}
use Rattle.mr_ids.specs.Same.{same_task}
use Rattle.mr_ids.specs.declared.id.TaskId.{TaskId}
use Rattle.mr_ids.proofs.Same.{task-itself}
use Rattle.mr_grant.specs.Attempts.{same_attempt, has, first_of}
use Rattle.mr_grant.proofs.Same.{same-is, same-itself}
use Rattle.mr_task.specs.Calls.{TaskCall}
use Rattle.mr_task.specs.Calls as task_call
use Rattle.mr_task.specs.Readings as task
use Rattle.mr_task.specs.declared.fault.TaskFault.{TaskFault}
use Rattle.mr_task.proofs.Arrivals.{nothing-arrived, left}
use Rattle.mr_task.proofs.Lists.{has-append}
use Rattle.mr_task.proofs.TaskLaws.{numbers_are_fresh}
use Rattle.mr_packet.specs.declared.packet.ContainerId.{ContainerId}
use Rattle.mr_packet.specs.declared.packet.Packet.{Packet}
use Rattle.mr_packet.specs.declared.packet.Packet.TheVariants as packet
use Rattle.mr_history.specs.declared.record.Record.{Record}
use Rattle.mr_master_model.specs.declared.launch.Launch.{Launch}
use Rattle.mr_master_model.specs.declared.phase.DutyName.{DutyName}
use Rattle.mr_master_model.specs.declared.phase.DutyName.TheVariants as name
use Rattle.mr_master_model.specs.declared.phase.LaunchFault.{LaunchFault}
use Rattle.mr_master_model.specs.declared.phase.LaunchFault.TheVariants.{NotRunning, NoTask, NoNode}
use Rattle.mr_master_model.specs.declared.setting.Setting.{Setting}
use Rattle.mr_master_model.specs.declared.store.StoreAnswer.{StoreAnswer}
use Rattle.mr_master_model.specs.declared.store.StoreAnswer.TheVariants as answer
use Rattle.mr_master_model.specs.Job.{is_task}
use Rattle.mr_master_model.specs.Past.{Step, Hears, Launches, Expires, Answered, Work, Reads, TakesOver, Runs, Fails}
use Rattle.mr_master_model.specs.Readings.{Seen, is_running, is_over, of_task, is_known, is_live, launch_of, launched_in, tell, tell_each, launch_refusal, by_task, expire_refusal, next_attempt, launched_as}
use Rattle.mr_master_model.specs.Hearing.{after_ask, after_done, is_spent, after_failure, after_end, after_failed, after_ended, dead_below, lost_below, after_node_up, after_where, is_lost_map, after_fetch_lost, heard, delivered, with_launch, after_launch, after_expiry}
use Rattle.mr_master_model.specs.Duty.{Duty, duty}
use Rattle.mr_master_model.specs.Answered.{is_fine, is_finished, heard_by, with_earlier, with_maps, taken_of, after_bar, moved_first, success_in, tell_recorded, recorded, after_duty, after_due, changed, work_after, with_work, after_answer}
use Rattle.mr_master_model.specs.Next.{moved, next_seen, seen}
use Rattle.mr_master_model.specs.Laws.{In, LaunchedAreKnown, LaunchesAreFresh}
use Rattle.mr_master_model.proofs.Growing.{if_cases, Grew, step-grows}
use Rattle.mr_master_model.proofs.Recording.{In-parts}

-- ---- who arrived at a task stays

chosen : (c : Bool) (s r : task.Seen) (a : Attempt) → r.arrived ≡ s.arrived → has s.arrived a ≡ true → has (cond c r s).arrived a ≡ true
chosen true s r a e there = ap (λ xs. has xs a) e ∙ there
chosen false s r a e there = there

or-first : (b c : Bool) → b ≡ true → (b || c) ≡ true
or-first true c e = refl
or-first false c e = absurd (true≢false (sym e))

or-second : (b c : Bool) → c ≡ true → (b || c) ≡ true
or-second true c e = refl
or-second false c e = e

arrived-step : (t : TaskId) (k : ℕ) (s : task.Seen) (call : TaskCall) (a : Attempt) → has s.arrived a ≡ true → has (task.next_seen t k s call).arrived a ≡ true
unfolding task.next_seen
arrived-step t k s task_call.Launches a there = by (is_none (task.launch_refusal s))
  where
    by : (c : Bool) → has (cond c (task.after_launch t k s) s).arrived a ≡ true
    by true = has-append s.arrived (task.next_attempt t k s) a ∙ or-first _ _ there
    by false = there
arrived-step t k s (task_call.Hears b) a there = there
arrived-step t k s (task_call.Asks b) a there = chosen (has s.arrived b && not (has s.asked b)) s (record s { asked = s.asked ++ b ∷ [] }) a refl there
arrived-step t k s (task_call.Reports b) a there = chosen (task.may_accept s b) s (record s { accepted = b ∷ s.accepted; is_fixed = task.is_reduce b.task.kind || s.is_fixed }) a refl there
arrived-step t k s (task_call.Fails b) a there = chosen (task.is_live s b) s (record s { ended = record { attempt = b; is_failure = true } ∷ s.ended }) a refl there
arrived-step t k s (task_call.Ends b was_asked) a there = chosen (task.is_live s b) s (record s { ended = record { attempt = b; is_failure = not was_asked } ∷ s.ended }) a refl there
arrived-step t k s (task_call.Dies b) a there = chosen (task.is_live s b) s (record s { ended = record { attempt = b; is_failure = false } ∷ s.ended }) a refl there
arrived-step t k s (task_call.Records b) a there = chosen (has s.accepted b) s (record s { recorded = b ∷ s.recorded }) a refl there
arrived-step t k s (task_call.Recovers b) a there = by (task.may_recover t s b) refl
  where
    by : (c : Bool) → task.may_recover t s b ≡ c → has (cond c (record s { arrived = b ∷ []; accepted = b ∷ []; recorded = b ∷ []; numbered = task.numbered_up_to k b }) s).arrived a ≡ true
    by true e = absurd (true≢false (sym there ∙ ap (λ xs. has xs a) (nothing-arrived s.arrived (left (is_none (first_of s.arrived)) (same_task b.task t) e))))
    by false e = there
arrived-step t k s (task_call.Loses b) a there = chosen (not (task.is_reduce b.task.kind) && has s.recorded b) s (record s { lost = b ∷ s.lost }) a refl there

pub arrived-stays : (t : TaskId) (k : ℕ) (more calls : List TaskCall) (a : Attempt) → has (task.seen t k calls).arrived a ≡ true → has (task.seen t k (more ++ calls)).arrived a ≡ true
unfolding task.seen
arrived-stays t k [] calls a there = there
arrived-stays t k (call ∷ more) calls a there = arrived-step t k (task.seen t k (more ++ calls)) call a (arrived-stays t k more calls a there)

known-grew : (w : Setting) (s r : Seen) → Grew s r → (a : Attempt) → is_known w s a ≡ true → is_known w r a ≡ true
known-grew w s r g a e =
    let p = and_parts _ _ e in
    let x = g a.task in
    let there : has (of_task w r a.task).arrived a ≡ true =
    ap (λ (l : List TaskCall). has (task.seen a.task w.app l).arrived a) x.1 ∙ arrived-stays a.task w.app x.0 (s.calls a.task) a p.1 in
    (λ i. p.0 i && there i)

-- ---- all steps but a launch leave the launches, and what is sent aside all leave which containers were sent a Kill

abbrev pub Stays : Seen → Seen → Type 0
Stays s r = (r.launched ≡ s.launched) × (r.killed ≡ s.killed)

stays-same : (s : Seen) → Stays s s
stays-same s = (refl, refl)

stays-then : (s r q : Seen) → Stays s r → Stays r q → Stays s q
stays-then s r q e f = (f.0 ∙ e.0, f.1 ∙ e.1)

stays-tell : (s : Seen) (t : TaskId) (call : TaskCall) → Stays s (tell s t call)
stays-tell s t call = (refl, refl)

stays-each : (w : Setting) (s : Seen) (call : Attempt → TaskCall) (which : TaskId → List Attempt) → Stays s (tell_each w s call which)
stays-each w s call which = (refl, refl)

stays-twice : (w : Setting) (s : Seen) (call call' : Attempt → TaskCall) (which which' : TaskId → List Attempt) → Stays s (tell_each w (tell_each w s call which) call' which')
stays-twice w s call call' which which' = (refl, refl)

-- ---- packets

asks-stays : (s : Seen) (a : Attempt) (l : Option Launch) → Stays s (after_ask s a l)
asks-stays s a None = stays-same s
asks-stays s a (Some l) = stays-tell s a.task (task_call.Asks a)

done-stays : (w : Setting) (s : Seen) (a : Attempt) (bytes : Option ℕ) (l : Option Launch) → Stays s (after_done w s a bytes l)
done-stays w s a bytes None = stays-same s
done-stays w s a bytes (Some l) =
    if_cases (λ r. Stays s r) (task.may_accept (of_task w s a.task) a) _ _ (λ e. stays-tell s a.task (task_call.Reports a)) (λ e. stays-tell s a.task (task_call.Reports a))

failure-stays : (w : Setting) (s r : Seen) (a : Attempt) → Stays s r → Stays s (after_failure w r a)
failure-stays w s r a g = if_cases (λ q. Stays s q) (is_spent w r a.task) _ _ (λ e. g) (λ e. g)

end-stays : (w : Setting) (s : Seen) (a : Attempt) (call : TaskCall) (f : Bool) → Stays s (after_end w s a call f)
end-stays w s a call f =
    if_cases (λ r. Stays s r) (f && is_live w s a) _ _ (λ e. failure-stays w s (tell s a.task call) a (stays-tell s a.task call)) (λ e. stays-tell s a.task call)

failed-stays : (w : Setting) (s : Seen) (a : Attempt) (l : Option Launch) → Stays s (after_failed w s a l)
failed-stays w s a None = stays-same s
failed-stays w s a (Some l) = end-stays w s a (task_call.Fails a) true

ended-stays : (w : Setting) (s : Seen) (c : ContainerId) (p : Option (Attempt × Launch)) → Stays s (after_ended w s c p)
ended-stays w s c None = stays-same s
ended-stays w s c (Some p) = end-stays w s p.0 (task_call.Ends p.0 (s.killed c.number)) (not (s.killed c.number))

where-stays : (s : Seen) (p : Option (Attempt × Launch)) → Stays s (after_where s p)
where-stays s None = stays-same s
where-stays s (Some p) = stays-tell s p.0.task (task_call.Hears p.0)

lost-stays : (w : Setting) (s : Seen) (a : Attempt) (p : Option (Attempt × Launch)) → Stays s (after_fetch_lost w s a p)
lost-stays w s a None = stays-same s
lost-stays w s a (Some p) = if_cases (λ r. Stays s r) (is_lost_map w s a a.task.kind) _ _ (λ e. stays-tell s a.task (task_call.Loses a)) (λ e. stays-same s)

pub heard-stays : (w : Setting) (s : Seen) (p : Packet) → Stays s (heard w s p)
unfolding heard
heard-stays w s (packet.Pending a) = asks-stays s a (launch_of w s a)
heard-stays w s (packet.Poll a) = asks-stays s a (launch_of w s a)
heard-stays w s (packet.Done a bytes) = done-stays w s a bytes (launch_of w s a)
heard-stays w s (packet.Failed a) = failed-stays w s a (launch_of w s a)
heard-stays w s (packet.Ended c) = ended-stays w s c (launched_in w s c)
heard-stays w s (packet.Where c m) = where-stays s (launched_in w s c)
heard-stays w s (packet.FetchLost c a) = lost-stays w s a (launched_in w s c)
heard-stays w s _ = stays-same s

up-stays : (w : Setting) (s : Seen) (n i : ℕ) → Stays s (after_node_up w s n i)
up-stays w s n i =
    if_cases (λ r. Stays s r) (not (nat_lt (s.known n) i)) _ _ (λ e. stays-same s) (λ e.
    if_cases (λ r. Stays s r) (is_running s.work) _ _ (λ f. stays-twice w s (λ a. task_call.Dies a) (λ a. task_call.Loses a) (dead_below w s n i) (lost_below w s n i)) (λ f. stays-same s))

if-running : (w : Setting) (s : Seen) (p : Packet) → Stays s (if is_running s.work then heard w s p else s)
if-running w s p = if_cases (λ r. Stays s r) (is_running s.work) _ _ (λ e. heard-stays w s p) (λ e. stays-same s)

pub delivered-stays : (w : Setting) (s : Seen) (p : Packet) → Stays s (delivered w s p)
unfolding delivered
delivered-stays w s (packet.NodeUp n i) = if_cases (λ r. Stays s r) (is_over s.work) _ _ (λ e. stays-same s) (λ e. up-stays w s n i)
delivered-stays w s p = if-running w s p

-- ---- answers

recorded-leaves : (w : Setting) (s : Seen) (a : Option Attempt) → Stays s (tell_recorded w s a)
recorded-leaves w s None = stays-same s
recorded-leaves w s (Some a) = if_cases (λ r. Stays s r) (is_task w a.task) _ _ (λ e. stays-tell s a.task (task_call.Records a)) (λ e. stays-same s)

recorded-stays : (w : Setting) (rs : List Record) (s : Seen) → Stays s (recorded w s rs)
unfolding recorded
recorded-stays w [] s = stays-same s
recorded-stays w (r ∷ rs) s = let q = tell_recorded w s (success_in r) in stays-then s q (recorded w q rs) (recorded-leaves w s (success_in r)) (recorded-stays w rs q)

bar-stays : (s : Seen) (a : Option Attempt) → Stays s (after_bar s a)
bar-stays s None = stays-same s
bar-stays s (Some a) = stays-tell s a.task (task_call.Dies a)

moved-stays : (s : Seen) (due : List Record) → Stays s (moved_first s due)
moved-stays s [] = stays-same s
moved-stays s (r ∷ due) = stays-same s

duty-stays : (w : Setting) (s : Seen) (n : DutyName) → Stays s (after_duty w s n)
duty-stays w s name.Bar = bar-stays s (find (is_live w s) s.bars)
duty-stays w s name.Append = moved-stays s s.due
duty-stays w s name.Flush = recorded-stays w s.tail s
duty-stays w s _ = stays-same s

due-stays : (w : Setting) (s : Seen) (d : Option Duty) → Stays s (after_due w s d)
due-stays w s None = stays-same s
due-stays w s (Some d) = duty-stays w s d.name

earlier-stays : (s : Seen) (a : StoreAnswer) → Stays s (with_earlier s a)
earlier-stays s (answer.Told rs) = stays-same s
earlier-stays s _ = stays-same s

changed-stays : (w : Setting) (s : Seen) (a : StoreAnswer) (x : Work) → Stays s (changed w s a x)
unfolding changed
changed-stays w s a Reads = earlier-stays s a
changed-stays w s a (TakesOver x left others) =
    if_cases (λ r. Stays s r) (is_finished (heard_by left a).0) _ _ (λ e. stays-tell s x.task (task_call.Recovers x.attempt)) (λ e. stays-same s)
changed-stays w s a Runs = if_cases (λ r. Stays s r) (is_fine a) _ _ (λ e. due-stays w s (duty w s)) (λ e. stays-same s)
changed-stays w s a (Fails is_stable) = if_cases (λ r. Stays s r) (is_fine a) _ _ (λ e. due-stays w s (duty w s)) (λ e. stays-same s)
changed-stays w s a _ = stays-same s

work-stays : (w : Setting) (s : Seen) (x : Work) → Stays s (with_work w s x)
work-stays w s x = by (is_running x && not (is_running s.work))
  where
    by : (b : Bool) → Stays s (record (if b then with_maps w s else s) { work = x })
    by true = stays-each w s (λ a. task_call.Recovers a) (taken_of s)
    by false = stays-same s

pub answer-stays : (w : Setting) (s : Seen) (a : StoreAnswer) → Stays s (after_answer w s a)
answer-stays w s a =
    let r = changed w s a s.work in
    if_cases (λ q. Stays s q) (is_some (duty w s)) _ _ (λ e. stays-then s r (with_work w r (work_after w s a s.work)) (changed-stays w s a s.work) (work-stays w r (work_after w s a s.work))) (λ e. stays-same s)

-- ---- all steps

-- ---- a launch: its attempt is known, and was not before

pub record MayLaunch (w : Setting) (s : Seen) (t : TaskId) (n : ℕ) : Type 0 where
  pub running : is_running s.work ≡ true
  pub is_of_job : is_task w t ≡ true
  pub node : nat_lt n w.nodes ≡ true
  pub task : is_none (task.launch_refusal (of_task w s t)) ≡ true

none-of : (o : Option TaskFault) → is_none (by_task o) ≡ true → is_none o ≡ true
none-of None e = refl
none-of (Some f) e = absurd (true≢false (sym e))

may : (a b c : Bool) (o : Option TaskFault)
    → is_none {T = LaunchFault} (if not a then Some NotRunning else if not b then Some NoTask else if not c then Some NoNode else by_task o) ≡ true
    → (a ≡ true) × (b ≡ true) × (c ≡ true) × (is_none o ≡ true)
may true true true o e = (refl, refl, refl, none-of o e)
may true true false o e = absurd (true≢false (sym e))
may true false c o e = absurd (true≢false (sym e))
may false b c o e = absurd (true≢false (sym e))

pub may-launch : (w : Setting) (s : Seen) (t : TaskId) (n : ℕ) → is_none (launch_refusal w s t n) ≡ true → MayLaunch w s t n
may-launch w s t n e =
    let p = may (is_running s.work) (is_task w t) (nat_lt n w.nodes) (task.launch_refusal (of_task w s t)) e in
    record { running = p.0; is_of_job = p.1; node = p.2; task = p.3 }

enters : (t : TaskId) (k : ℕ) (calls : List TaskCall) → is_none (task.launch_refusal (task.seen t k calls)) ≡ true
    → has (task.seen t k (task_call.Launches ∷ calls)).arrived (task.next_attempt t k (task.seen t k calls)) ≡ true
unfolding task.seen task.next_seen
enters t k calls e = by (is_none (task.launch_refusal s)) e
  where
    s : task.Seen
    s = task.seen t k calls

    by : (c : Bool) → c ≡ true → has (cond c (task.after_launch t k s) s).arrived (task.next_attempt t k s) ≡ true
    by true q = has-append s.arrived (task.next_attempt t k s) (task.next_attempt t k s) ∙ or-second _ _ (same-itself (task.next_attempt t k s))
    by false q = absurd (true≢false (sym q))

abbrev Known : Setting → Seen → Type 0
Known w s = (p : Attempt × Launch) → In p s.launched → is_known w s p.0 ≡ true

launch-known : (w : Setting) (s : Seen) (t : TaskId) (n : ℕ) → MayLaunch w s t n → is_known w (tell s t task_call.Launches) (next_attempt w s t) ≡ true
launch-known w s t n m =
    let there : has (of_task w (tell s t task_call.Launches) t).arrived (next_attempt w s t) ≡ true =
    ap (λ b. has (task.seen t w.app (if b then task_call.Launches ∷ s.calls t else s.calls t)).arrived (next_attempt w s t)) (task-itself t) ∙ enters t w.app (s.calls t) m.task in
    (λ i. m.is_of_job i && there i)

known-stays : (w : Setting) (s r : Seen) → Grew s r → Stays s r → Known w s → Known w r
known-stays w s r g e k p i = known-grew w s r g p.0 (k p (subst (λ l. In p l) e.0 i))

known-launch : (w : Setting) (s : Seen) (t : TaskId) (n : ℕ) → Grew s (after_launch w s t n) → Known w s → Known w (after_launch w s t n)
known-launch w s t n g k = by (is_none (launch_refusal w s t n)) refl g
  where
    a : Attempt
    a = next_attempt w s t

    l : Launch
    l = launched_as w s n

    r : Seen
    r = with_launch (tell s t task_call.Launches) a l

    by : (b : Bool) → is_none (launch_refusal w s t n) ≡ b → Grew s (if b then r else s) → Known w (if b then r else s)
    by false e g = k
    by true e g = λ p i. one p (In-parts p s.launched ((a, l) ∷ []) i)
      where
        one : (p : Attempt × Launch) → In p s.launched ⊎ In p ((a, l) ∷ []) → is_known w r p.0 ≡ true
        one p (inl j) = known-grew w s r g p.0 (k p j)
        one p (inr (inl q)) = subst (λ (x : Attempt × Launch). is_known w r x.0 ≡ true) q (launch-known w s t n (may-launch w s t n e))
        one p (inr (inr j)) = absurd j

known-step : (w : Setting) (s : Seen) (step : Step) → Grew s (next_seen w s step) → Known w s → Known w (next_seen w s step)
unfolding next_seen moved
known-step w s (Hears p) g k = known-stays w s (delivered w s p) g (delivered-stays w s p) k
known-step w s (Launches t n) g k = known-launch w s t n g k
known-step w s (Expires n) g k =
    known-stays w s (after_expiry w s n) g (if_cases (λ r. Stays s r) (is_none (expire_refusal w s n)) _ _ (λ e. (refl, refl)) (λ e. (refl, refl))) k
known-step w s (Answered a) g k = known-stays w s (after_answer w s a) g (answer-stays w s a) k

pub launched_are_known : LaunchedAreKnown
unfolding seen
launched_are_known w [] p i = absurd i
launched_are_known w (step ∷ past) p i = known-step w (seen w past) step (step-grows w (seen w past) step) (launched_are_known w past) p i

-- an attempt that is not known was not launched
not-among : (test : Attempt → Bool) (ls : List (Attempt × Launch)) → ((p : Attempt × Launch) → In p ls → test p.0 ≡ false) → lookup test ls ≡ None
not-among test [] none = refl
not-among test (p ∷ ls) none = by (test p.0) (none p (inl refl)) (not-among test ls (λ q i. none q (inr i)))
  where
    by : (b : Bool) → b ≡ false → lookup test ls ≡ None → cond b (Some p.1) (lookup test ls) ≡ None
    by true e rest = absurd (true≢false e)
    by false e rest = rest

pub unknown-is-new : (w : Setting) (s : Seen) (a : Attempt) → Known w s → is_known w s a ≡ false → lookup (same_attempt a) s.launched ≡ None
unknown-is-new w s a k e = not-among (same_attempt a) s.launched (λ p i. other p (k p i) (same_attempt a p.0) refl)
  where
    other : (p : Attempt × Launch) → is_known w s p.0 ≡ true → (b : Bool) → same_attempt a p.0 ≡ b → b ≡ false
    other p there false q = refl
    other p there true q = absurd (true≢false (sym there ∙ ap (λ x. is_known w s x) (sym (same-is a p.0 q)) ∙ e))

none-is : {A : Type 0} (o : Option A) → o ≡ None → is_none o ≡ true
none-is o e = ap (λ x. is_none x) e

is-none : {A : Type 0} (o : Option A) → is_none o ≡ true → o ≡ None
is-none None e = refl
is-none (Some x) e = absurd (true≢false (sym e))

and-false : (b c : Bool) → c ≡ false → (b && c) ≡ false
and-false true c e = e
and-false false c e = refl

pub launches_are_fresh : LaunchesAreFresh
launches_are_fresh w past t n e =
    let s = seen w past in
    let m = may-launch w s t n (none-is _ e) in
    unknown-is-new w s (next_attempt w s t) (launched_are_known w past)
    (and-false (is_task w t) _ (numbers_are_fresh.fresh t w.app (s.calls t) (is-none _ m.task)))
