-- Attempts' tasks are told one after another, and what is so of those that are none of the job's.
use Rattle.std.proofs.Common.{ℕ, ◌+◌, ◌<◌, ◌≤◌, ◌≡◌, refl, sym, ◌∙◌, ap, subst, Bool, true, false, ◌&&◌, List, [], ◌∷◌, ◌++◌, length, take, get_or, add-one, if◌then◌else◌, true≢false}
use Rattle.std.proofs.Math.Seq.{take-suc}
use Rattle.std.proofs.lemmas.List.{take_all}
use Rattle.mr_ids.specs.Attempt.{Attempt}
use Rattle.mr_ids.specs.Same.{same_task}
use Rattle.mr_ids.specs.declared.id.TaskId.{TaskId}
use Rattle.mr_task.specs.Calls.{TaskCall}
use Rattle.mr_task.specs.Calls as task_call
use Rattle.mr_task.specs.Readings as task
use Rattle.mr_master_model.specs.declared.setting.Setting.{Setting}
use Rattle.mr_master_model.specs.Job.{is_task}
use Rattle.mr_master_model.specs.Readings.{Seen, is_live, tell}
use Rattle.mr_master_tasks.specs.Places.{place_of}
use Rattle.mr_master_tasks.specs.Tasks.{Tasks, Takes}
use Rattle.mr_master_state.specs.State.{Master, Keeps}
use Rattle.mr_master_tasks.specs.Told.{told_one, told_all}
use Rattle.mr_master_tasks.proofs.Telling.{one-told, none-told, told-more}
use Rattle.mr_master_state.specs.Told.{with_deaths}
use Rattle.mr_master_state.proofs.Keeping.{tell-keeps}

abbrev with_calls : Seen → (TaskId → List TaskCall) → Seen
with_calls s calls = record s { calls = calls }

-- one of the job's, at its place
pub one-keeps : {m : Master} (w : Setting) (s : Seen) (call : Attempt → TaskCall) (a : Attempt) (i : ℕ) (new : Tasks) → Keeps m w s → (is_task w a.task ≡ true) × (i ≡ place_of w a.task)
    → Takes m.tasks i (call a) new → Keeps (record m { tasks = new }) w (with_calls s (told_all w call (a ∷ []) s.calls))
one-keeps {m} w s call a i new k p takes =
    subst (λ (calls : TaskId → List TaskCall). Keeps (record m { tasks = new }) w (with_calls s calls)) (one-told w call a s.calls p.0) (tell-keeps m w s a.task i (call a) new k p.0 p.1 takes)

-- another one
pub other-keeps : {m : Master} (w : Setting) (s : Seen) (call : Attempt → TaskCall) (a : Attempt) → is_task w a.task ≡ false → Keeps m w s → Keeps m w (with_calls s (told_all w call (a ∷ []) s.calls))
other-keeps {m} w s call a e k = subst (λ (calls : TaskId → List TaskCall). Keeps m w (with_calls s calls)) (none-told w call a s.calls e) k

-- ---- one more, and all

pub next-keeps : {m : Master} (w : Setting) (s : Seen) (call : Attempt → TaskCall) (xs : List Attempt) (i : ℕ) (x : Attempt) → i < length xs → x ≡ get_or xs i x
    → Keeps m w (with_calls s (told_all w call (x ∷ []) (told_all w call (take i xs) s.calls))) → Keeps m w (with_calls s (told_all w call (take (i + 1) xs) s.calls))
next-keeps {m} w s call xs i x within is k =
    let more : take (i + 1) xs ≡ take i xs ++ x ∷ [] = ap (λ (n : ℕ). take n xs) (add-one i) ∙ take-suc xs i x within ∙ ap (λ (y : Attempt). take i xs ++ y ∷ []) (sym is) in
    let both : told_all w call (take (i + 1) xs) s.calls ≡ told_one w call x (told_all w call (take i xs) s.calls) =
    ap (λ (l : List Attempt). told_all w call l s.calls) more ∙ told-more w call (take i xs) x s.calls in
    subst (λ (calls : TaskId → List TaskCall). Keeps m w (with_calls s calls)) (sym both) k

pub all-keep : {m : Master} (w : Setting) (s : Seen) (call : Attempt → TaskCall) (xs : List Attempt) (i : ℕ) → length xs ≤ i
    → Keeps m w (with_calls s (told_all w call (take i xs) s.calls)) → Keeps m w (with_calls s (told_all w call xs s.calls))
all-keep {m} w s call xs i all k = subst (λ (l : List Attempt). Keeps m w (with_calls s (told_all w call l s.calls))) (take_all i xs all) k

-- ---- outside the job none is live

pub dead-outside : (t : TaskId) (k : ℕ) (calls : List TaskCall) (a : Attempt) → calls ≡ [] → false ≡ task.is_live (task.seen t k calls) a
unfolding task.seen
dead-outside t k calls a e = ap (λ (l : List TaskCall). task.is_live (task.seen t k l) a) (sym e)

-- a live attempt is of the job
pub live-of-job : (m : Master) (w : Setting) (s : Seen) (a : Attempt) → Keeps m w s → is_live w s a ≡ true → is_task w a.task ≡ true
live-of-job m w s a k e = by (is_task w a.task) refl
  where
    by : (b : Bool) → is_task w a.task ≡ b → b ≡ true
    by true q = refl
    by false q = absurd (true≢false (sym e ∙ sym (dead-outside a.task w.app (s.calls a.task) a (k.tasks.outside a.task q))))

-- the end of a barred attempt
pub death-is : (w : Setting) (s : Seen) (a : Attempt) → is_task w a.task ≡ true → with_deaths w s (a ∷ []) ≡ tell s a.task (task_call.Dies a)
death-is w s a e = λ j. record s { calls = λ u. if (e j && same_task u a.task) then task_call.Dies a ∷ s.calls u else s.calls u }
