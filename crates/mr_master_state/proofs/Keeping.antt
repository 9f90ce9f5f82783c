-- What a master keeps, after a call of one of its tasks.
use Rattle.std.proofs.Common.{ℕ, ◌≡◌, refl, sym, ◌∙◌, ap, subst, Bool, true, false, ◌&&◌, List, Option, Some, None, if◌then◌else◌}
use Rattle.std.specs.Option.{option_map}
use Rattle.std.specs.Map.{lookup}
use Rattle.std.proofs.lemmas.Bool.{and_parts}
use Rattle.mr_ids.specs.Attempt.{Attempt}
use Rattle.mr_ids.specs.declared.id.TaskId.{TaskId}
use Rattle.mr_grant.specs.Attempts.{same_attempt, has}
use Rattle.mr_task.specs.Calls.{TaskCall}
use Rattle.mr_task.specs.Readings as reading
use Rattle.mr_master_model.specs.declared.launch.Launch.{Launch}
use Rattle.mr_master_model.specs.declared.setting.Setting.{Setting}
use Rattle.mr_master_model.specs.Job.{is_task}
use Rattle.mr_master_model.specs.Readings.{Seen, of_task, is_known, launch_of, tell}
use Rattle.mr_master_tasks.specs.Places.{place_of}
use Rattle.mr_master_tasks.specs.Tasks.{Tasks, AnswersAt, Takes, told}
use Rattle.mr_master_state.specs.State.{Master, Keeps}
use Rattle.mr_master_tasks.proofs.Keeping.{some-is, read-at}
use Rattle.mr_master_state.proofs.Parts.{with-tasks}

-- ---- what a known attempt was launched as

pub none-mapped : {A B : Type 0} (f : A → B) (o : Option A) → None ≡ option_map f o → o ≡ None
none-mapped f None e = refl
none-mapped f (Some x) e = cc

pub record IsKnown (w : Setting) (s : Seen) (a : Attempt) (i : ℕ) (l : Launch) : Type 0 where
  pub launch : launch_of w s a ≡ Some l
  pub place : i ≡ place_of w a.task
  pub is_of_job : is_task w a.task ≡ true
  pub arrived : has (of_task w s a.task).arrived a ≡ true

if-some : {A : Type 0} (b : Bool) (o : Option A) (x : A) → (if b then o else None) ≡ Some x → b ≡ true
if-some true o x e = refl
if-some false o x e = cc

pub known-is : (w : Setting) (s : Seen) (a : Attempt) (i : ℕ) (l : Launch) → ◌≡◌ {A = Option (ℕ × Launch)} (Some (i, l)) (option_map (λ (x : Launch). (place_of w a.task, x)) (launch_of w s a)) → IsKnown w s a i l
known-is w s a i l e = by (launch_of w s a) refl e
  where
    by : (o : Option Launch) → launch_of w s a ≡ o → ◌≡◌ {A = Option (ℕ × Launch)} (Some (i, l)) (option_map (λ (x : Launch). (place_of w a.task, x)) o) → IsKnown w s a i l
    by None q f = cc
    by (Some x) q f =
        let g : ◌≡◌ {A = ℕ × Launch} (i, l) (place_of w a.task, x) = some-is f in
        let both = and_parts _ _ (if-some (is_known w s a) (lookup (same_attempt a) s.launched) x q) in
        record {
          launch = q ∙ sym (ap (λ (p : ℕ × Launch). Some p.1) g);
          place = ap (λ (p : ℕ × Launch). p.0) g;
          is_of_job = both.0;
          arrived = both.1;
        }

-- ---- that an attempt is known

pub known-answer : (m : Master) (w : Setting) (s : Seen) (a : Attempt) (i : ℕ) (b : Bool) → Keeps m w s → is_task w a.task ≡ true → i ≡ place_of w a.task
    → AnswersAt m.tasks.machines i (λ t k calls. has (reading.seen t k calls).arrived a) b → is_known w s a ≡ b
known-answer m w s a i b k e at answers =
    ap (λ c. c && has (of_task w s a.task).arrived a) e ∙ sym (read-at m.tasks w s.calls a.task i (λ t k calls. has (reading.seen t k calls).arrived a) b k.tasks e at answers)

pub launched-none : (w : Setting) (s : Seen) (a : Attempt) → is_known w s a ≡ false → ◌≡◌ {A = Option (ℕ × Launch)} None (option_map (λ (x : Launch). (place_of w a.task, x)) (launch_of w s a))
launched-none w s a e = ap (λ b. option_map (λ (x : Launch). (place_of w a.task, x)) (if b then lookup (same_attempt a) s.launched else None)) (sym e)

pub launched-some : (m : Master) (w : Setting) (s : Seen) (a : Attempt) (i : ℕ) (l : Launch) → Keeps m w s → is_known w s a ≡ true → i ≡ place_of w a.task → Some l ≡ lookup (same_attempt a) m.launches.entries
    → ◌≡◌ {A = Option (ℕ × Launch)} (Some (i, l)) (option_map (λ (x : Launch). (place_of w a.task, x)) (launch_of w s a))
launched-some m w s a i l k e at found =
    (λ j. Some (at j, l)) ∙ ap (λ (o : Option Launch). option_map (λ (x : Launch). (place_of w a.task, x)) o) (found ∙ ap (λ (ls : List (Attempt × Launch)). lookup (same_attempt a) ls) k.launches.entries)
    ∙ ap (λ b. option_map (λ (x : Launch). (place_of w a.task, x)) (if b then lookup (same_attempt a) s.launched else None)) (sym e)

-- ---- one task is told something

pub tell-keeps : (m : Master) (w : Setting) (s : Seen) (t : TaskId) (i : ℕ) (call : TaskCall) (new : Tasks) → Keeps m w s → is_task w t ≡ true → i ≡ place_of w t
    → Takes m.tasks i call new → Keeps (record m { tasks = new }) w (tell s t call)
tell-keeps m w s t i call new k there at takes = with-tasks new (told t call s.calls) (takes w s.calls t there at k.tasks) k

-- the same of equal readings, and of an equal machine
pub by-seen : {m : Master} (w : Setting) {r t : Seen} → r ≡ t → Keeps m w t → Keeps m w r
by-seen {m} w e k = subst (λ x. Keeps m w x) (sym e) k

pub held : {m n : Master} {w : Setting} {s : Seen} → m ≡ n → Keeps n w s → Keeps m w s
held {m} {n} {w} {s} e k = subst (λ x. Keeps x w s) (sym e) k
