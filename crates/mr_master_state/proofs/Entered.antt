-- A launch: what the machine keeps after it.
use Rattle.std.proofs.Common.{ℕ, ◌+◌, ◌<◌, ◌≡◌, refl, sym, ◌∙◌, ap, Bool, true, false, List, [], ◌∷◌, ◌++◌, Some, None, slice_get, length, length-append, if◌then◌else◌, arith, nat_eq}
use Rattle.std.proofs.lemmas.Bool.{eqb-true, eqb-false}
use Rattle.mr_ids.specs.Attempt.{Attempt}
use Rattle.mr_ids.specs.declared.id.TaskId.{TaskId}
use Rattle.mr_task.specs.Calls as task_call
use Rattle.mr_history.specs.declared.record.Record.{Record}
use Rattle.mr_history.specs.declared.record.Record.TheVariants.{AttemptStarted}
use Rattle.mr_master_model.specs.declared.launch.Launch.{Launch}
use Rattle.mr_master_model.specs.declared.setting.Setting.{Setting}
use Rattle.mr_master_model.specs.Job.{is_task}
use Rattle.mr_master_model.specs.Readings.{Seen, tell}
use Rattle.mr_master_model.specs.Hearing.{with_launch}
use Rattle.mr_master_model.specs.Past.{Launches}
use Rattle.mr_master_tasks.specs.Places.{place_of}
use Rattle.mr_master_tasks.specs.Tasks.{Tasks, Takes}
use Rattle.mr_master_tables.specs.Launches.{Launched, KeepsLaunches}
use Rattle.mr_master_tables.specs.Records.{Writing}
use Rattle.mr_master_state.specs.State.{Master, Keeps}
use Rattle.mr_master_tasks.proofs.Opening.{front, seam}

entered : (m new : Launched) (launched : List (Attempt × Launch)) (killed : ℕ → Bool) (a : Attempt) (l : Launch) → KeepsLaunches m launched killed
    → new.entries ≡ m.entries ++ (a, l) ∷ [] → new.killed ≡ m.killed ++ false ∷ [] → killed (length launched) ≡ false → KeepsLaunches new (launched ++ (a, l) ∷ []) killed
entered m new launched killed a l k e f spared = record {
  entries = e ∙ ap (λ (xs : List (Attempt × Launch)). xs ++ (a, l) ∷ []) k.entries;
  count = ap (λ (bs : List Bool). length bs) f ∙ length-append m.killed (false ∷ []) ∙ ap (λ (x : ℕ). x + 1) k.count ∙ sym (length-append launched ((a, l) ∷ []));
  killed = λ i within. by i within (nat_eq i (length launched)) refl;
}
  where
    by : (i : ℕ) → i < length (launched ++ (a, l) ∷ []) → (b : Bool) → nat_eq i (length launched) ≡ b → slice_get new.killed i ≡ Some (killed i)
    by i within true q =
        let at : i ≡ length launched = eqb-true _ _ q in
        ap (λ (bs : List Bool). slice_get bs i) f
        ∙ ap (λ (j : ℕ). slice_get (m.killed ++ false ∷ []) j) (at ∙ sym k.count)
        ∙ seam m.killed false
        ∙ ap Some (sym (ap killed at ∙ spared))
    by i within false q =
        let apart = eqb-false _ _ q in
        let long = length-append launched ((a, l) ∷ []) in
        let short : i < length launched = omega (arith, apart, long, within) in
        let count = k.count in
        let low : i < length m.killed = omega (arith, short, count) in
        ap (λ (bs : List Bool). slice_get bs i) f ∙ front m.killed false i low ∙ k.killed i short

pub launched-keeps : {m : Master} (w : Setting) (s : Seen) (i : ℕ) (a : Attempt) (l : Launch) (tasks : Tasks) (launches : Launched) (writing : Writing)
    → Keeps m w s → is_task w a.task ≡ true → i ≡ place_of w a.task → Takes m.tasks i task_call.Launches tasks
    → launches.entries ≡ m.launches.entries ++ (a, l) ∷ [] → launches.killed ≡ m.launches.killed ++ false ∷ []
    → writing.due ≡ m.writing.due ++ AttemptStarted a l.node ∷ [] → writing.tail ≡ m.writing.tail → writing.is_flush_wanted ≡ m.writing.is_flush_wanted
    → s.killed (length s.launched) ≡ false → Keeps (record m { tasks = tasks; launches = launches; writing = writing }) w (with_launch (tell s a.task task_call.Launches) a l)
launched-keeps {m} w s i a l tasks launches writing k own at takes entries killed due tail flag spared = record {
  setting = k.setting;
  work = k.work;
  tasks = takes w s.calls a.task own at k.tasks;
  launches = entered m.launches launches s.launched s.killed a l k.launches entries killed spared;
  nodes = k.nodes;
  earlier = k.earlier;
  writing = record {
    due = due ∙ ap (λ (rs : List Record). rs ++ AttemptStarted a l.node ∷ []) k.writing.due;
    tail = tail ∙ k.writing.tail;
    is_flush_wanted = flag ∙ k.writing.is_flush_wanted;
  };
  bars = k.bars;
}

-- where the task stands
pub found-place : (w : Setting) (t : TaskId) (i : ℕ) → Some i ≡ (if is_task w t then Some (place_of w t) else None) → (is_task w t ≡ true) × (i ≡ place_of w t)
found-place w t i e = by (is_task w t) refl e
  where
    by : (b : Bool) → is_task w t ≡ b → Some i ≡ (if b then Some (place_of w t) else None) → (is_task w t ≡ true) × (i ≡ place_of w t)
    by true q h = (q, cc)
    by false q h = cc
