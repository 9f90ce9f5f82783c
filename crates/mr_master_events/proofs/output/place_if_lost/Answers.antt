use Rattle.std.proofs.Common.{◌≡◌, true, false, true≢false, sym, refl, ◌∙◌, ap, Some, None, if◌then◌else◌}
use Rattle.mr_ids.specs.declared.id.TaskId.{TaskId}
use Rattle.mr_master_model.specs.declared.setting.Setting.{Setting}
use Rattle.mr_master_model.specs.Job.{is_task}
use Rattle.mr_master_model.specs.Readings.{Seen}
use Rattle.mr_master_state.specs.mr_master_tasks.specs.Places.{place_of}
use Rattle.mr_master_state.specs.State.{Keeps}
use Rattle.mr_master_state.specs.mr_master_tasks.proofs.Keeping.{not-placed}
use Rattle.mr_master_state.proofs.Entered.{found-place}
use Rattle.mr_master_state.proofs.Lying.{lost-of-job}
use Rattle.mr_master_events.proofs.output.place_if_lost.Goals as goal

pub returns-in-Some-clause-lost : goal.returns-in-Some-clause-lost
returns-in-Some-clause-lost c = λ w s keeps. sym c.if-not-is_lost_map.false ∙ c.is_lost_map.ensures w s keeps

pub returns-in-Some-clause-at : goal.returns-in-Some-clause-at
returns-in-Some-clause-at c = record { within = c.in-Some.ensures.within; own = λ w s keeps. (there w s keeps).0; at = λ w s keeps. (there w s keeps).1 }
  where
    there : (w : Setting) (s : Seen) → Keeps c.args.master.now w s → (is_task w c.args.attempt.task ≡ true) × (c.in-Some.place ≡ place_of w c.args.attempt.task)
    there w s keeps = found-place w c.args.attempt.task c.in-Some.place (c.in-Some.ensures.place w s keeps ∙ ap (λ (t : TaskId). if is_task w t then Some (place_of w t) else None) c.task.ensures)

pub returns-in-None-clause-none : goal.returns-in-None-clause-none
returns-in-None-clause-none c = λ w s keeps.
    let a = c.args.attempt in
    let lost = sym (c.is_lost_map.ensures w s keeps) ∙ c.if-not-is_lost_map.false in
    let none = not-placed w w a.task refl (c.in-None.ensures.place w s keeps ∙ ap (λ (t : TaskId). if is_task w t then Some (place_of w t) else None) c.task.ensures) in
    absurd (true≢false (sym (lost-of-job w s a a.task.kind lost) ∙ none))
