use Rattle.std.proofs.Common.{sym, ◌∙◌, ap, Some, None, if◌then◌else◌}
use Rattle.mr_ids.specs.declared.id.TaskId.{TaskId}
use Rattle.mr_master_model.specs.Job.{is_task}
use Rattle.mr_master_tasks.specs.Places.{place_of}
use Rattle.mr_master_state.proofs.Keeping.{held}
use Rattle.mr_master_tasks.proofs.Keeping.{placed, not-placed}
use Rattle.mr_master_tasks.proofs.Keeping.{never-none}
use Rattle.mr_master_state.proofs.Dying.{dead-outside}
use Rattle.mr_master_state.proofs.machine.Machine.is_live.Goals as goal

pub returns-in_default : goal.returns-in_default
returns-in_default c = λ w s keeps.
    let a = c.args.attempt in
    let k = held c.self.view_is keeps in
    dead-outside a.task w.app (s.calls a.task) a (k.tasks.outside a.task (not-placed _ w a.task k.setting
    (sym c.in_default.is ∙ c.place_of.ensures ∙ ap (λ (u : TaskId). if is_task c.self.inside.setting u then Some (place_of c.self.inside.setting u) else None) c.task.ensures)))

pub returns-in-None : goal.returns-in-None
returns-in-None c = λ w s keeps.
    let t = c.args.attempt.task in
    let k = held c.self.view_is keeps in
    let p = placed _ w t c.task.result c.in-Some.place k.setting c.task.ensures c.in-Some.ensures in
    absurd (never-none _ w s.calls t c.in-Some.place k.tasks p.0 p.1 c.in-None.ensures)
