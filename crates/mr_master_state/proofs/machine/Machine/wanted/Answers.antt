use Rattle.std.proofs.Common.{sym, subst, ◌∙◌, ap}
use Rattle.mr_ids.specs.declared.id.TaskKind.{TaskKind}
use Rattle.mr_ids.specs.declared.id.TaskKind.TheVariants.{Map, Reduce}
use Rattle.mr_master_model.specs.Past.{Work}
use Rattle.mr_master_model.specs.Readings.{is_running}
use Rattle.mr_master_tasks.specs.Progress.{waits, IsNextOf}
use Rattle.mr_master_state.proofs.Keeping.{held}
use Rattle.mr_master_state.proofs.Wanting.{wants-none, wants-map, wants-reduce}
use Rattle.mr_master_state.proofs.machine.Machine.wanted.Goals as goal

pub returns-in_default : goal.returns-in_default
returns-in_default c = λ w s keeps. let k = held c.self.view_is keeps in
    let runs = sym (ap (λ (x : Work). is_running x) k.work) ∙ sym c.is_running.ensures ∙ c.if-not-is_running.false in
    wants-none w s runs (c.in_default.ensures.none w s.calls Map k.tasks) (c.in_default.ensures.none w s.calls Reduce k.tasks)

pub returns-in-Map : goal.returns-in-Map
returns-in-Map c = λ w s keeps. let k = held c.self.view_is keeps in
    let runs = sym (ap (λ (x : Work). is_running x) k.work) ∙ sym c.is_running.ensures ∙ c.if-not-is_running.false in
    let t = c.in-Some.task in
    wants-map w s t runs (subst (λ (kind : TaskKind). IsNextOf kind w (λ u. waits u w.app (s.calls u)) t) c.in-Map.is (c.in-Some.ensures.some w s.calls k.tasks))

pub returns-in-Reduce : goal.returns-in-Reduce
returns-in-Reduce c = λ w s keeps. let k = held c.self.view_is keeps in
    let runs = sym (ap (λ (x : Work). is_running x) k.work) ∙ sym c.is_running.ensures ∙ c.if-not-is_running.false in
    let t = c.in-Some.task in
    let next = subst (λ (kind : TaskKind). IsNextOf kind w (λ u. waits u w.app (s.calls u)) t) c.in-Reduce.is (c.in-Some.ensures.some w s.calls k.tasks) in
    wants-reduce w s t _ runs next.0 next.1 (c.once_maps_succeeded.ensures w s keeps)
