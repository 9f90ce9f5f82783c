use Rattle.std.proofs.Common.{sym, refl, ◌∙◌}
use Rattle.mr_task.proofs.Telling.{winner-told}
use Rattle.mr_master_state.proofs.Keeping.{held}
use Rattle.mr_master_tasks.proofs.Keeping.{placed, not-placed}
use Rattle.mr_master_tasks.proofs.Keeping.{found-at, never-none}
use Rattle.mr_master_state.proofs.Lying.{none-outside}
use Rattle.mr_master_state.proofs.machine.Machine.succeeded.Goals as goal

pub returns-in_default : goal.returns-in_default
returns-in_default c = λ w s keeps. let k = held c.self.view_is keeps in
    none-outside _ w s c.args.task k (not-placed _ w c.args.task k.setting (sym c.in_default.is ∙ c.place_of.ensures))

pub returns-in-Some-at : goal.returns-in-Some-at
returns-in-Some-at c = λ w s keeps.
    let t = c.args.task in
    let k = held c.self.view_is keeps in
    let p = placed _ w t t c.in-Some.place k.setting refl c.in-Some.ensures in
    let st = found-at _ w s.calls t c.in-Some.place c.in-Some-at.machine.now k.tasks p.0 p.1 c.in-Some-at.ensures in
    c.winner.ensures t w.app (s.calls t) st ∙ winner-told t w.app (s.calls t)

pub returns-in-None : goal.returns-in-None
returns-in-None c = λ w s keeps.
    let t = c.args.task in
    let k = held c.self.view_is keeps in
    let p = placed _ w t t c.in-Some.place k.setting refl c.in-Some.ensures in
    absurd (never-none _ w s.calls t c.in-Some.place k.tasks p.0 p.1 c.in-None.ensures)
