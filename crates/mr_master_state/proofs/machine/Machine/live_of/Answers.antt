use Rattle.std.proofs.Common.{refl, ◌∙◌}
use Rattle.mr_master_state.proofs.Keeping.{held}
use Rattle.mr_master_tasks.proofs.Keeping.{placed, found-at}
use Rattle.mr_master_state.proofs.Gathering.{live-all}
use Rattle.mr_master_state.proofs.machine.Machine.live_of.Goals as goal

pub returns : goal.returns
returns c = λ w s keeps.
    let t = c.args.task in
    let k = held c.self.view_is keeps in
    let p = placed _ w t t c.in-Some.place k.setting refl c.in-Some.ensures in
    let st = found-at _ w s.calls t c.in-Some.place c.in-Some-at.machine.now k.tasks p.0 p.1 c.in-Some-at.ensures in
    c.loop-i.invariant w s keeps
    ∙ live-all w s t c.arrived-arrived.result.now c.loop-i.i c.loop-i-test.false p.0 (c.arrived-arrived.ensures t w.app (s.calls t) st)
