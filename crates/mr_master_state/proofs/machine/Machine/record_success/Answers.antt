use Rattle.mr_master_state.proofs.Keeping.{held}
use Rattle.mr_master_tasks.proofs.Keeping.{placed}
use Rattle.mr_master_state.proofs.Flushes.{success-keeps}
use Rattle.mr_master_state.proofs.machine.Machine.record_success.Goals as goal

pub returns-then-place-len-clause-moves : goal.returns-then-place-len-clause-moves
returns-then-place-len-clause-moves c = λ w s keeps. let k = held c.self.view_is keeps in
    let p = placed _ w c.args.attempt.task _ c.in-Some.place k.setting c.task.ensures c.in-Some.ensures in
    success-keeps _ w s c.args.attempt c.in-Some.place c.record.new.self k p c.record.ensures
