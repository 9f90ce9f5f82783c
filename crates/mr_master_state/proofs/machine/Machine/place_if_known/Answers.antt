use Rattle.std.proofs.Common.{◌∙◌}
use Rattle.mr_master_state.proofs.Keeping.{held, known-answer}
use Rattle.mr_master_tasks.proofs.Keeping.{placed}
use Rattle.mr_master_state.proofs.Containers.{known-place, unknown-place}
use Rattle.mr_master_state.proofs.machine.Machine.place_if_known.Goals as goal

pub returns-then-is_arrived-clause-known : goal.returns-then-is_arrived-clause-known
returns-then-is_arrived-clause-known c = λ w s keeps. let k = held c.self.view_is keeps in
    let p = placed _ w c.args.attempt.task _ c.in_ok-place.place k.setting c.task.ensures c.in_ok-place.ensures in
    known-place w s c.args.attempt _ (known-answer _ w s c.args.attempt _ _ k p.0 p.1 c.is_arrived.ensures.arrived ∙ c.if-is_arrived.true) p.1

pub returns-else-is_arrived-clause-known : goal.returns-else-is_arrived-clause-known
returns-else-is_arrived-clause-known c = λ w s keeps. let k = held c.self.view_is keeps in
    let p = placed _ w c.args.attempt.task _ c.in_ok-place.place k.setting c.task.ensures c.in_ok-place.ensures in
    unknown-place w s c.args.attempt (known-answer _ w s c.args.attempt _ _ k p.0 p.1 c.is_arrived.ensures.arrived ∙ c.if-is_arrived.false)
