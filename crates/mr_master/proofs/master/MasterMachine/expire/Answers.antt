use Rattle.std.proofs.Common.{Option, unwrap_or, ap, ◌∙◌}
use Rattle.mr_task.specs.declared.fault.TaskFault.TheVariants.{NoMemory}
use Rattle.mr_master_model.specs.declared.phase.LaunchFault.{LaunchFault}
use Rattle.mr_master_model.specs.declared.phase.LaunchFault.TheVariants.{Task}
use Rattle.mr_master_model.specs.Past.{Expires}
use Rattle.mr_master_events.specs.mr_master_state.proofs.Standing.{then-stands}
use Rattle.mr_master.proofs.master.MasterMachine.expire.Goals as goal

pub take-requires : goal.take-requires
take-requires c = (Expires c.args.node, c.in-Ok.ensures.ready (Expires c.args.node) c.in_ok-prepared.ensures.planned)

pub returns-in-Ok-clause-stands : goal.returns-in-Ok-clause-stands
returns-in-Ok-clause-stands c =
    then-stands c.args.self.now c.reserve.new.self c.take.new.self (Expires c.args.node) c.in-Ok.ensures.still
    (c.take.ensures.stands (Expires c.args.node) (c.in-Ok.ensures.ready (Expires c.args.node) c.in_ok-prepared.ensures.planned))

pub returns-in-Ok-clause-sent : goal.returns-in-Ok-clause-sent
returns-in-Ok-clause-sent c = λ w past k. c.take.ensures.packets ∙ c.in_ok-prepared.ensures.sent w past k

pub returns-in-Err-clause-refused : goal.returns-in-Err-clause-refused
returns-in-Err-clause-refused c = λ w past k. c.no_memory.ensures ∙ ap (λ (o : Option LaunchFault). unwrap_or o (Task NoMemory)) (c.in_ok-prepared.ensures.allowed w past k)

pub returns-in-Err-clause-unchanged : goal.returns-in-Err-clause-unchanged
returns-in-Err-clause-unchanged c = c.in-Err.ensures.expiry c.in_ok-prepared.ensures.expiry
