use Rattle.std.proofs.Common.{subst, Option}
use Rattle.mr_master_model.specs.Duty as due
use Rattle.mr_master_model.specs.Next.{seen}
use Rattle.mr_master.specs.State.{Answers}
use Rattle.mr_world_state.specs.inner.Asking.{RefusesDutyOf}
use Rattle.mr_world_state.specs.declared.fault.WorldFault.TheVariants as fault
use Rattle.mr_world_state.proofs.Asking.{if-err, has-duty, no-duty, no-memory}
use Rattle.mr_world_state.proofs.next_call.next_call.Goals as goal

pub returns-in_err-duty-clause-refused : goal.returns-in_err-duty-clause-refused
returns-in_err-duty-clause-refused c = if-err (RefusesDutyOf c.args.machine.now) c.from_residual.result fault.NoMemory
    (λ p k at. no-memory p k c.args.machine.now at c.in_err-duty.ensures.due_on_memory) c.from_residual.ensures.1

pub returns-in-Some-clause-due : goal.returns-in-Some-clause-due
returns-in-Some-clause-due c = λ p k at. has-duty p k c.args.machine.now c.in-Some.duty at
    (subst (λ (o : Option due.Duty). Answers c.args.machine.now (λ w past. due.duty w (seen w past)) o) c.in-Some.is c.in_ok-duty.ensures.due)

pub returns-in-None-clause-refused : goal.returns-in-None-clause-refused
returns-in-None-clause-refused c = λ p k at. no-duty p k c.args.machine.now at
    (subst (λ (o : Option due.Duty). Answers c.args.machine.now (λ w past. due.duty w (seen w past)) o) c.in-None.is c.in_ok-duty.ensures.due)
