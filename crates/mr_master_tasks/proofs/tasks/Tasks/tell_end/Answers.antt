use Rattle.std.proofs.Common.{subst, sym}
use Rattle.mr_master_tasks.specs.declared.ending.Ending.{Ending}
use Rattle.mr_master_tasks.specs.Told.{call_of}
use Rattle.mr_master_tasks.specs.Tasks.{Takes}
use Rattle.mr_master_tasks.proofs.tasks.Tasks.tell_end.Goals as goal

pub returns-in-Failure : goal.returns-in-Failure
returns-in-Failure c = subst (λ (e : Ending). Takes c.args.self.now c.args.place (call_of e c.args.attempt) c.fail.new.self) (sym c.in-Failure.is) c.fail.ensures

pub returns-in-Exit : goal.returns-in-Exit
returns-in-Exit c = subst (λ (e : Ending). Takes c.args.self.now c.args.place (call_of e c.args.attempt) c.end.new.self) (sym c.in-Exit.is) c.end.ensures
