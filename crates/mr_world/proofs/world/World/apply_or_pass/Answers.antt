use Rattle.mr_world.proofs.Journals.{ran-taken, passed-over, passes-full, passes-memory}
use Rattle.mr_world.proofs.world.World.apply_or_pass.Goals as goal

pub returns-in-Ok : goal.returns-in-Ok
returns-in-Ok c = ran-taken c.args.self.now c.apply.new.self c.args.event c.in-Ok._took c.in-Ok.ensures.applies

pub returns-in-Err-NotNow : goal.returns-in-Err-NotNow
returns-in-Err-NotNow c = passed-over c.args.self.now c.apply.new.self c.args.event _ _ c.in-Err-NotNow.field-0-is c.in-Err-NotNow.ensures.applies

pub returns-in-Err-Full : goal.returns-in-Err-Full
returns-in-Err-Full c = passes-full c.args.self.now c.apply.new.self c.args.event _ c.in-Err-Full.field-0-is c.in-Err-Full.ensures.applies

pub returns-in-Err-NoMemory : goal.returns-in-Err-NoMemory
returns-in-Err-NoMemory c = passes-memory c.args.self.now c.apply.new.self c.args.event _ c.in-Err-NoMemory.field-0-is c.in-Err-NoMemory.ensures.applies
