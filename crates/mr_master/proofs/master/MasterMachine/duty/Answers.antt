use Rattle.mr_master.proofs.Past_stays.{none-live}
use Rattle.mr_master.proofs.master.MasterMachine.duty.Goals as goal

pub next_duty-requires : goal.next_duty-requires
next_duty-requires c = none-live c.self.inside.machine c.self.inside.passed c.self.invariant
