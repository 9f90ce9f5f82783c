use Rattle.mr_master.proofs.Past_stays.{none-live}
use Rattle.mr_master.proofs.master.MasterMachine.duty_name.Goals as goal

pub next_duty_name-requires : goal.next_duty_name-requires
next_duty_name-requires c = none-live c.self.inside.machine c.self.inside.passed c.self.invariant
