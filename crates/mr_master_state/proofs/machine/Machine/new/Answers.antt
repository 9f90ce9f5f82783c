use Rattle.std.proofs.Common.{refl, ap, length, List, Bool, arith}
use Rattle.mr_master_state.proofs.Standing.{stands-at-first}
use Rattle.mr_master_state.proofs.machine.Machine.new.Goals as goal

pub returns : goal.returns
returns c = stands-at-first _ c.args.setting (record {
  setting = refl;
  work = c.new-2.ensures;
  tasks = c.in_ok-tasks.ensures;
  launches = record { entries = c.new-3.ensures.entries; count = ap (λ (l : List Bool). length l) c.new-3.ensures.killed; killed = λ n within. absurd (omega arith) };
  nodes = c.new-4.ensures;
  earlier = c.new-5.ensures;
  writing = c.new-6.ensures;
  bars = c.new-7.ensures;
})
