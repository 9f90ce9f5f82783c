use Rattle.mr_master_tables.proofs.Agreeing.{agree_each, all_agree}
use Rattle.mr_master_tables.proofs.nodes.Nodes.is_same.Goals as goal

pub returns-then-agrees : goal.returns-then-agrees
returns-then-agrees c = (
  λ yes. all_agree c.args.self.now c.args.other.now c.noted.result.now c.noted-then-agrees.result.now c.noted.ensures c.noted-then-agrees.ensures (c.agrees.ensures.0 c.if-agrees.true) (c.agrees-then-agrees.ensures.0 yes),
  λ same. c.agrees-then-agrees.ensures.1 (agree_each c.args.self.now c.args.other.now c.noted-then-agrees.result.now same),
)
