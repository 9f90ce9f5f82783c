use Rattle.std.proofs.Common.{Some}
use Rattle.mr_world_actors.specs.Living.{kept}
use Rattle.mr_world_actors.proofs.Keys.{changed}
use Rattle.mr_world_actors.proofs.living.Living.insert.Goals as goal

pub returns-clause-ok : goal.returns-clause-ok
unfolding kept
returns-clause-ok c = λ d. changed c.args.c d (Some c.args.machine) (kept c.args.self.now d) _ (c.in_ok-insert.ensures.updates.0 d)
