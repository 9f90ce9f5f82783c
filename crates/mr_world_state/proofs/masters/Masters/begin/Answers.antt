use Rattle.std.proofs.Common.{Some, [], ◌∷◌, ◌++◌, ap, ◌∙◌}
use Rattle.mr_world_state.proofs.Generations.{begun}
use Rattle.mr_world_state.proofs.masters.Masters.begin.Goals as goal

pub returns-clause-ok : goal.returns-clause-ok
returns-clause-ok c = begun c.args.self.now c.args.machine (record { machines = c.push.new.self }) (c.in_ok-push.ensures.items ∙ ap (λ m. c.args.self.now.machines.items ++ Some m ∷ []) c.in_ok-machine.ensures)
