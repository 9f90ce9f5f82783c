use Rattle.std.proofs.Common.{◌≡◌, subst, map, IfOk}
use Rattle.std.proofs.lemmas.Result.{IfOk-weaker}
use Rattle.std.specs.List.{range_with_len}
use Rattle.mr_world_model.specs.Claims.{winner}
use Rattle.mr_world_model.specs.Ids.{reduce_of}
use Rattle.mr_world.specs.Journal.{Journal, run_of, world_in}
use Rattle.mr_world.proofs.world.World.winners.Goals as goal

pub returns-clause-is : goal.returns-clause-is
returns-clause-is c = subst (λ (j : Journal). IfOk c.recorded_winners.result (λ all. all.items ≡ map (λ r. winner (world_in j) (reduce_of j.config.job r)) (range_with_len 0 j.config.reduces))) c.self.view_is
    (IfOk-weaker c.recorded_winners.result _ _ (λ all is. is (run_of c.self.inside.parts.config c.self.inside.journal.items) c.self.invariant.stands) c.recorded_winners.ensures.is)
