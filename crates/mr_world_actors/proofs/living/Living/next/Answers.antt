use Rattle.std.proofs.Common.{sym, ◌∙◌, ap}
use Rattle.mr_world_actors.specs.Order.{in_order, next_living}
use Rattle.mr_world_actors.proofs.Living_next.{next-first, next-round}
use Rattle.mr_world_actors.proofs.living.Living.next.Goals as goal
use Rattle.mr_world_actors.proofs.living.Living.next.Goals.{in-Some+in_default-next_behind, in_default}

pub returns : goal.returns
returns c = elim c.match-after.branch [
  | in-Some+in_default-next_behind w ↦ next-round (in_order c.args.self.now) w.in-Some.c c.first.result (sym w.in_default-next_behind.is ∙ w.next_behind.ensures) c.first.ensures ∙ ap (next_living (in_order c.args.self.now)) (sym w.in-Some.is)
  | in_default w ↦ next-first (in_order c.args.self.now) c.first.result c.first.ensures ∙ ap (next_living (in_order c.args.self.now)) (sym w.in_default.is)
]
