use Rattle.std.proofs.Common.{sym, ◌∙◌}
use Rattle.mr_world_actors.specs.Order.{in_order}
use Rattle.mr_world_actors.proofs.Living_next.{first-behind, none-behind}
use Rattle.mr_world_actors.proofs.living.Living.next_behind.Goals as goal

pub returns-in_err-next : goal.returns-in_err-next
unfolding in_order
returns-in_err-next c = c.from_residual.ensures ∙ none-behind c.args.c c.args.self.now.machines.entries (sym c.in_err-next.ensures.steps.0 ∙ c.range.ensures.between tt)

pub returns : goal.returns
unfolding in_order
returns c = first-behind c.args.c c.args.self.now.machines.entries c.next.new.self (c.in_ok-next.next.now, c.in_ok-next._machine.now) (sym c.in_ok-next.ensures.steps ∙ c.range.ensures.between tt)
