use Rattle.std.proofs.Common.{sym, ◌∙◌}
use Rattle.mr_board_report.proofs.Calls.{not-by-itself, steps_calm, while-held}
use Rattle.mr_board_report.proofs.Running.{free-of, went}
use Rattle.mr_board_report.proofs.run.Run.make.Goals as goal

pub returns-then-is_held : goal.returns-then-is_held
returns-then-is_held g c = record { makes = while-held c.args.self.now c.args.seat.now c.args.event (sym c.is_held.ensures ∙ c.if-is_held.true) }

pub returns-then-not-comes_by_itself : goal.returns-then-not-comes_by_itself
returns-then-not-comes_by_itself g c = record { makes = not-by-itself c.args.self.now c.args.seat.now c.args.event (sym c.comes_by_itself.ensures ∙ c.if-not-comes_by_itself.true) }

pub invariant_of-self : goal.invariant_of-self
invariant_of-self g c =
    went c.self.inside.faults c.self.inside.came c.self.inside.board c.apply_as.new.self c.args.seat.now c.apply_as.new.seat c.args.event c.apply_as.result c.self.invariant
    (free-of c.args.self.now c.self.inside.board c.self.inside.faults c.self.inside.came c.is_held.result c.self.view_is c.is_held.ensures c.if-is_held.false)
    (sym c.comes_by_itself.ensures ∙ c.if-not-comes_by_itself.false) c.apply_as.ensures.applies

pub returns : goal.returns
returns g c = record {
  makes =
      steps_calm c.args.self.now c.self.inside.board c.apply_as.new.self c.args.seat.now c.apply_as.new.seat c.self.inside.faults c.self.inside.came c.self.view_is c.args.event c.apply_as.result c.told_of.result
      (sym c.is_held.ensures ∙ c.if-is_held.false) (sym c.comes_by_itself.ensures ∙ c.if-not-comes_by_itself.false) c.told_of.ensures c.apply_as.ensures.applies;
}
