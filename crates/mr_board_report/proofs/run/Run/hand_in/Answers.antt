use Rattle.std.proofs.Common.{sym, ◌∙◌}
use Rattle.mr_board_report.proofs.Calls.{hands-nothing, steps_hand}
use Rattle.mr_board_report.proofs.Running.{free-of, handed}
use Rattle.mr_board_report.proofs.run.Run.hand_in.Goals as goal

pub returns-then-is_held : goal.returns-then-is_held
returns-then-is_held g c = record { hands = hands-nothing c.args.self.now c.args.seat.now c.args.done (sym c.is_held.ensures ∙ c.if-is_held.true) }

pub invariant_of-self : goal.invariant_of-self
invariant_of-self g c =
    handed c.self.inside.faults c.self.inside.came c.self.inside.board c.hand_in_as.new.self c.args.seat.now c.hand_in_as.new.seat c.args.done c.hand_in_as.result c.self.invariant
    (free-of c.args.self.now c.self.inside.board c.self.inside.faults c.self.inside.came c.is_held.result c.self.view_is c.is_held.ensures c.if-is_held.false)
    c.hand_in_as.ensures.hands

pub returns : goal.returns
returns g c = record {
  hands =
      steps_hand c.args.self.now c.self.inside.board c.hand_in_as.new.self c.args.seat.now c.hand_in_as.new.seat c.self.inside.faults c.self.inside.came c.self.view_is c.args.done c.hand_in_as.result c.told_of.result
      (sym c.is_held.ensures ∙ c.if-is_held.false) c.told_of.ensures c.hand_in_as.ensures.hands;
}
