use Rattle.std.proofs.Common.{ap, ◌∙◌}
use Rattle.mr_board.specs.mr_world.specs.Journal.{world_in}
use Rattle.mr_board_report.specs.Following.{has_crashed}
use Rattle.mr_board_report.specs.Runs.{Running}
use Rattle.mr_world_events.specs.declared.event.Event.TheVariants as event
use Rattle.mr_board_report.proofs.Calls.{steps}
use Rattle.mr_board_report.proofs.Running.{started}
use Rattle.mr_board_report.proofs.run.Run.start.Goals as goal

pub invariant_of-self : goal.invariant_of-self
invariant_of-self g c =
    started c.self.inside.faults c.self.inside.came c.self.inside.board c.apply_as.new.self c.args.seat.now c.apply_as.new.seat c.args.generation c.apply_as.result c.self.invariant
    (ap (λ (x : Running). has_crashed (world_in x.world)) c.self.view_is ∙ c.requires.crashed) c.apply_as.ensures.applies

pub returns : goal.returns
returns g c = record {
  steps =
      steps c.args.self.now c.self.inside.board c.apply_as.new.self c.args.seat.now c.apply_as.new.seat c.self.inside.faults c.self.inside.came c.self.view_is (event.Start c.args.generation 0) c.apply_as.result c.told_of.result
      c.told_of.ensures c.apply_as.ensures.applies;
}
