use Rattle.std.proofs.Common.{refl, sym, ◌∙◌}
use Rattle.mr_board_report.proofs.Calls.{due-fault, due-first, due-none, due-start, no-master, some-master}
use Rattle.mr_board.specs.mr_world.specs.Journal.{world_in}
use Rattle.mr_board_report.proofs.run.Run.make_due.Goals as goal

pub returns-then-has_crashed : goal.returns-then-has_crashed
returns-then-has_crashed g c = record {
  makes =
      due-start c.args.self.now c.start.new.self c.args.seat.now c.start.new.seat c.start.result c.next_generation.result c.newest-newest.result (sym c.has_crashed.ensures ∙ c.if-has_crashed.true) c.newest-newest.ensures
      c.next_generation.ensures c.start.ensures.steps;
}

pub returns-in-Some : goal.returns-in-Some
returns-in-Some g c = record {
  makes =
      due-fault c.args.self.now c.make_fault.new.self c.args.seat.now c.make_fault.new.seat c.make_fault.result c.in-Some.fault c.newest-newest.result (sym c.has_crashed.ensures ∙ c.if-has_crashed.false) (sym c.in-Some.ensures.is)
      c.newest-newest.ensures c.make_fault.ensures.comes;
}

pub returns-then-newest-gt0 : goal.returns-then-newest-gt0
returns-then-newest-gt0 g c = record {
  makes =
      due-none c.args.self.now c.args.self.now c.args.seat.now c.args.seat.now _ (sym c.has_crashed.ensures ∙ c.if-has_crashed.false) (sym c.in_default.ensures.is)
      (some-master (world_in c.args.self.now.world).fence c.newest-newest.result c.newest-newest.ensures c.if-newest-gt0.true) refl refl refl;
}

pub returns : goal.returns
returns g c = record {
  makes =
      due-first c.args.self.now c.make.new.self c.args.seat.now c.make.new.seat c.make.result (sym c.has_crashed.ensures ∙ c.if-has_crashed.false) (sym c.in_default.ensures.is)
      (no-master (world_in c.args.self.now.world).fence c.newest-newest.result c.newest-newest.ensures c.if-newest-gt0.false) c.make.ensures.makes;
}
