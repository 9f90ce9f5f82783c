use Rattle.std.proofs.Common.{◌+◌, true, Ok, Err, ap, refl, sym}
use Rattle.mr_board.specs.mr_world_state.specs.declared.fault.WorldFault.{WorldFault}
use Rattle.mr_board_report.specs.Following.{event_of}
use Rattle.mr_board_report.specs.Runs.{came_of}
use Rattle.mr_board_report.specs.declared.fault.DriveFault.TheVariants as drive
use Rattle.mr_board_report.proofs.Calls.{comes_so}
use Rattle.mr_board_report.proofs.Running.{fault-full, fault-made, fault-refused}
use Rattle.mr_board_report.proofs.run.Run.make_fault.Goals as goal

pub invariant_of-self : goal.invariant_of-self
invariant_of-self g c =
    fault-made c.args.self.now c.self.inside.board c.apply_as.new.self c.args.seat.now c.apply_as.new.seat c.self.inside.faults c.self.inside.came c.args.fault c.args.newest c.event_of.result c.self.view_is c.self.invariant
    c.requires.newest c.requires.living c.requires.comes c.event_of.ensures c.in-Ok._took c.in-Ok.ensures.applies

pub invariant_of-self-in-Err-NotNow : goal.invariant_of-self-in-Err-NotNow
invariant_of-self-in-Err-NotNow g c =
    fault-refused c.args.self.now c.self.inside.board c.apply_as.new.self c.args.seat.now c.apply_as.new.seat c.self.inside.faults c.self.inside.came c.args.fault c.args.newest c.event_of.result c.self.view_is c.self.invariant
    c.requires.newest c.requires.living c.requires.comes c.event_of.ensures _ _ c.in-Err-NotNow.field-0-is c.in-Err-NotNow.ensures.applies

pub invariant_of-self-in-Err-Full : goal.invariant_of-self-in-Err-Full
invariant_of-self-in-Err-Full g c =
    fault-full c.args.self.now c.self.inside.board c.apply_as.new.self c.args.seat.now c.apply_as.new.seat c.self.inside.faults c.self.inside.came c.args.fault c.args.newest c.event_of.result c.self.view_is c.self.invariant
    c.requires.newest c.requires.living c.requires.comes c.event_of.ensures c.in-Err-Full.field-0 c.in-Err-Full.ensures.applies

pub invariant_of-self-in-Err-NoMemory : goal.invariant_of-self-in-Err-NoMemory
invariant_of-self-in-Err-NoMemory g c =
    fault-full c.args.self.now c.self.inside.board c.apply_as.new.self c.args.seat.now c.apply_as.new.seat c.self.inside.faults c.self.inside.came c.args.fault c.args.newest c.event_of.result c.self.view_is c.self.invariant
    c.requires.newest c.requires.living c.requires.comes c.event_of.ensures c.in-Err-NoMemory.field-0 c.in-Err-NoMemory.ensures.applies

pub returns-in-Ok : goal.returns-in-Ok
returns-in-Ok g c = record {
  comes =
      comes_so c.args.self.now c.self.inside.board c.apply_as.new.self c.args.seat.now c.apply_as.new.seat c.self.inside.faults c.self.inside.came c.self.view_is c.event_of.result (event_of c.args.newest c.args.fault.act) (Ok c.in-Ok._took) (Ok true) (c.self.inside.came + 1)
      c.event_of.ensures refl refl c.in-Ok.ensures.applies;
}

pub returns-in-Err-NotNow : goal.returns-in-Err-NotNow
returns-in-Err-NotNow g c = record {
  comes =
      comes_so c.args.self.now c.self.inside.board c.apply_as.new.self c.args.seat.now c.apply_as.new.seat c.self.inside.faults c.self.inside.came c.self.view_is c.event_of.result (event_of c.args.newest c.args.fault.act) (Err c.in-Err-NotNow.field-0) (Ok true) (c.self.inside.came + 1)
      c.event_of.ensures (sym (ap (λ (x : WorldFault). came_of (Err x)) c.in-Err-NotNow.field-0-is)) refl c.in-Err-NotNow.ensures.applies;
}

pub returns-in-Err-Full : goal.returns-in-Err-Full
returns-in-Err-Full g c = record {
  comes =
      comes_so c.args.self.now c.self.inside.board c.apply_as.new.self c.args.seat.now c.apply_as.new.seat c.self.inside.faults c.self.inside.came c.self.view_is c.event_of.result (event_of c.args.newest c.args.fault.act) (Err c.in-Err-Full.field-0) (Err drive.Full) c.self.inside.came
      c.event_of.ensures (sym (ap (λ (x : WorldFault). came_of (Err x)) c.in-Err-Full.field-0-is)) refl c.in-Err-Full.ensures.applies;
}

pub returns-in-Err-NoMemory : goal.returns-in-Err-NoMemory
returns-in-Err-NoMemory g c = record {
  comes =
      comes_so c.args.self.now c.self.inside.board c.apply_as.new.self c.args.seat.now c.apply_as.new.seat c.self.inside.faults c.self.inside.came c.self.view_is c.event_of.result (event_of c.args.newest c.args.fault.act) (Err c.in-Err-NoMemory.field-0) (Err drive.NoMemory) c.self.inside.came
      c.event_of.ensures (sym (ap (λ (x : WorldFault). came_of (Err x)) c.in-Err-NoMemory.field-0-is)) refl c.in-Err-NoMemory.ensures.applies;
}
